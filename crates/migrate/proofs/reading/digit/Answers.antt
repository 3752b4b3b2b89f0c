use native.Mathlib.Omega.{arith}
use mathlib.Core.Path.{refl}
use Rattle.migrate.specs.Format.{digit_value}
use Rattle.migrate.proofs.Bytes.{inside}
use Rattle.migrate.proofs.reading.digit.Goals as goal

pub returns-then-b : goal.returns-then-b
unfolding digit_value
returns-then-b c = rw c.if-b.true (omega (arith, inside 48 57 c.args.b c.if-b.true), refl)

pub returns-then-b-2 : goal.returns-then-b-2
unfolding digit_value
returns-then-b-2 c =
    let is = inside 65 70 c.args.b c.if-b-2.true in
    rw (c.if-b.false, c.if-b-2.true) (omega (arith, is), omega (arith, is))

pub returns-then-b-3 : goal.returns-then-b-3
unfolding digit_value
returns-then-b-3 c =
    let is = inside 97 102 c.args.b c.if-b-3.true in
    rw (c.if-b.false, c.if-b-2.false, c.if-b-3.true) (omega (arith, is), omega (arith, is))

pub returns : goal.returns
unfolding digit_value
returns c = rw (c.if-b.false, c.if-b-2.false, c.if-b-3.false) (λ h. omega (arith, h))
