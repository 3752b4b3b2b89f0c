use native.Mathlib.Omega.{arith}
use borrow.Author.Tests.{lt-ltb, le-ltb, ne_eqb}
use Rattle.migrate.specs.Format.{digit_value}
use Rattle.migrate.specs.Reading.{grown}
use Rattle.migrate.proofs.Bytes.{at_its_end}
use Rattle.migrate.proofs.reading.grown.Goals as goal

-- a space is no digit
pub returns-in-Cycle-default : goal.returns-in-Cycle-default
unfolding grown digit_value
returns-in-Cycle-default c = rw (c.in-Cycle-default.is-0, c.if-b-eq32.true)

pub returns-in-Cycle-Some : goal.returns-in-Cycle-Some
unfolding grown
returns-in-Cycle-Some c =
    rw (c.in-Cycle-default.is-0, ← c.in-Cycle-Some.ensures.1, lt-ltb _ _ c.if-d-lt10.true) c.longer.ensures

pub returns-in-Nothing-Some : goal.returns-in-Nothing-Some
unfolding grown
returns-in-Nothing-Some c =
    rw (c.in-Nothing-Some.is-0, ← c.in-Nothing-Some.ensures.1, lt-ltb _ _ c.if-d-lt10-2.true) c.longer-in-Nothing-Some.ensures

pub returns-in-Space-Some : goal.returns-in-Space-Some
unfolding grown
returns-in-Space-Some c = rw (c.in-Space-Some.is-0, lt-ltb _ _ c.in-Space-Some.ensures.0, c.in-Space-Some.ensures.1)

pub returns-in-Digit-Some : goal.returns-in-Digit-Some
unfolding grown
returns-in-Digit-Some c = rw (c.in-Digit-Some.is-0, lt-ltb _ _ c.in-Digit-Some.ensures.0, c.in-Digit-Some.ensures.1)

pub returns-in_default : goal.returns-in_default
unfolding grown
returns-in_default c =
    rw (c.in-Cycle-default.is-0, ← c.in-Cycle-Some.ensures.1, le-ltb _ _ c.if-d-lt10.false, ne_eqb _ _ c.if-b-eq32.false)

pub returns-in_default-2 : goal.returns-in_default-2
unfolding grown
returns-in_default-2 c =
    rw (c.in-Cycle-default.is-0, le-ltb (digit_value c.args.b) 10 (omega (arith, c.in_default.ensures)), ne_eqb _ _ c.if-b-eq32.false)

pub returns-in_default-3 : goal.returns-in_default-3
unfolding grown
returns-in_default-3 c = rw (c.in-Nothing-Some.is-0, ← c.in-Nothing-Some.ensures.1, le-ltb _ _ c.if-d-lt10-2.false)

pub returns-in_default-4 : goal.returns-in_default-4
unfolding grown
returns-in_default-4 c = rw (c.in_default.is-0, le-ltb (digit_value c.args.b) 10 (omega (arith, c.in_default.ensures)))

pub returns-in_default-5 : goal.returns-in_default-5
unfolding grown
returns-in_default-5 c = rw (c.in_default.is-0, le-ltb (digit_value c.args.b) 16 (omega (arith, c.in_default.ensures)))

pub returns-in_default-6 : goal.returns-in_default-6
unfolding grown
returns-in_default-6 c = rw (c.in_default.is-0, le-ltb (digit_value c.args.b) 16 (omega (arith, c.in_default.ensures)))

pub returns-in_default-7 : goal.returns-in_default-7
returns-in_default-7 c =
    let rest = c.in_default in
    at_its_end _ _ rest.not-Nothing-0 rest.not-Cycle-0 rest.not-Space-0 rest.not-Digit-0
