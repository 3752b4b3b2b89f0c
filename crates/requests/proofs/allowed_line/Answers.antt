use Prim.Native.Nat.{ℕ, ◌/◌, ◌%◌, ◌^◌}
use native.Mathlib.Omega.{arith}
use mathlib.Core.Path.{◌≡◌, refl}
use mathlib.Core.Bool.{Bool, true, false, ◌&&◌, not}
use lib.Dec.{eqb}
use Rattle.word.specs.Word.{pick}
use Rattle.state.specs.declared.Flags.{Flags}
use Rattle.machine.specs.Names.{no_line}
use Rattle.requests.specs.Requests.{lowest_line, allowed_line}
use Rattle.requests.proofs.allowed_line.Goals as goal

-- where no line is up none is allowed, whatever the masks
none_up : (f : Flags) → allowed_line f 0 ≡ no_line
unfolding allowed_line
none_up f = go f.i
  where
    go : (i : Bool) → pick i no_line (lowest_line 0) ≡ no_line
    go true = refl
    go false = refl

-- the line's bit 0, and X clear
abbrev warns : Flags → ℕ → Bool
warns f line = eqb (line % 2) 1 && not f.x

-- bit 0 is told by the number itself
undivided : (n : ℕ) → n / 2 ^ 0 ≡ n
undivided n = omega arith

pub returns-then-line-eq0 : goal.returns-then-line-eq0
returns-then-line-eq0 c = rw (c.if-line-eq0.true, none_up c.args.f)

pub returns-then-warned : goal.returns-then-warned
unfolding allowed_line
returns-then-warned c =
    let a = c.args in
    let up : warns a.f a.line ≡ true = c.if-warned.true in
    rw (undivided _, up)

pub returns-then-f : goal.returns-then-f
unfolding allowed_line
returns-then-f c =
    let a = c.args in
    let down : warns a.f a.line ≡ false = c.if-warned.false in
    rw (undivided _, down, c.if-f.true)

pub returns : goal.returns
unfolding allowed_line
returns c =
    let a = c.args in
    let down : warns a.f a.line ≡ false = c.if-warned.false in
    rw (undivided _, down, c.if-f.false, c.lowest_line.ensures)
