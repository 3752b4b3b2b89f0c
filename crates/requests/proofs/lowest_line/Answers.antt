use Prim.Native.Nat.{ℕ, ◌<◌}
use mathlib.Core.Bool.{Bool, ◌&&◌}
use lib.Count.{count_trailing_zeros}
use lib.Dec.{T, eqb, eqb→eq, ltb}
use borrow.Author.Tests.{eq-eqb, ne_eqb, lt-ltb}
use Rattle.std.proofs.Math.Facts.{ltb_yes}
use Rattle.std.specs.Prelude.{bit_and}
use Rattle.word.specs.Word.{pick}
use Rattle.word.proofs.Table.{at_number, and_left, and_right}
use Rattle.machine.specs.Names.{no_line}
use Rattle.requests.specs.Requests.{lowest_line}
use Rattle.requests.proofs.lowest_line.Goals as goal

-- the bits 1 to 5 of a line byte
abbrev up : ℕ → ℕ
up line = bit_and line 62

-- the lowest of them is the lowest line, and where none is set there is no line: one computed test over all line bytes
abbrev tells : ℕ → Bool
tells line =
    pick (eqb (up line) 0) (eqb (lowest_line line) no_line)
    (eqb (lowest_line line) (count_trailing_zeros 8 (up line)) && ltb (count_trailing_zeros 8 (up line)) no_line)

told : (line : ℕ) → line < 256 → T (tells line)
unfolding count_trailing_zeros
told line small = at_number tells 256 tt line small

pub returns-then-up-eq0 : goal.returns-then-up-eq0
returns-then-up-eq0 c =
    let line = c.args.line in
    let all = told line c.ranges.line.fits in
    let none : T (eqb (lowest_line line) no_line) = rw (eq-eqb (up line) 0 c.if-up-eq0.true) at all in
    rw (eqb→eq (lowest_line line) no_line none)

pub returns : goal.returns
returns c =
    let line = c.args.line in
    let all = told line c.ranges.line.fits in
    let lowest = count_trailing_zeros 8 (up line) in
    let is = eqb (lowest_line line) lowest in
    let low = ltb lowest no_line in
    let some : T (is && low) = rw (ne_eqb (up line) 0 c.if-up-eq0.false) at all in
    let below : lowest < no_line = ltb_yes (and_right is low some) in
    rw (eqb→eq (lowest_line line) lowest (and_left is low some), lt-ltb lowest no_line below)
