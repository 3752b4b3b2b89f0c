-- The lowest line that is up goes first, XIRQ is let in by X alone, and RTI by its two cases; a line as one that is there, or none.
-- Assumes nothing.
use Prim.Native.Nat.{ℕ, ◌*◌, ◌/◌, ◌%◌, ◌<◌, ◌≤◌}
use native.Mathlib.Omega.{arith}
use mathlib.Core.Path.{◌≡◌, sym, ◌∙◌, ap}
use mathlib.Core.Bool.{Bool, true, false, ◌&&◌, not}
use mathlib.Core.List.{List}
use native.Mathlib.Decide.{dec_lt}
use Rattle.std.specs.Prelude.{Some, None}
use Rattle.std.proofs.lemmas.Option.{none-some, same_Some}
use lib.Dec.{T, eqb, eqb→eq, ltb}
use borrow.Author.Tests.{eq-eqb, lt-ltb, le-ltb}
use Rattle.word.specs.Word.{pick, bit_of}
use Rattle.word.proofs.Table.{every_below, at_number}
use Rattle.state.specs.declared.Flags.{Flags}
use Rattle.state.specs.declared.State.{State}
use Rattle.state.specs.State.{with_sp}
use Rattle.effect.specs.declared.Effect.{Effect}
use Rattle.effect.specs.Effect.{quiet}
use Rattle.frames.specs.Frames.{pulled_frame}
use Rattle.machine.specs.Names.{no_line, return_and_entry_cost}
use Rattle.requests.specs.Requests.{lowest_line, LowestFirst, allowed_line, as_line, vectored, rti_effect}

-- the bits from 1 to 5, as a number below 32, are those of the line byte
five_bits :
    (line : ℕ) →
    (line / 2 % 32 * 2 / 2 % 2 ≡ line / 2 % 2)
    × (line / 2 % 32 * 2 / 4 % 2 ≡ line / 4 % 2)
    × (line / 2 % 32 * 2 / 8 % 2 ≡ line / 8 % 2)
    × (line / 2 % 32 * 2 / 16 % 2 ≡ line / 16 % 2)
    × (line / 2 % 32 * 2 / 32 % 2 ≡ line / 32 % 2)
five_bits line = (omega arith, omega arith, omega arith, omega arith, omega arith)

-- so they tell which it is
by_five : (line : ℕ) → lowest_line line ≡ lowest_line (line / 2 % 32 * 2)
by_five line =
    let same = five_bits line in
    rw (same.0, same.1, same.2, same.3, same.4)

-- Where all such numbers that leave a rest have this lowest line, a line byte that leaves it does. The first is one computed test.
abbrev has_lowest : ℕ → ℕ → ℕ → ℕ → Bool
has_lowest modulus rest k v = pick (eqb (v % modulus) rest) (eqb (lowest_line (v * 2)) k) true

by_rest :
    (modulus rest k : ℕ) → T (every_below (has_lowest modulus rest k) 32) → (line : ℕ) → line / 2 % 32 % modulus ≡ rest → lowest_line line ≡ k
by_rest modulus rest k all line leaves =
    let v = line / 2 % 32 in
    let tested = at_number (has_lowest modulus rest k) 32 all v (omega arith) in
    by_five line ∙ eqb→eq _ _ (rw (eq-eqb (v % modulus) rest leaves) at tested)

pub lowest_first : (line : ℕ) → LowestFirst line
lowest_first line =
    record {
      one = λ up. by_rest 2 1 1 tt line (omega (arith, up));
      two = λ up. by_rest 4 2 2 tt line (omega (arith, up));
      three = λ up. by_rest 8 4 3 tt line (omega (arith, up));
      four = λ up. by_rest 16 8 4 tt line (omega (arith, up));
      five = λ up. by_rest 32 16 5 tt line (omega (arith, up));
      none = λ up. by_rest 32 0 6 tt line (omega (arith, up));
    }

-- XIRQ is none of the lines that I masks
above_xirq : (line : ℕ) → lowest_line line ≡ 0 → ⊥
above_xirq line = go (bit_of 1 line) (bit_of 2 line) (bit_of 3 line) (bit_of 4 line) (bit_of 5 line)
  where
    go : (b1 b2 b3 b4 b5 : Bool) → pick b1 1 (pick b2 2 (pick b3 3 (pick b4 4 (pick b5 5 no_line)))) ≡ 0 → ⊥
    go true b2 b3 b4 b5 e = omega (arith, e)
    go false true b3 b4 b5 e = omega (arith, e)
    go false false true b4 b5 e = omega (arith, e)
    go false false false true b5 e = omega (arith, e)
    go false false false false true e = omega (arith, e)
    go false false false false false e = omega (arith, e)

-- where XIRQ is the line that some codes allow, it is the line that all codes allow in which X is clear
pub xirq_by_x : (f g : Flags) (line : ℕ) → allowed_line f line ≡ 0 → g.x ≡ false → allowed_line g line ≡ 0
unfolding allowed_line
xirq_by_x f g line taken clear = go (bit_of 0 line) f.x f.i taken
  where
    go :
        (up x i : Bool) →
        pick (up && not x) 0 (pick i no_line (lowest_line line)) ≡ 0 →
        pick (up && not g.x) 0 (pick g.i no_line (lowest_line line)) ≡ 0
    go true x i e = rw clear
    go false x true e = absurd (omega (arith, e))
    go false x false e = absurd (above_xirq line e)

-- RTI, by whether the masks that were pulled allow a line
module _ (s : State) (m : List ℕ) (line cost : ℕ) {t : State} {k : ℕ} (pulled : t ≡ pulled_frame s m) (allowed : k ≡ allowed_line t.flags line) where
  abbrev by : State → ℕ → Bool → Effect
  by u j takes = pick takes (quiet (vectored (with_sp u s.sp) m j) return_and_entry_cost) (quiet u cost)

  by_line : by t k (ltb k no_line) ≡ rti_effect s m line cost
  unfolding rti_effect
  by_line =
      ap (λ j. by t j (ltb j no_line)) allowed
      ∙ ap (λ (u : State). by u (allowed_line u.flags line) (ltb (allowed_line u.flags line) no_line)) pulled

  pub returns_taking : k < no_line → rti_effect s m line cost ≡ quiet (vectored (with_sp t s.sp) m k) return_and_entry_cost
  returns_taking low = sym by_line ∙ ap (by t k) (lt-ltb k no_line low)

  pub returns_plainly : no_line ≤ k → rti_effect s m line cost ≡ quiet t cost
  returns_plainly none = sym by_line ∙ ap (by t k) (le-ltb k no_line none)

-- a line that is there is its number, and none of the numbers of a line stands where there is none
pub line_there : (n k : ℕ) → as_line n ≡ Some k → (n ≡ k) × (ltb n no_line ≡ true)
line_there n k e = go (dec_lt n no_line)
  where
    go : Dec (n < no_line) → (n ≡ k) × (ltb n no_line ≡ true)
    go (yes low) = let is = lt-ltb n no_line low in (same_Some n k (rw is at e), is)
    go (no high) = absurd (none-some k (rw (le-ltb n no_line (omega (arith, high))) at e))

pub line_absent : (n : ℕ) → as_line n ≡ None → ltb n no_line ≡ false
line_absent n e = go (dec_lt n no_line)
  where
    go : Dec (n < no_line) → ltb n no_line ≡ false
    go (yes low) = absurd (none-some n (sym (rw (lt-ltb n no_line low) at e)))
    go (no high) = le-ltb n no_line (omega (arith, high))
