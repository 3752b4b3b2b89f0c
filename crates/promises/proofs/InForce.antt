-- The line byte in force, by the records on both sides of a clock value. On the definitions alone. Assumes nothing.
use Prim.Native.Nat.{ℕ, zero, suc, ◌+◌, ◌-◌, ◌<◌, ◌≤◌}
use native.Mathlib.Omega.{arith}
use native.Mathlib.Decide.{dec_lt}
use mathlib.Core.Path.{◌≡◌, refl, sym, ◌∙◌, ap}
use mathlib.Core.Bool.{true, true≢false}
use mathlib.Core.List.{List}
use lib.ListN.{length, get_or}
use Rattle.std.proofs.lemmas.Bool.{true_from_ne_false}
use Rattle.schedule.specs.Schedule.{rising, passed, line_before}
use Rattle.schedule.proofs.Laws.{passed_inside, passed_here, passed_on, accepted_same, accepted_rising, line_of_place}
use Rattle.refusals.specs.Given.{Given, line_in}
use Rattle.promises.specs.Replies.{BadSchedule}
use Rattle.promises.specs.Plain.{EveryLineByte}
use Rattle.promises.proofs.Replies.{falling, fallen, good_schedule}

-- each record is after the one before it, and so after every earlier one
abbrev pub Rises : List ℕ → Type 0
Rises cs = (k : ℕ) → suc k < length cs → get_or cs k 0 < get_or cs (suc k) 0

pub rises : (cs : List ℕ) → rising cs ≡ true → Rises cs
rises cs up k h = go (dec_lt (get_or cs k 0) (get_or cs (suc k) 0))
  where
    go : Dec (get_or cs k 0 < get_or cs (suc k) 0) → get_or cs k 0 < get_or cs (suc k) 0
    go (yes l) = l
    go (no l) = absurd (true≢false (sym up ∙ fallen cs k h (omega (arith, l))))

pub rising_so : (cs : List ℕ) → Rises cs → rising cs ≡ true
rising_so cs up =
    true_from_ne_false (rising cs)
    (λ e.
    let at = falling cs e in
    let rise = up at.0 at.1 in
    omega (arith, rise, at.2))

pub earlier : (cs : List ℕ) → Rises cs → (d i k : ℕ) → i + d ≡ k → k < length cs → get_or cs i 0 ≤ get_or cs k 0
earlier cs up zero i k e h =
    let is : i ≡ k = omega (arith, e) in
    let same = ap (λ (n : ℕ). get_or cs n 0) is in
    omega (arith, same)
earlier cs up (suc d) i k e h =
    let is : suc (i + d) ≡ k = omega (arith, e) in
    let before = earlier cs up d i (i + d) refl (omega (arith, e, h)) in
    let next = up (i + d) (omega (arith, e, h)) in
    let same = ap (λ (n : ℕ). get_or cs n 0) is in
    omega (arith, before, next, same)

module _ (given : Given) (clock : ℕ) (good : BadSchedule given → ⊥) where
  abbrev cycle : ℕ → ℕ
  cycle k = get_or given.cycles k 0

  up : rising given.cycles ≡ true
  up = accepted_rising 64 given.cycles given.lines ((good_schedule given).1 good)

  -- where a record is at or before the clock, so are those before it
  counted : (j k : ℕ) → j ≤ suc k → k < length given.cycles → cycle k ≤ clock → j ≤ passed given.cycles clock
  counted zero k h inside due = omega arith
  counted (suc j) k h inside due =
      let rest = counted j k (omega (arith, h)) inside due in
      let low = earlier given.cycles (rises given.cycles up) (k - j) j k (omega (arith, h)) inside in
      passed_on given.cycles clock j rest (omega (arith, h, inside)) (omega (arith, low, due))

  by_place : (place : ℕ) → passed given.cycles clock ≡ place → line_in given clock ≡ line_before given.lines place
  by_place place is =
      let same = accepted_same 64 given.cycles given.lines ((good_schedule given).1 good) in
      line_of_place given.cycles given.lines clock up same
      ∙ ap (line_before given.lines) is

  -- as many records are counted, where the next one, if there is one, is after the clock
  place_is_lem :
      (place : ℕ) → place ≤ passed given.cycles clock → (place < length given.cycles → clock < cycle place) →
      passed given.cycles clock ≡ place
  place_is_lem place low next = go (dec_lt place (length given.cycles))
    where
      go : Dec (place < length given.cycles) → passed given.cycles clock ≡ place
      go (yes l) = sym (passed_here given.cycles clock place low l (next l))
      go (no l) = let most = passed_inside given.cycles clock in omega (arith, l, low, most)

pub every_line_byte : EveryLineByte
every_line_byte given clock good =
    record {
      last = λ k inside due next. by_place given clock good (suc k) (place_is_lem given clock good (suc k) (counted given clock good (suc k) k (omega arith) inside due) next);
      none = λ next. by_place given clock good 0 (place_is_lem given clock good 0 (omega arith) next);
    }
