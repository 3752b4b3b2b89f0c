-- Schedules set back, in both forms, and cut off after a clock value: the line bytes in force are the same, and they are accepted. On the
-- definitions alone. Assumes nothing.
use Prim.Native.Nat.{ℕ, zero, suc, ◌+◌, ◌-◌, ◌<◌, ◌≤◌, min}
use native.Mathlib.Omega.{arith}
use native.Mathlib.Decide.{dec_lt}
use mathlib.Core.Path.{◌≡◌, refl, sym, ◌∙◌, ap}
use mathlib.Core.Bool.{Bool, true, false}
use mathlib.Core.List.{List, [], ◌∷◌, map}
use lib.Dec.{leb}
use lib.ListN.{length, get_or, take, drop, length-map, length-take, length-drop, get_or-map}
use lib.Seq.{get_or-take, get_or-drop}
use borrow.Author.Tests.{leb-true, leb-false, le-leb, lt-leb}
use Rattle.word.specs.Word.{pick}
use Rattle.schedule.specs.Schedule.{rising, in_force, passed}
use Rattle.schedule.proofs.Laws.{passed_on, accepted_same, accepted_rising, rising_rest, later as not_yet}
use Rattle.refusals.specs.Given.{Given, line_in}
use Rattle.promises.specs.Replies.{BadSchedule}
use Rattle.promises.specs.Replies.BadSchedule.{long, falls, uneven}
use Rattle.promises.specs.SetBack.{gone, set_back, SameLines, up_to, restated, handed}
use Rattle.promises.proofs.Replies.{good_schedule}
use Rattle.promises.proofs.InForce.{Rises, rises, rising_so, earlier}

-- a record is at or before a clock value, and is so with the amount taken off both
test_back : (amount c t : ℕ) → amount ≤ t → leb (c - amount) (t - amount) ≡ leb c t
test_back amount c t h = go (dec_lt t c)
  where
    go : Dec (t < c) → leb (c - amount) (t - amount) ≡ leb c t
    go (yes l) = lt-leb (c - amount) (t - amount) (omega (arith, l, h)) ∙ sym (lt-leb c t l)
    go (no l) = le-leb (c - amount) (t - amount) (omega (arith, l)) ∙ sym (le-leb c t (omega (arith, l)))

taken_off :
    (amount before : ℕ) (cs ls : List ℕ) (t : ℕ) →
    amount ≤ t →
    in_force before (map (λ c. c - amount) cs) ls (t - amount) ≡ in_force before cs ls t
unfolding in_force
taken_off amount before [] ls t h = refl
taken_off amount before (c ∷ cs) [] t h = refl
taken_off amount before (c ∷ cs) (l ∷ ls) t h =
    ap (λ (b : Bool). in_force (pick b l before) (map (λ c. c - amount) cs) ls (t - amount)) (test_back amount c t h)
    ∙ taken_off amount (pick (leb c t) l before) cs ls t h

module _ (amount t : ℕ) (h : amount ≤ t) where
  -- where the first record is at or before the amount, what was in force before it does not count
  whatever_before :
      (b b' : ℕ) (cs ls : List ℕ) → length cs ≡ length ls → 0 < passed cs amount → in_force b cs ls t ≡ in_force b' cs ls t
  unfolding in_force passed
  whatever_before b b' [] ls same some = absurd (omega (arith, some))
  whatever_before b b' (c ∷ cs) [] same some = absurd (omega (arith, same))
  whatever_before b b' (c ∷ cs) (l ∷ ls) same some = go (leb c amount) refl some
    where
      go :
          (due : Bool) → leb c amount ≡ due → 0 < pick due (suc (passed cs amount)) 0 →
          in_force (pick (leb c t) l b) cs ls t ≡ in_force (pick (leb c t) l b') cs ls t
      go true e any = let low = leb-true c amount e in rw (le-leb c t (omega (arith, low, h)))
      go false e none = absurd (omega (arith, none))

  -- so the records before the last one at or before the amount do not count
  left_out :
      (g before : ℕ) (cs ls : List ℕ) → length cs ≡ length ls → g < passed cs amount →
      in_force before (drop g cs) (drop g ls) t ≡ in_force before cs ls t
  unfolding in_force passed
  left_out zero before cs ls same some = refl
  left_out (suc g) before [] ls same some = absurd (omega (arith, some))
  left_out (suc g) before (c ∷ cs) [] same some = absurd (omega (arith, same))
  left_out (suc g) before (c ∷ cs) (l ∷ ls) same some =
      let more = go (leb c amount) some in
      left_out g before cs ls (omega (arith, same)) more
      ∙ whatever_before before (pick (leb c t) l before) cs ls (omega (arith, same)) (omega (arith, more))
    where
      go : (due : Bool) → suc g < pick due (suc (passed cs amount)) 0 → g < passed cs amount
      go true k = omega (arith, k)
      go false k = absurd (omega (arith, k))

-- the line byte in force, set back
line_back :
    (given : Given) (amount t : ℕ) → length given.cycles ≡ length given.lines → amount ≤ t →
    line_in (set_back amount given) (t - amount) ≡ line_in given t
line_back given amount t same h =
    taken_off amount 0 (drop (gone amount given) given.cycles) (drop (gone amount given) given.lines) t h
    ∙ go (dec_lt 0 (passed given.cycles amount))
  where
    go :
        Dec (0 < passed given.cycles amount) →
        in_force 0 (drop (gone amount given) given.cycles) (drop (gone amount given) given.lines) t ≡ line_in given t
    go (yes some) = left_out amount t h (gone amount given) 0 given.cycles given.lines same (omega (arith, some))
    go (no none) =
        let is : gone amount given ≡ 0 = omega (arith, none) in
        ap (λ (g : ℕ). in_force 0 (drop g given.cycles) (drop g given.lines) t) is

-- the records after the amount count from the line byte that is in force there
split_there :
    (before : ℕ) (cs ls : List ℕ) (amount t : ℕ) → rising cs ≡ true → amount ≤ t →
    in_force (in_force before cs ls amount) (drop (passed cs amount) cs) (drop (passed cs amount) ls) t ≡ in_force before cs ls t
unfolding rising in_force passed
split_there before [] ls amount t up h = refl
split_there before (c ∷ cs) [] amount t up h = go (leb c amount)
  where
    go : (due : Bool) → in_force before (drop (pick due (suc (passed cs amount)) 0) (c ∷ cs)) (drop (pick due (suc (passed cs amount)) 0) []) t ≡ before
    go true = none (drop (passed cs amount) cs)
      where
        none : (ds : List ℕ) → in_force before ds [] t ≡ before
        none [] = refl
        none (d ∷ ds) = refl
    go false = refl
split_there before (c ∷ cs) (l ∷ ls) amount t up h = go (leb c amount) refl (split_there l cs ls amount t (rising_rest c cs up) h)
  where
    go :
        (due : Bool) →
        leb c amount ≡ due →
        in_force (in_force l cs ls amount) (drop (passed cs amount) cs) (drop (passed cs amount) ls) t ≡ in_force l cs ls t →
        in_force (in_force (pick due l before) cs ls amount) (drop (pick due (suc (passed cs amount)) 0) (c ∷ cs))
        (drop (pick due (suc (passed cs amount)) 0) (l ∷ ls)) t
        ≡ in_force (pick (leb c t) l before) cs ls t
    go true e rest = let low = leb-true c amount e in rw (le-leb c t (omega (arith, low, h))) rest
    go false e rest =
        let after = leb-false c amount e in
        ap (λ (b : ℕ). in_force b (c ∷ cs) (l ∷ ls) t) (not_yet before c cs ls amount up after)

-- so the line byte in force is that of the schedule with it restated
line_restated :
    (given : Given) (amount t : ℕ) → rising given.cycles ≡ true → amount ≤ t →
    line_in (restated amount given) (t - amount) ≡ line_in given t
unfolding in_force
line_restated given amount t up h =
    let past = passed given.cycles amount in
    ap
    (λ (b : Bool). in_force (pick b (line_in given amount) 0) (map (λ c. c - amount) (drop past given.cycles)) (drop past given.lines) (t - amount))
    (le-leb 0 (t - amount) (omega arith))
    ∙ taken_off amount (line_in given amount) (drop past given.cycles) (drop past given.lines) t h
    ∙ split_there 0 given.cycles given.lines amount t up h

-- the records up to a clock value have the line bytes up to there
cut_off :
    (before : ℕ) (cs ls : List ℕ) (to t : ℕ) → rising cs ≡ true → t ≤ to →
    in_force before (take (passed cs to) cs) (take (passed cs to) ls) t ≡ in_force before cs ls t
unfolding rising in_force passed
cut_off before [] ls to t up h = refl
cut_off before (c ∷ cs) [] to t up h = go (leb c to)
  where
    go :
        (due : Bool) →
        in_force before (take (pick due (suc (passed cs to)) 0) (c ∷ cs)) (take (pick due (suc (passed cs to)) 0) []) t ≡ before
    go true = refl
    go false = refl
cut_off before (c ∷ cs) (l ∷ ls) to t up h =
    go (leb c to) refl (cut_off (pick (leb c t) l before) cs ls to t (rising_rest c cs up) h)
  where
    go :
        (due : Bool) →
        leb c to ≡ due →
        in_force (pick (leb c t) l before) (take (passed cs to) cs) (take (passed cs to) ls) t
        ≡ in_force (pick (leb c t) l before) cs ls t →
        in_force before (take (pick due (suc (passed cs to)) 0) (c ∷ cs)) (take (pick due (suc (passed cs to)) 0) (l ∷ ls)) t
        ≡ in_force (pick (leb c t) l before) cs ls t
    go true e rest = rest
    go false e rest =
        let after = leb-false c to e in
        rw (lt-leb c t (omega (arith, after, h))) (sym (not_yet before c cs ls t up (omega (arith, after, h))))

-- what is left of cycle numbers that are set back, without the first g of them: how many, which, and that they rise
module _ (cs : List ℕ) (amount : ℕ) where
  abbrev back : ℕ → List ℕ
  back g = map (λ c. c - amount) (drop g cs)

  back_length : (g : ℕ) → length (back g) ≡ length cs - g
  back_length g = length-map (drop g cs) (λ c. c - amount) ∙ length-drop g cs

  back_even : (g : ℕ) (ls : List ℕ) → length cs ≡ length ls → length (back g) ≡ length (drop g ls)
  back_even g ls same = back_length g ∙ ap (λ (n : ℕ). n - g) same ∙ sym (length-drop g ls)

  cycle_back : (g k : ℕ) → get_or (back g) k 0 ≡ get_or cs (g + k) 0 - amount
  cycle_back g k =
      let none : 0 ≡ 0 - amount = omega arith in
      ap (λ (d : ℕ). get_or (back g) k d) none
      ∙ get_or-map (λ c. c - amount) (drop g cs) k 0
      ∙ ap (λ (c : ℕ). c - amount) (get_or-drop g cs k 0)

  -- the records that were not passed are after the amount
  not_passed : Rises cs → (k : ℕ) → passed cs amount ≤ k → k < length cs → amount < get_or cs k 0
  not_passed up k low inside = go (dec_lt amount (get_or cs first 0))
    where
      first : ℕ
      first = passed cs amount

      go : Dec (amount < get_or cs (passed cs amount) 0) → amount < get_or cs k 0
      go (yes l) = let rest = earlier cs up (k - first) first k (omega (arith, low)) inside in omega (arith, l, rest)
      go (no l) =
          let more = passed_on cs amount first (omega arith) (omega (arith, low, inside)) (omega (arith, l)) in
          absurd (omega (arith, more))

  back_rises : Rises cs → (g : ℕ) → passed cs amount ≤ suc g → Rises (back g)
  back_rises up g most k inside =
      let there : suc (g + k) < length cs = omega (arith, inside, back_length g) in
      let is : g + suc k ≡ suc (g + k) = omega arith in
      let next = cycle_back g (suc k) ∙ ap (λ (i : ℕ). get_or cs i 0 - amount) is in
      let rise = up (g + k) there in
      let past = not_passed up (suc (g + k)) (omega (arith, most)) there in
      omega (arith, cycle_back g k, next, rise, past)

-- a schedule that was accepted is so when it is set back, and has the same line bytes in force
module _ (given : Given) (amount : ℕ) (good : BadSchedule given → ⊥) where
  same : length given.cycles ≡ length given.lines
  same = accepted_same 64 given.cycles given.lines ((good_schedule given).1 good)

  up : Rises given.cycles
  up = rises given.cycles (accepted_rising 64 given.cycles given.lines ((good_schedule given).1 good))

  pub good_back : BadSchedule (set_back amount given) → ⊥
  good_back (long h) = good (long (omega (arith, h, back_length given.cycles amount (gone amount given))))
  good_back (uneven other) = other (back_even given.cycles amount (gone amount given) given.lines same)
  good_back (falls k inside down) =
      let rise = back_rises given.cycles amount up (gone amount given) (omega arith) k inside in
      omega (arith, down, rise)

  pub lines_back : (from to : ℕ) → amount ≤ from → SameLines amount given (set_back amount given) from to
  lines_back from to back t low high = line_back given amount t same (omega (arith, low, back))

-- so is one with the line byte in force restated, where it is not too long
good_restated :
    (given : Given) (amount : ℕ) → Rises given.cycles → length given.cycles ≡ length given.lines →
    length (restated amount given).cycles ≤ 64 → BadSchedule (restated amount given) → ⊥
good_restated given amount up same few (long h) = omega (arith, few, h)
good_restated given amount up same few (uneven other) =
    other (ap suc (back_even given.cycles amount (passed given.cycles amount) given.lines same))
good_restated given amount up same few (falls zero inside down) =
    let past = passed given.cycles amount in
    let there : past + 0 < length given.cycles = omega (arith, inside, back_length given.cycles amount past) in
    let after = not_passed given.cycles amount up (past + 0) (omega arith) there in
    omega (arith, down, cycle_back given.cycles amount past 0, after)
good_restated given amount up same few (falls (suc k) inside down) =
    let rise = back_rises given.cycles amount up (passed given.cycles amount) (omega arith) k (omega (arith, inside)) in
    omega (arith, down, rise)

-- and what is handed to a run
module _
    (given : Given) (amount to : ℕ) (up : rising given.cycles ≡ true) (same : length given.cycles ≡ length given.lines)
  where
    abbrev some : ℕ
    some = passed given.cycles to

    abbrev cut : Given
    cut = up_to to given

    cut_length : length cut.cycles ≡ length cut.lines
    cut_length = length-take some given.cycles ∙ ap (min some) same ∙ sym (length-take some given.lines)

    cut_rises : Rises cut.cycles
    cut_rises k inside =
        let is = length-take some given.cycles in
        rw (get_or-take some given.cycles k 0 (omega (arith, inside, is)), get_or-take some given.cycles (suc k) 0 (omega (arith, inside, is)))
        (rises given.cycles up k (omega (arith, inside, is)))

    pub good_handed : length (handed amount to given).cycles ≤ 64 → BadSchedule (handed amount to given) → ⊥
    good_handed = good_restated cut amount cut_rises cut_length

    pub lines_handed : (from : ℕ) → amount ≤ from → SameLines amount given (handed amount to given) from to
    lines_handed from back t low high =
        line_restated cut amount t (rising_so cut.cycles cut_rises) (omega (arith, low, back))
        ∙ cut_off 0 given.cycles given.lines to t up (omega (arith, high))
