-- The laws of the schedule, on the definitions alone. Assumes nothing.
use Prim.Native.Nat.{ℕ, zero, suc, ◌<◌, ◌≤◌}
use native.Mathlib.Omega.{arith}
use native.Mathlib.Numerals.{add-one}
use mathlib.Core.Path.{◌≡◌, refl, ◌∙◌, ap}
use mathlib.Core.Bool.{Bool, true, false, ◌&&◌, ◌||◌, true≢false}
use mathlib.Core.List.{List, [], ◌∷◌}
use lib.Dec.{leb, ltb, eqb}
use lib.ListN.{length, get_or}
use borrow.Author.Tests.{ltb-true, leb-true, leb-false, le-leb, lt-leb, eqb-true}
use Rattle.std.specs.List.{IsAllAdjacentAnswer}
use Rattle.word.specs.Word.{pick}
use Rattle.word.proofs.Table.{at_number, same, same_is}
use Rattle.schedule.specs.declared.Watch.{Watch}
use Rattle.schedule.specs.Schedule.{rising_after, rising, accepted, withdrawn, WithdrawnFrom64, any_withdrawn, in_force, passed, line_before, coming_at, watch_at, Watched}

-- the place is in the schedule
pub passed_inside : (cs : List ℕ) (clock : ℕ) → passed cs clock ≤ length cs
unfolding passed
passed_inside [] clock = omega arith
passed_inside (c ∷ cs) clock = go (leb c clock) (passed_inside cs clock)
  where
    go : (b : Bool) → passed cs clock ≤ length cs → pick b (suc (passed cs clock)) 0 ≤ suc (length cs)
    go true rest = omega (arith, rest)
    go false rest = omega arith

-- a record after the clock ends the walk
pub passed_here : (cs : List ℕ) (clock place : ℕ) → place ≤ passed cs clock → place < length cs → clock < get_or cs place 0 → place ≡ passed cs clock
unfolding passed
passed_here [] clock place reached inside after = absurd (omega (arith, inside))
passed_here (c ∷ cs) clock zero reached inside after = rw (lt-leb c clock after)
passed_here (c ∷ cs) clock (suc place) reached inside after =
    go (leb c clock) reached (λ h. passed_here cs clock place h (omega (arith, inside)) after)
  where
    go : (b : Bool) → suc place ≤ pick b (suc (passed cs clock)) 0 → (place ≤ passed cs clock → place ≡ passed cs clock) → suc place ≡ pick b (suc (passed cs clock)) 0
    go true h rest = let same = rest (omega (arith, h)) in omega (arith, same)
    go false h rest = absurd (omega (arith, h))

-- a record at or before the clock is passed
pub passed_on : (cs : List ℕ) (clock place : ℕ) → place ≤ passed cs clock → place < length cs → get_or cs place 0 ≤ clock → suc place ≤ passed cs clock
unfolding passed
passed_on [] clock place reached inside due = absurd (omega (arith, inside))
passed_on (c ∷ cs) clock zero reached inside due = rw (le-leb c clock due) (omega arith)
passed_on (c ∷ cs) clock (suc place) reached inside due =
    go (leb c clock) reached (λ h. passed_on cs clock place h (omega (arith, inside)) due)
  where
    go :
        (b : Bool) →
        suc place ≤ pick b (suc (passed cs clock)) 0 →
        (place ≤ passed cs clock → suc place ≤ passed cs clock) →
        suc (suc place) ≤ pick b (suc (passed cs clock)) 0
    go true h rest = let more = rest (omega (arith, h)) in omega (arith, more)
    go false h rest = absurd (omega (arith, h))

-- the place never goes back while the clock goes on
pub passed_later : (cs : List ℕ) (clock clock' : ℕ) → clock ≤ clock' → passed cs clock ≤ passed cs clock'
unfolding passed
passed_later [] clock clock' h = omega arith
passed_later (c ∷ cs) clock clock' h = go (leb c clock) refl (passed_later cs clock clock' h)
  where
    go : (b : Bool) → leb c clock ≡ b → passed cs clock ≤ passed cs clock' → pick b (suc (passed cs clock)) 0 ≤ pick (leb c clock') (suc (passed cs clock')) 0
    go true e rest = let due = leb-true c clock e in rw (le-leb c clock' (omega (arith, due, h))) (omega (arith, rest))
    go false e rest = omega arith

-- until the next record comes into force the place stays
pub passed_still : (cs : List ℕ) (clock clock' : ℕ) → clock ≤ clock' → clock' < coming_at cs (passed cs clock) → passed cs clock' ≡ passed cs clock
unfolding passed
passed_still [] clock clock' h before = refl
passed_still (c ∷ cs) clock clock' h before = go (leb c clock) refl before (passed_still cs clock clock' h)
  where
    go :
        (b : Bool) →
        leb c clock ≡ b →
        clock' < coming_at (c ∷ cs) (pick b (suc (passed cs clock)) 0) →
        (clock' < coming_at cs (passed cs clock) → passed cs clock' ≡ passed cs clock) →
        pick (leb c clock') (suc (passed cs clock')) 0 ≡ pick b (suc (passed cs clock)) 0
    go true e before rest =
        let due = leb-true c clock e in
        rw (le-leb c clock' (omega (arith, due, h)), rest before)
    go false e before rest = rw (lt-leb c clock' before)

-- and that record is after the clock
pub coming_later : (cs : List ℕ) (clock : ℕ) → clock < 4294967295 → clock < coming_at cs (passed cs clock)
unfolding passed
coming_later [] clock h = h
coming_later (c ∷ cs) clock h = go (leb c clock) refl (coming_later cs clock h)
  where
    go : (b : Bool) → leb c clock ≡ b → clock < coming_at cs (passed cs clock) → clock < coming_at (c ∷ cs) (pick b (suc (passed cs clock)) 0)
    go true e rest = rest
    go false e rest = leb-false c clock e

-- the parts of a conjunction that holds
and_left : (a b : Bool) → a && b ≡ true → a ≡ true
and_left true b e = refl
and_left false b e = e

and_right : (a b : Bool) → a && b ≡ true → b ≡ true
and_right true b e = e
and_right false true e = refl
and_right false false e = e

-- a schedule that is accepted has as many lines as cycles, no more than so many, and these rise
pub accepted_same : (most : ℕ) (cs ls : List ℕ) → accepted most cs ls ≡ true → length cs ≡ length ls
accepted_same most cs ls good = eqb-true _ _ (and_left _ (leb (length cs) most) (and_left _ (rising cs) good))

pub accepted_few : (most : ℕ) (cs ls : List ℕ) → accepted most cs ls ≡ true → length cs ≤ most
accepted_few most cs ls good = leb-true _ _ (and_right (eqb (length cs) (length ls)) _ (and_left _ (rising cs) good))

pub accepted_rising : (most : ℕ) (cs ls : List ℕ) → accepted most cs ls ≡ true → rising cs ≡ true
accepted_rising most cs ls good = and_right (eqb (length cs) (length ls) && leb (length cs) most) (rising cs) good

-- records after one that is after the clock are after it too
pub later : (before c : ℕ) (cs ls : List ℕ) (clock : ℕ) → rising_after c cs ≡ true → clock < c → in_force before cs ls clock ≡ before
unfolding rising_after in_force
later before c [] ls clock up after = refl
later before c (d ∷ cs) [] clock up after = refl
later before c (d ∷ cs) (l ∷ ls) clock up after =
    let above = ltb-true c d (and_left (ltb c d) _ up) in
    rw (lt-leb d clock (omega (arith, above, after)))
    (later before d cs ls clock (and_right (ltb c d) _ up) (omega (arith, above, after)))

pub rising_rest : (c : ℕ) (cs : List ℕ) → rising_after c cs ≡ true → rising cs ≡ true
unfolding rising_after rising
rising_rest c [] up = refl
rising_rest c (d ∷ cs) up = and_right (ltb c d) _ up

-- the line byte of a place, where `before` is the one before the records
line_from : ℕ → List ℕ → ℕ → ℕ
line_from before ls zero = before
line_from before ls (suc k) = get_or ls k 0

line_from_lem : (l : ℕ) (ls : List ℕ) (k : ℕ) → line_from l ls k ≡ get_or (l ∷ ls) k 0
unfolding line_from
line_from_lem l ls zero = refl
line_from_lem l ls (suc k) = refl

in_force_lem : (before : ℕ) (cs ls : List ℕ) (clock : ℕ) → rising cs ≡ true → length cs ≡ length ls → in_force before cs ls clock ≡ line_from before ls (passed cs clock)
unfolding rising in_force passed line_from
in_force_lem before [] ls clock up same = refl
in_force_lem before (c ∷ cs) [] clock up same = absurd (omega (arith, same))
in_force_lem before (c ∷ cs) (l ∷ ls) clock up same =
    go (leb c clock) refl (in_force_lem l cs ls clock (rising_rest c cs up) (omega (arith, same)))
  where
    go :
        (b : Bool) →
        leb c clock ≡ b →
        in_force l cs ls clock ≡ line_from l ls (passed cs clock) →
        in_force (pick b l before) cs ls clock ≡ line_from before (l ∷ ls) (pick b (suc (passed cs clock)) 0)
    go true e rest = rest ∙ line_from_lem l ls (passed cs clock)
    go false e rest = let after = leb-false c clock e in later before c cs ls clock up (omega (arith, after))

-- the byte in force is that of the place
pub line_of_place : (cs ls : List ℕ) (clock : ℕ) → rising cs ≡ true → length cs ≡ length ls → in_force 0 cs ls clock ≡ line_before ls (passed cs clock)
unfolding line_from
line_of_place cs ls clock up same = in_force_lem 0 cs ls clock up same ∙ go (passed cs clock)
  where
    go : (k : ℕ) → line_from 0 ls k ≡ line_before ls k
    go zero = refl
    go (suc k) = refl

-- until the next record comes into force the line byte stays
pub line_still :
    (cs ls : List ℕ) (clock clock' : ℕ) →
    rising cs ≡ true →
    length cs ≡ length ls →
    clock ≤ clock' →
    clock' < coming_at cs (passed cs clock) →
    in_force 0 cs ls clock' ≡ line_before ls (passed cs clock)
line_still cs ls clock clock' up same h before =
    line_of_place cs ls clock' up same ∙ ap (line_before ls) (passed_still cs clock clock' h before)

-- what the tests of each cycle number and the next say
rising_all : (cs : List ℕ) → ((k d : ℕ) → suc k < length cs → true ≡ ltb (get_or cs k d) (get_or cs (suc k) d)) → true ≡ rising cs
unfolding rising rising_after
rising_all [] up = refl
rising_all (c ∷ []) up = refl
rising_all (c ∷ d ∷ ds) up =
    let above : true ≡ ltb c d = up 0 0 (omega arith) in
    rw (← above) (rising_all (d ∷ ds) (λ k e inside. up (suc k) e (omega (arith, inside))))

rising_not : (cs : List ℕ) (k : ℕ) → suc k < length cs → ((d : ℕ) → false ≡ ltb (get_or cs k d) (get_or cs (suc k) d)) → false ≡ rising cs
unfolding rising rising_after
rising_not [] k inside down = absurd (omega (arith, inside))
rising_not (c ∷ []) k inside down = absurd (omega (arith, inside))
rising_not (c ∷ d ∷ ds) zero inside down = let below : false ≡ ltb c d = down 0 in rw (← below) refl
rising_not (c ∷ d ∷ ds) (suc k) inside down = go (ltb c d) (rising_not (d ∷ ds) k (omega (arith, inside)) down)
  where
    go : (b : Bool) → false ≡ rising_after d ds → false ≡ b && rising_after d ds
    go true rest = rest
    go false rest = refl

pub rising_tested : (cs : List ℕ) (r : Bool) → IsAllAdjacentAnswer (λ x y b. b ≡ ltb x y) cs r → r ≡ rising cs
rising_tested cs true up = rising_all cs (λ k d inside. rw (add-one k) at (up k d (omega (arith, inside))))
rising_tested cs false down = rising_not cs down.0 (omega (arith, down.1)) (λ d. rw (add-one down.0) at (down.2 d))

-- a disjunction that does not hold
pub or_left : (a b : Bool) → a || b ≡ false → a ≡ false
or_left true b e = e
or_left false b e = refl

pub or_right : (a b : Bool) → a || b ≡ false → b ≡ false
or_right true b e = absurd (true≢false e)
or_right false b e = e

-- where none of the records is withdrawn, nor the line byte before them, the one in force never is
pub in_force_stays :
    (before : ℕ) (cs ls : List ℕ) (clock : ℕ) →
    withdrawn before ≡ false →
    any_withdrawn ls ≡ false →
    withdrawn (in_force before cs ls clock) ≡ false
unfolding in_force any_withdrawn
in_force_stays before [] ls clock old none = old
in_force_stays before (c ∷ cs) [] clock old none = old
in_force_stays before (c ∷ cs) (l ∷ ls) clock old none =
    in_force_stays (pick (leb c clock) l before) cs ls clock (go (leb c clock)) (or_right (withdrawn l) _ none)
  where
    go : (b : Bool) → withdrawn (pick b l before) ≡ false
    go true = or_left (withdrawn l) _ none
    go false = old

pub withdrawn_from_64 : WithdrawnFrom64
withdrawn_from_64 line byte =
    same_is _ _ (at_number (λ (l : ℕ). same (withdrawn l) (leb 64 l)) 256 tt line byte)

-- a watch stays the same until its next record is due, and its place is not behind
pub watch_still :
    (cs ls : List ℕ) (clock : ℕ) (w : Watch) → Watched cs ls clock w → clock < w.due → w ≡ watch_at cs ls clock
watch_still cs ls clock w is before =
    let same = passed_still cs is.since clock is.before (rw is.found at before) in
    is.found ∙ rw same

pub watch_reached : (cs ls : List ℕ) (clock : ℕ) (w : Watch) → Watched cs ls clock w → w.place ≤ passed cs clock
watch_reached cs ls clock w is = rw is.found (passed_later cs is.since clock is.before)
