-- A line read byte by byte is whole where it is a good one, and then it holds its record. On the definitions alone. Assumes nothing.
use Prim.Native.Nat.{ℕ, ◌+◌, ◌*◌, ◌<◌, ◌≤◌}
use native.Mathlib.Omega.{arith}
use native.Mathlib.Nat.{mod-eq_of_lt}
use mathlib.Core.Path.{◌≡◌, refl, sym}
use mathlib.Core.Bool.{Bool, true, false, ◌&&◌, and-true, and-false, false≢true}
use mathlib.Core.List.{List, [], ◌∷◌}
use lib.Dec.{leb, eqb}
use lib.ListN.{length}
use borrow.Author.Tests.{ltb-true, leb-true, leb-false, le-leb, lt-leb, ne_eqb}
use Rattle.std.specs.Prelude.{Option, None, option_map}
use Rattle.word.specs.Word.{pick}
use Rattle.table.specs.declared.Record.{Record}
use Rattle.table.specs.declared.Table.{Table}
use Rattle.table.specs.Records.{record_is, with_record}
use Rattle.migrate.specs.declared.reading.Part.{Part}
use Rattle.migrate.specs.declared.reading.Part.TheVariants.{Nothing, Cycle, Space, Digit, Whole, Wrong}
use Rattle.migrate.specs.Format.{digit_value, is_decimal, is_hex, front, rest, not_empty, spelled_after, last_cycle, is_end, end_byte, good_line, record_of}
use Rattle.migrate.specs.Reading.{longer, grown, with_line}

-- the part of a line with these bytes more
unfoldable pub scanned : Part → List ℕ → Part
scanned p [] = p
scanned p (b ∷ bs) = scanned (grown p b) bs

-- whether a part is a whole line
abbrev is_whole : Part → Bool
is_whole Nothing = false
is_whole (Cycle cycle) = false
is_whole (Space cycle) = false
is_whole (Digit cycle first) = false
is_whole (Whole cycle line) = true
is_whole Wrong = false

-- what a part has to be, where its line is good with this record or is not
abbrev Fits : Bool → Record → Part → Type 0
Fits true r p = p ≡ Whole r.cycle r.line
Fits false r p = is_whole p ≡ false

wrong_stays : (l : List ℕ) → scanned Wrong l ≡ Wrong
unfolding scanned grown
wrong_stays [] = refl
wrong_stays (b ∷ bs) = wrong_stays bs

-- two bytes after the digits of a cycle and a byte that is a space, or is not
two_bytes : (cycle h l : ℕ) (space high low : Bool) → is_hex h ≡ high → is_hex l ≡ low
    → Fits (space && (high && low)) (record_is cycle (digit_value h * 16 + digit_value l)) (grown (grown (pick space (Space cycle) Wrong) h) l)
unfolding grown
two_bytes cycle h l true true true eh el =
    rw (eh, el, mod-eq_of_lt (ltb-true (digit_value h) 16 eh))
two_bytes cycle h l true true false eh el = rw (eh, el)
two_bytes cycle h l true false low eh el = rw eh
two_bytes cycle h l false high low eh el = refl

-- whatever they are, a third is too much
third_byte : (cycle h l x : ℕ) (space high low : Bool) → is_hex h ≡ high → is_hex l ≡ low
    → grown (grown (grown (pick space (Space cycle) Wrong) h) l) x ≡ Wrong
unfolding grown
third_byte cycle h l x true true true eh el = rw (eh, el)
third_byte cycle h l x true true false eh el = rw (eh, el)
third_byte cycle h l x true false low eh el = rw eh
third_byte cycle h l x false high low eh el = refl

one_byte : (cycle h : ℕ) (space high : Bool) → is_hex h ≡ high → is_whole (grown (pick space (Space cycle) Wrong) h) ≡ false
unfolding grown
one_byte cycle h true true eh = rw eh
one_byte cycle h true false eh = rw eh
one_byte cycle h false high eh = refl

no_byte : (cycle : ℕ) (space : Bool) → is_whole (pick space (Space cycle) Wrong) ≡ false
no_byte cycle true = refl
no_byte cycle false = refl

-- what follows the digits of a cycle
ends : (cycle b : ℕ) (bs : List ℕ)
    → Fits (is_end (b ∷ bs)) (record_is cycle (end_byte (b ∷ bs))) (scanned (pick (eqb b 32) (Space cycle) Wrong) bs)
unfolding scanned
ends cycle b [] = no_byte cycle (eqb b 32)
ends cycle b (h ∷ []) = one_byte cycle h (eqb b 32) (is_hex h) refl
ends cycle b (h ∷ l ∷ []) = two_bytes cycle h l (eqb b 32) (is_hex h) (is_hex l) refl refl
ends cycle b (h ∷ l ∷ x ∷ xs) =
    rw (ne_eqb (length (b ∷ h ∷ l ∷ x ∷ xs)) 3 (λ e. omega (arith, e)), third_byte cycle h l x (eqb b 32) (is_hex h) (is_hex l) refl refl, wrong_stays xs)

-- more digits spell no smaller number
spells_more : (n : ℕ) (ds : List ℕ) → n ≤ spelled_after n ds
unfolding spelled_after
spells_more n [] = omega arith
spells_more n (d ∷ ds) = let more = spells_more (n * 10 + digit_value d) ds in omega (arith, more)

-- the part of a line that is left after the digits of a cycle so far
abbrev Counted : ℕ → List ℕ → List ℕ → Part → Type 0
Counted cycle ds end p = Fits (is_end end && leb (spelled_after cycle ds) last_cycle) (record_is (spelled_after cycle ds) (end_byte end)) p

-- a cycle that is too great becomes no smaller
one_digit : (cycle : ℕ) (bs : List ℕ) (small : Bool) → leb cycle last_cycle ≡ small
    → (cycle ≤ last_cycle → Counted cycle (front bs) (rest bs) (scanned (Cycle cycle) bs))
    → Counted cycle (front bs) (rest bs) (scanned (pick small (Cycle cycle) Wrong) bs)
one_digit cycle bs true e onward = onward (leb-true cycle last_cycle e)
one_digit cycle bs false e onward =
    let much : last_cycle < spelled_after cycle (front bs) = omega (arith, leb-false cycle last_cycle e, spells_more cycle (front bs)) in
    rw (lt-leb (spelled_after cycle (front bs)) last_cycle much, and-false (is_end (rest bs)), wrong_stays bs)

-- the digits of a cycle, and what follows them
counts : (cycle : ℕ) (l : List ℕ) → cycle ≤ last_cycle → Counted cycle (front l) (rest l) (scanned (Cycle cycle) l)
unfolding scanned grown front rest spelled_after
counts cycle [] small = refl
counts cycle (b ∷ bs) small = go (is_decimal b) (counts (cycle * 10 + digit_value b) bs)
  where
    go : (decimal : Bool)
        → (cycle * 10 + digit_value b ≤ last_cycle → Counted (cycle * 10 + digit_value b) (front bs) (rest bs) (scanned (Cycle (cycle * 10 + digit_value b)) bs))
        → Counted cycle (pick decimal (b ∷ front bs) []) (pick decimal (rest bs) (b ∷ bs))
        (scanned (pick decimal (longer cycle (digit_value b)) (pick (eqb b 32) (Space cycle) Wrong)) bs)
    go true onward = one_digit (cycle * 10 + digit_value b) bs (leb (cycle * 10 + digit_value b) last_cycle) refl onward
    go false onward = rw (le-leb cycle last_cycle small, and-true (is_end (b ∷ bs))) (ends cycle b bs)

-- a whole line
scans : (l : List ℕ) → Fits (good_line l) (record_of l) (scanned Nothing l)
unfolding scanned grown front rest spelled_after
scans [] = refl
scans (b ∷ bs) = go (is_decimal b)
  where
    go : (decimal : Bool)
        → Fits (not_empty (pick decimal (b ∷ front bs) []) && (is_end (pick decimal (rest bs) (b ∷ bs)) && leb (spelled_after 0 (pick decimal (b ∷ front bs) [])) last_cycle))
        (record_is (spelled_after 0 (pick decimal (b ∷ front bs) [])) (end_byte (pick decimal (rest bs) (b ∷ bs))))
        (scanned (pick decimal (longer 0 (digit_value b)) Wrong) bs)
    go true = one_digit (0 * 10 + digit_value b) bs (leb (0 * 10 + digit_value b) last_cycle) refl (counts (0 * 10 + digit_value b) bs)
    go false = rw (wrong_stays bs)

-- the finished lines with a part that fits
fitted : (lines : Option Table) (good : Bool) (r : Record) (p : Part) → Fits good r p
    → with_line lines p ≡ pick good (option_map (λ t. with_record t r) lines) None
fitted lines true r p whole = rw whole
fitted lines false r Nothing other = refl
fitted lines false r (Cycle cycle) other = refl
fitted lines false r (Space cycle) other = refl
fitted lines false r (Digit cycle first) other = refl
fitted lines false r (Whole cycle line) other = absurd (false≢true (sym other))
fitted lines false r Wrong other = refl

-- a line more: its record where it is good
pub one_line : (lines : Option Table) (l : List ℕ)
    → with_line lines (scanned Nothing l) ≡ pick (good_line l) (option_map (λ t. with_record t (record_of l)) lines) None
one_line lines l = fitted lines (good_line l) (record_of l) (scanned Nothing l) (scans l)
