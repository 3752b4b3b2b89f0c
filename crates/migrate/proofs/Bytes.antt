-- The laws that the functions of src/reading.rt ask for, on the definitions alone. Assumes nothing.
use Prim.Native.Nat.{ℕ, ◌+◌, ◌<◌, ◌≤◌}
use native.Mathlib.Numerals.{add-one}
use mathlib.Core.Path.{◌≡◌, refl}
use mathlib.Core.Bool.{true, and-eq-true_iff}
use Rattle.std.specs.Prelude.{Option}
use mathlib.Core.List.{List}
use lib.Dec.{leb}
use lib.ListN.{length, get_or, drop, drop_of_length-le}
use lib.Seq.{drop-cons}
use borrow.Author.Tests.{leb-true, eq-eqb, ne_eqb}
use Rattle.table.specs.declared.Table.{Table}
use Rattle.migrate.specs.declared.reading.Part.{Part}
use Rattle.migrate.specs.declared.reading.Part.TheVariants.{Nothing, Cycle, Space, Digit, Whole, Wrong}
use Rattle.migrate.specs.declared.reading.Reading.{Reading}
use Rattle.migrate.specs.Format.{within}
use Rattle.migrate.specs.Reading.{grown, with_line, reading_is, with_byte, read_on}

-- a byte within two others
pub inside : (low high b : ℕ) → within low high b ≡ true → (low ≤ b) × (b ≤ high)
inside low high b is =
    let both = (and-eq-true_iff (leb low b) (leb b high)).0 is in
    (leb-true low b both.0, leb-true b high both.1)

-- a part that can grow no more
pub at_its_end : (p : Part) (b : ℕ) → (p ≡ Nothing → ⊥) → ((cycle : ℕ) → p ≡ Cycle cycle → ⊥) → ((cycle : ℕ) → p ≡ Space cycle → ⊥)
    → ((cycle first : ℕ) → p ≡ Digit cycle first → ⊥) → Wrong ≡ grown p b
unfolding grown
at_its_end Nothing b nothing cycle space digit = absurd (nothing refl)
at_its_end (Cycle n) b nothing cycle space digit = absurd (cycle n refl)
at_its_end (Space n) b nothing cycle space digit = absurd (space n refl)
at_its_end (Digit n first) b nothing cycle space digit = absurd (digit n first refl)
at_its_end (Whole n line) b nothing cycle space digit = refl
at_its_end Wrong b nothing cycle space digit = refl

-- a byte that ends a line, and any other
pub line_ends : (lines : Option Table) (part : Part) (b : ℕ) (lines' : Option Table) (part' : Part) → b ≡ 10 → lines' ≡ with_line lines part → part' ≡ Nothing
    → reading_is lines' part' ≡ with_byte lines part b
line_ends lines part b lines' part' end d p = rw (eq-eqb b 10 end, d, p)

pub line_goes_on : (lines : Option Table) (part : Part) (b : ℕ) (lines' : Option Table) (part' : Part) → (b ≡ 10 → ⊥) → lines' ≡ lines → part' ≡ grown part b
    → reading_is lines' part' ≡ with_byte lines part b
line_goes_on lines part b lines' part' other d p = rw (ne_eqb b 10 other, d, p)

-- one turn of a loop over a text, and its end
pub one_read : (s t whole : Reading) (text : List ℕ) (i : ℕ) → i < length text → read_on s (drop i text) ≡ whole
    → t ≡ with_byte s.done s.part (get_or text i 0) → read_on t (drop (i + 1) text) ≡ whole
unfolding read_on
one_read s t whole text i inside before next = rw (add-one i, next) (rw (drop-cons text i 0 inside) at before)

pub all_read : (s whole : Reading) (text : List ℕ) (i : ℕ) → length text ≤ i → read_on s (drop i text) ≡ whole → s ≡ whole
unfolding read_on
all_read s whole text i past before = rw (drop_of_length-le text {i = i} past) at before
