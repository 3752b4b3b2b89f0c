-- A text read byte by byte is its lines read one after another. On the definitions alone. Assumes nothing.
use Prim.Native.Nat.{ℕ, ◌+◌, ◌*◌, ◌%◌}
use mathlib.Core.Path.{◌≡◌, refl, ◌∙◌}
use mathlib.Core.Bool.{Bool, true, false, ◌&&◌}
use mathlib.Core.List.{List, [], ◌∷◌, map}
use lib.Dec.{eqb, leb}
use Rattle.std.specs.Prelude.{Option, Some, None}
use Rattle.word.specs.Word.{pick}
use Rattle.word.proofs.Laws.{both}
use Rattle.table.specs.declared.Table.{Table}
use Rattle.table.specs.Records.{gathered, with_record}
use Rattle.migrate.specs.declared.reading.Part.{Part}
use Rattle.migrate.specs.declared.reading.Part.TheVariants.{Nothing, Cycle, Space, Digit, Whole, Wrong}
use Rattle.migrate.specs.Format.{digit_value, is_decimal, is_hex, last_cycle, before, text_lines, good_line, good_lines, record_of}
use Rattle.migrate.specs.Reading.{longer, grown, is_nothing, lines_are, with_line, reading_is, read_on, finished}
use Rattle.migrate.proofs.OneLine.{scanned, one_line}

-- a part with a byte more is not nothing
abbrev Something : Part → Type 0
Something p = is_nothing p ≡ false

some_longer : (cycle d : ℕ) → Something (longer cycle d)
some_longer cycle d = both Something (leb (cycle * 10 + d) last_cycle) (Cycle (cycle * 10 + d)) Wrong refl refl

some_more : (p : Part) (b : ℕ) → Something (grown p b)
unfolding grown
some_more Nothing b = both Something (is_decimal b) (longer 0 (digit_value b)) Wrong (some_longer 0 (digit_value b)) refl
some_more (Cycle cycle) b =
    both Something (is_decimal b) (longer cycle (digit_value b)) (pick (eqb b 32) (Space cycle) Wrong) (some_longer cycle (digit_value b))
    (both Something (eqb b 32) (Space cycle) Wrong refl refl)
some_more (Space cycle) b = both Something (is_hex b) (Digit cycle (digit_value b)) Wrong refl refl
some_more (Digit cycle first) b = both Something (is_hex b) (Whole cycle (first % 16 * 16 + digit_value b)) Wrong refl refl
some_more (Whole cycle line) b = refl
some_more Wrong b = refl

-- lines read one after another
unfoldable pub lines_read : Option Table → List (List ℕ) → Option Table
lines_read lines [] = lines
lines_read lines (l ∷ ls) = lines_read (with_line lines (scanned Nothing l)) ls

-- and where a part of the first is read already
read_from : Option Table → Part → List (List ℕ) → Option Table
read_from lines p [] = finished (reading_is lines p)
read_from lines p (l ∷ ls) = lines_read (with_line lines (scanned p l)) ls

from_nothing : (lines : Option Table) (ls : List (List ℕ)) → read_from lines Nothing ls ≡ lines_read lines ls
unfolding read_from lines_read
from_nothing lines [] = refl
from_nothing lines (l ∷ ls) = refl

one_byte_more : (lines : Option Table) (p : Part) (b : ℕ) (ls : List (List ℕ)) → read_from lines (grown p b) ls ≡ read_from lines p (before b ls)
unfolding read_from lines_read before scanned
one_byte_more lines p b [] = rw (some_more p b)
one_byte_more lines p b (l ∷ ls) = refl

text_read : (lines : Option Table) (p : Part) (text : List ℕ) → finished (read_on (reading_is lines p) text) ≡ read_from lines p (text_lines text)
unfolding read_on text_lines read_from scanned
text_read lines p [] = refl
text_read lines p (b ∷ bs) = go (eqb b 10) (λ lines' p'. text_read lines' p' bs)
  where
    go : (feed : Bool) → ((lines' : Option Table) (p' : Part) → finished (read_on (reading_is lines' p') bs) ≡ read_from lines' p' (text_lines bs))
        → finished (read_on (pick feed (reading_is (with_line lines p) Nothing) (reading_is lines (grown p b))) bs)
        ≡ read_from lines p (pick feed ([] ∷ text_lines bs) (before b (text_lines bs)))
    go true onward = onward (with_line lines p) Nothing ∙ from_nothing (with_line lines p) (text_lines bs)
    go false onward = onward lines (grown p b) ∙ one_byte_more lines p b (text_lines bs)

-- a whole text
pub lines_of_text : (lines : Option Table) (text : List ℕ) → finished (read_on (reading_is lines Nothing) text) ≡ lines_read lines (text_lines text)
lines_of_text lines text = text_read lines Nothing text ∙ from_nothing lines (text_lines text)

-- what the lines of a text give: nothing after one that is not good, and else the table of their records
line_after_none : (p : Part) → with_line None p ≡ None
line_after_none Nothing = refl
line_after_none (Cycle cycle) = refl
line_after_none (Space cycle) = refl
line_after_none (Digit cycle first) = refl
line_after_none (Whole cycle line) = refl
line_after_none Wrong = refl

none_stays : (ls : List (List ℕ)) → lines_read None ls ≡ None
unfolding lines_read
none_stays [] = refl
none_stays (l ∷ ls) = rw (line_after_none (scanned Nothing l)) (none_stays ls)

pub gives : (t : Table) (ls : List (List ℕ)) → lines_read (Some t) ls ≡ lines_are (good_lines ls) (gathered t (map record_of ls))
unfolding lines_read good_lines
gives t [] = refl
gives t (l ∷ ls) = rw (one_line (Some t) l) (go (good_line l) (gives (with_record t (record_of l)) ls))
  where
    go : (fine : Bool)
        → lines_read (Some (with_record t (record_of l))) ls ≡ lines_are (good_lines ls) (gathered (with_record t (record_of l)) (map record_of ls))
        → lines_read (pick fine (Some (with_record t (record_of l))) None) ls
        ≡ lines_are (fine && good_lines ls) (gathered (with_record t (record_of l)) (map record_of ls))
    go true rest = rest
    go false rest = none_stays ls
