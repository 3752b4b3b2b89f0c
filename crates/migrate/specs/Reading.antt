-- Inner definitions: how the program reads a text byte by byte, with no more of it in hand than the part of a line that it stands in. What
-- it reads this way is what specs/Format.antt says, by the laws of proofs/.
use Rattle.std.specs.Prelude.{ℕ, ◌+◌, ◌*◌, ◌%◌, Bool, true, false, ◌≡◌, List, [], ◌∷◌, ◌++◌, leb, ltb, eqb, Option, Some, None, option_map}
use Rattle.word.specs.Word.{pick}
use Rattle.table.specs.declared.Table.{Table}
use Rattle.table.specs.Records.{record_is, no_records, with_record}
use Rattle.migrate.specs.declared.reading.Part.{Part}
use Rattle.migrate.specs.declared.reading.Part.TheVariants.{Nothing, Cycle, Space, Digit, Whole, Wrong}
use Rattle.migrate.specs.declared.reading.Reading.{Reading}
use Rattle.migrate.specs.Format.{digit_value, last_cycle}

-- a digit more of a cycle number
abbrev pub longer : ℕ → ℕ → Part
longer cycle d = pick (leb (cycle * 10 + d) last_cycle) (Cycle (cycle * 10 + d)) Wrong

-- the part of a line with a byte more, which is this digit
abbrev pub started : ℕ → Part
started d = pick (ltb d 10) (longer 0 d) Wrong

abbrev pub counted : ℕ → ℕ → ℕ → Part
counted cycle b d = pick (ltb d 10) (longer cycle d) (pick (eqb b 32) (Space cycle) Wrong)

abbrev pub high : ℕ → ℕ → Part
high cycle d = pick (ltb d 16) (Digit cycle d) Wrong

abbrev pub low : ℕ → ℕ → ℕ → Part
low cycle first d = pick (ltb d 16) (Whole cycle (first % 16 * 16 + d)) Wrong

abbrev pub grown_by : Part → ℕ → ℕ → Part
grown_by Nothing b d = started d
grown_by (Cycle cycle) b d = counted cycle b d
grown_by (Space cycle) b d = high cycle d
grown_by (Digit cycle first) b d = low cycle first d
grown_by (Whole cycle line) b d = Wrong
grown_by Wrong b d = Wrong

unfoldable pub grown : Part → ℕ → Part
grown p b = grown_by p b (digit_value b)

-- whether nothing of a line is read
abbrev pub is_nothing : Part → Bool
is_nothing Nothing = true
is_nothing (Cycle cycle) = false
is_nothing (Space cycle) = false
is_nothing (Digit cycle first) = false
is_nothing (Whole cycle line) = false
is_nothing Wrong = false

-- the finished lines: the table of their records where all are good
abbrev pub lines_are : Bool → Table → Option Table
lines_are good table = pick good (Some table) None

-- and with one more
abbrev pub with_line : Option Table → Part → Option Table
with_line lines Nothing = None
with_line lines (Cycle cycle) = None
with_line lines (Space cycle) = None
with_line lines (Digit cycle first) = None
with_line lines (Whole cycle line) = option_map (λ t. with_record t (record_is cycle line)) lines
with_line lines Wrong = None

-- where a reading stands: the finished lines, and the part of the next
abbrev pub reading_is : Option Table → Part → Reading
reading_is done part = record { done = done; part = part }

abbrev pub begun : Reading
begun = reading_is (lines_are true no_records) Nothing

-- a byte read
abbrev pub with_byte : Option Table → Part → ℕ → Reading
with_byte done part b = pick (eqb b 10) (reading_is (with_line done part) Nothing) (reading_is done (grown part b))

-- bytes read one after another
unfoldable pub read_on : Reading → List ℕ → Reading
read_on s [] = s
read_on s (b ∷ bs) = read_on (with_byte s.done s.part b) bs

-- A text may be read in parts, cut anywhere. Proved under the same name in proofs/Whole.antt.
abbrev pub ReadInParts : Type 0
ReadInParts = (s : Reading) (a b : List ℕ) → read_on s (a ++ b) ≡ read_on (read_on s a) b

-- an input that fails is taken for one with a line that is not good
abbrev pub spoiled_is : Reading → Reading
spoiled_is s = reading_is s.done Wrong

-- the text ends, and its last line, if a part of it is read
abbrev pub finished : Reading → Option Table
finished s = pick (is_nothing s.part) s.done (with_line s.done s.part)
