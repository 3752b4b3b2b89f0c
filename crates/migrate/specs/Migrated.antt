-- What the program prints for a text (docs/MIGRATE.md): the records with the bits 6 and 7 of their line bytes cleared, without those
-- that then repeat the byte before them, and how many were altered and removed. For other text, or a schedule that reply 2 refuses: bad.
use Rattle.std.specs.Prelude.{ℕ, suc, ◌-◌, ◌%◌, ◌<◌, ◌≡◌, true, false, not, ◌&&◌, List, [], ◌∷◌, ◌++◌, map, ltb, eqb, length}
use Rattle.word.specs.Word.{pick, bit_of}
use Rattle.schedule.specs.Schedule.{accepted, withdrawn, any_withdrawn, line_at}
use Rattle.machine.specs.Names.{record_limit}
use Rattle.table.specs.declared.Record.{Record}
use Rattle.table.specs.Records.{record_is, cycles_of, lines_of}
use Rattle.text.specs.Text.{ascii, numeral, hex_byte}
use Rattle.migrate.specs.Format.{text_lines, good_lines, record_of}

-- a line byte with its bits 6 and 7 cleared: what is left are the bits 0 to 5
abbrev pub cleared_byte : ℕ → ℕ
cleared_byte b = b % 64

-- Of a byte, bit by bit: those two are cleared and the others stay, and the byte is altered exactly where the machine refuses it. Proved
-- under the same name in proofs/Renewed.antt.
pub record TwoBitsCleared (b : ℕ) : Type 0 where
  pub bits : (k : ℕ) → k < 8 → bit_of k (cleared_byte b) ≡ ltb k 6 && bit_of k b
  pub altered : eqb (cleared_byte b) b ≡ not (withdrawn b)

abbrev pub cleared : Record → Record
cleared r = record_is r.cycle (cleared_byte r.line)

-- how many line bytes this alters
unfoldable pub altered_count : List ℕ → ℕ
altered_count [] = 0
altered_count (b ∷ bs) = pick (eqb (cleared_byte b) b) (altered_count bs) (suc (altered_count bs))

-- the records that do not repeat the line byte of the one before them; the first is held against a byte that is given
unfoldable pub kept_after : ℕ → List Record → List Record
kept_after last [] = []
kept_after last (r ∷ rs) = pick (eqb r.line last) (kept_after r.line rs) (r ∷ kept_after r.line rs)

-- and that byte is 0
abbrev pub kept : List Record → List Record
kept rs = kept_after 0 rs

-- the new schedule of an old one
abbrev pub new_records : List Record → List Record
new_records rs = kept (map cleared rs)

-- What it is to the machine. At every clock value it has the line byte of the old one in force, without the two bits; and the machine
-- refuses neither it, with 2, nor one of its line bytes, with 15. Proved as `new_schedule` in proofs/InForce.antt.
pub record NewSchedule (rs : List Record) : Type 0 where
  pub lines :
      (clock : ℕ) →
      line_at (cycles_of (new_records rs)) (lines_of (new_records rs)) clock ≡ cleared_byte (line_at (cycles_of rs) (lines_of rs) clock)
  pub good : accepted record_limit (cycles_of (new_records rs)) (lines_of (new_records rs)) ≡ true
  pub none_withdrawn : any_withdrawn (lines_of (new_records rs)) ≡ false

abbrev pub EveryNewSchedule : Type 0
EveryNewSchedule = (rs : List Record) → accepted record_limit (cycles_of rs) (lines_of rs) ≡ true → NewSchedule rs

-- the line of a record
abbrev pub record_line : Record → List ℕ
record_line r = numeral 10 r.cycle ++ ascii " " ++ hex_byte r.line ++ ascii "\n"

unfoldable pub printed : List Record → List ℕ
printed [] = []
printed (r ∷ rs) = record_line r ++ printed rs

-- the line of the records altered and those removed
abbrev pub counts_line : ℕ → ℕ → List ℕ
counts_line altered removed = numeral 10 altered ++ ascii " " ++ numeral 10 removed ++ ascii "\n"

-- the new text of an old schedule
abbrev pub renewed : List Record → List ℕ
renewed rs =
    printed (new_records rs) ++ counts_line (altered_count (lines_of rs)) (length rs - length (new_records rs))

abbrev pub migrated_lines : List (List ℕ) → List ℕ
migrated_lines ls =
    pick (good_lines ls && accepted record_limit (cycles_of (map record_of ls)) (lines_of (map record_of ls)))
    (renewed (map record_of ls))
    (ascii "bad\n")

unfoldable pub migrated : List ℕ → List ℕ
migrated text = migrated_lines (text_lines text)

-- the lines of the new schedule
abbrev pub new_lines : List ℕ → List ℕ
new_lines text = printed (new_records (map record_of (text_lines text)))

-- They are a good text, and are not changed once more. Proved under the same name in proofs/Again.antt.
abbrev pub MigratedOnce : Type 0
MigratedOnce =
    (text : List ℕ) → good_lines (text_lines text) ≡ true →
    accepted record_limit (cycles_of (map record_of (text_lines text))) (lines_of (map record_of (text_lines text))) ≡ true →
    migrated (new_lines text) ≡ new_lines text ++ ascii "0 0\n"
