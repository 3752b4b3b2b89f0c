-- Inner definitions: the page that the program prints, and how its lines are put on it.
use Rattle.std.specs.Prelude.{ℕ, ◌≡◌, Option, Some, None, List, [], ◌∷◌, ◌++◌, ltb, eqb}
use Rattle.word.specs.Word.{pick}
use Rattle.schedule.specs.Schedule.{accepted}
use Rattle.machine.specs.Names.{record_limit}
use Rattle.table.specs.declared.Record.{Record}
use Rattle.table.specs.declared.Table.{Table}
use Rattle.table.specs.Records.{record_is, room, table_cycles, table_lines}
use Rattle.text.specs.declared.Text.{Text}
use Rattle.text.specs.Text.{ascii, blank, written, with_bytes}
use Rattle.arrayvec.specs.ArrayVec.{array_vec_len}
use Rattle.migrate.specs.declared.page.Page.{Page}
use Rattle.migrate.specs.declared.reading.Reading.{Reading}
use Rattle.migrate.specs.Migrated.{cleared_byte, record_line, renewed, migrated}
use Rattle.migrate.specs.Reading.{begun, read_on, finished}

-- what is written in texts, one after another
unfoldable pub joined : List Text → List ℕ
joined [] = []
joined (t ∷ ts) = written t ++ joined ts

-- what is written on a page
abbrev pub page_text : Page → List ℕ
page_text p = joined p.lines.items

abbrev pub empty_page : Page
empty_page = record { lines = record { items = [] } }

-- a page with one line more, where it has room for it
abbrev pub with_text : Page → Text → Page
with_text p t = pick (ltb (array_vec_len p.lines) room) (record { lines = record { items = p.lines.items ++ t ∷ [] } }) p

-- a text of these bytes
abbrev pub text_of : List ℕ → Text
text_of bs = with_bytes blank bs

-- the records of two lists of the same length
unfoldable pub paired : List ℕ → List ℕ → List Record
paired [] ls = []
paired (c ∷ cs) [] = []
paired (c ∷ cs) (l ∷ ls) = record_is c l ∷ paired cs ls

-- a page with the line of a record that does not repeat the byte before it
abbrev pub with_record_line : Page → ℕ → Record → Page
with_record_line p last r = pick (eqb r.line last) p (with_text p (text_of (record_line r)))

-- and with those of the cleared records of a list
unfoldable pub with_kept : Page → ℕ → List Record → Page
with_kept p last [] = p
with_kept p last (r ∷ rs) =
    with_kept (with_record_line p last (record_is r.cycle (cleared_byte r.line))) (cleared_byte r.line) rs

-- what is printed for two lists of numbers
abbrev pub answer_to : List ℕ → List ℕ → List ℕ
answer_to cycles lines = pick (accepted record_limit cycles lines) (renewed (paired cycles lines)) (ascii "bad\n")

-- and for finished lines
abbrev pub answer_of : Option Table → List ℕ
answer_of None = ascii "bad\n"
answer_of (Some t) = answer_to (table_cycles t) (table_lines t)

-- What is printed for a text of which one part was read and another is left. Where this reading is what a first part of a text leaves, as
-- every reading is that the program comes to, it is what the whole text is migrated to; with no first part the rest is that text. Of any
-- other reading it is determined too.
pub record Answers (before : Reading) (rest page : List ℕ) : Type 0 where
  pub whole : (first : List ℕ) → before ≡ read_on begun first → page ≡ migrated (first ++ rest)
  pub of_any : page ≡ answer_of (finished (read_on before rest))
