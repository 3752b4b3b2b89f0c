-- What is answered to a text that is read byte by byte is its migrated text. On the definitions alone. Assumes nothing.
use Prim.Native.Nat.{ℕ, ◌<◌, ◌≤◌}
use native.Mathlib.Omega.{arith}
use native.Mathlib.Decide.{dec_le}
use mathlib.Core.Path.{◌≡◌, refl, sym, ◌∙◌, ap}
use mathlib.Core.Bool.{Bool, true, false, ◌&&◌}
use mathlib.Core.List.{List, [], ◌∷◌, ◌++◌, map}
use lib.ListN.{length, take, length-take, length-map}
use lib.Seq.{take_all}
use Rattle.word.specs.Word.{pick}
use Rattle.schedule.specs.Schedule.{accepted}
use Rattle.schedule.proofs.Laws.{accepted_few}
use Rattle.machine.specs.Names.{record_limit}
use Rattle.table.specs.declared.Record.{Record}
use Rattle.table.specs.Records.{cycles_of, lines_of, room, table_cycles, table_lines, no_records, gathered}
use Rattle.table.proofs.Laws.{holds_first}
use Rattle.text.specs.Text.{ascii}
use Rattle.migrate.specs.declared.reading.Reading.{Reading}
use Rattle.migrate.specs.Format.{text_lines, good_lines, record_of}
use Rattle.migrate.specs.Migrated.{renewed, migrated_lines, migrated}
use Rattle.migrate.specs.Reading.{lines_are, begun, with_byte, read_on, ReadInParts, finished}
use Rattle.migrate.specs.Page.{paired, answer_to, answer_of, Answers}
use Rattle.migrate.proofs.AllLines.{lines_read, lines_of_text, gives}
use Rattle.migrate.proofs.Renewed.{paired_records}

-- a schedule of too many records is refused
too_many : (cs ls : List ℕ) → record_limit < length cs → answer_to cs ls ≡ ascii "bad\n"
too_many cs ls more = go (accepted record_limit cs ls) (accepted_few record_limit cs ls)
  where
    go : (good : Bool) → (good ≡ true → length cs ≤ record_limit) → pick good (renewed (paired cs ls)) (ascii "bad\n") ≡ ascii "bad\n"
    go true few = absurd (omega (arith, few refl, more))
    go false few = refl

-- so the numbers that a table has room for stand for all
first_enough : (cs ls : List ℕ) → length cs ≡ length ls → answer_to (take room cs) (take room ls) ≡ answer_to cs ls
first_enough cs ls same = go (dec_le (length cs) room)
  where
    go : Dec (length cs ≤ room) → answer_to (take room cs) (take room ls) ≡ answer_to cs ls
    go (yes fits) = rw (take_all room cs fits, take_all room ls (omega (arith, fits, same)))
    go (no more) =
        too_many (take room cs) (take room ls) (simp length-take (omega (arith, more))) ∙ sym (too_many cs ls (omega (arith, more)))

table_answers : (rs : List Record)
    → answer_to (table_cycles (gathered no_records rs)) (table_lines (gathered no_records rs))
    ≡ pick (accepted record_limit (cycles_of rs) (lines_of rs)) (renewed rs) (ascii "bad\n")
table_answers rs =
    let held = holds_first rs in
    let same : length (cycles_of rs) ≡ length (lines_of rs) =
    length-map rs (λ (z : Record). z.cycle) ∙ sym (length-map rs (λ (z : Record). z.line)) in
    rw (held.cycles_are, held.lines_are_lem) (first_enough (cycles_of rs) (lines_of rs) same ∙ rw (paired_records rs))

-- what is answered to the lines of a text
lines_answer : (ls : List (List ℕ)) → answer_of (lines_read (lines_are true no_records) ls) ≡ migrated_lines ls
lines_answer ls = rw (gives no_records ls) (go (good_lines ls))
  where
    go : (good : Bool) → answer_of (lines_are good (gathered no_records (map record_of ls)))
        ≡ pick (good && accepted record_limit (cycles_of (map record_of ls)) (lines_of (map record_of ls))) (renewed (map record_of ls)) (ascii "bad\n")
    go true = table_answers (map record_of ls)
    go false = refl

migrates : (text : List ℕ) → answer_of (finished (read_on begun text)) ≡ migrated text
unfolding migrated
migrates text = rw (lines_of_text (lines_are true no_records) text) (lines_answer (text_lines text))

pub read_in_parts : ReadInParts
unfolding read_on
read_in_parts s [] b = refl
read_in_parts s (x ∷ a) b = read_in_parts (with_byte s.done s.part x) a b

-- so the last part of a text, after what was read before it, is answered as the whole text
pub answers : (before : Reading) (rest page : List ℕ) → page ≡ answer_of (finished (read_on before rest)) → Answers before rest page
answers before rest page is =
    record {
      whole = λ first left. is ∙ rw left (ap (λ (s : Reading). answer_of (finished s)) (sym (read_in_parts begun first rest)) ∙ migrates (first ++ rest));
      of_any = is;
    }
