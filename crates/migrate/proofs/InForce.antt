-- What a new schedule is to the machine: the line byte in force at every clock value, and that it is accepted. On the definitions alone.
-- Assumes nothing.
use Prim.Native.Nat.{ℕ, ◌/◌, ◌%◌}
use native.Mathlib.Omega.{arith}
use mathlib.Core.Path.{◌≡◌, refl, sym, ◌∙◌, ap}
use mathlib.Core.Bool.{Bool, true, false}
use mathlib.Core.List.{List, [], ◌∷◌, map}
use lib.Dec.{leb, eqb}
use borrow.Author.Tests.{leb-false, eqb-true}
use Rattle.word.specs.Word.{pick}
use Rattle.schedule.specs.Schedule.{rising, withdrawn, any_withdrawn, in_force}
use Rattle.schedule.proofs.Laws.{later, rising_rest, accepted_rising}
use Rattle.machine.specs.Names.{record_limit}
use Rattle.table.specs.declared.Record.{Record}
use Rattle.table.specs.Records.{cycles_of, lines_of}
use Rattle.migrate.specs.Migrated.{cleared_byte, cleared, kept_after, EveryNewSchedule}
use Rattle.migrate.proofs.Again.{kept_rises_after, kept_accepted}

-- the line byte in force of a list of records, after a byte before them
abbrev byte_in : ℕ → List Record → ℕ → ℕ
byte_in before rs clock = in_force before (cycles_of rs) (lines_of rs) clock

-- those that stay of the cleared records after a byte
abbrev staying : ℕ → List Record → List Record
staying last rs = kept_after last (map cleared rs)

-- what stays has the cleared byte of what was
stays_in_force :
    (last : ℕ) (rs : List Record) (clock : ℕ) →
    rising (cycles_of rs) ≡ true →
    byte_in (cleared_byte last) (staying (cleared_byte last) rs) clock ≡ cleared_byte (byte_in last rs clock)
unfolding rising in_force kept_after
stays_in_force last [] clock up = refl
stays_in_force last (r ∷ rs) clock up =
    go (leb r.cycle clock) refl (eqb line (cleared_byte last)) refl
    (stays_in_force r.line rs clock (rising_rest r.cycle (cycles_of rs) up))
  where
    line : ℕ
    line = cleared_byte r.line

    -- where the record is not due, none after it is
    not_due :
        leb r.cycle clock ≡ false →
        byte_in (cleared_byte last) (staying (cleared_byte r.line) rs) clock ≡ cleared_byte (byte_in last rs clock)
    not_due is =
        let after = leb-false r.cycle clock is in
        later (cleared_byte last) r.cycle _ _ clock (kept_rises_after r.cycle (cleared_byte r.line) rs up) after
        ∙ ap cleared_byte (sym (later last r.cycle (cycles_of rs) (lines_of rs) clock up after))

    -- what the record that stays puts in force
    at_line :
        {due : Bool} → leb r.cycle clock ≡ due →
        byte_in (pick (leb r.cycle clock) (cleared_byte r.line) (cleared_byte last)) (staying (cleared_byte r.line) rs) clock
        ≡ byte_in (pick due (cleared_byte r.line) (cleared_byte last)) (staying (cleared_byte r.line) rs) clock
    at_line is = ap (λ (b : Bool). byte_in (pick b (cleared_byte r.line) (cleared_byte last)) (staying (cleared_byte r.line) rs) clock) is

    go :
        (due : Bool) → leb r.cycle clock ≡ due → (repeats : Bool) → eqb (cleared_byte r.line) (cleared_byte last) ≡ repeats →
        byte_in (cleared_byte r.line) (staying (cleared_byte r.line) rs) clock ≡ cleared_byte (byte_in r.line rs clock) →
        byte_in (cleared_byte last) (pick repeats (staying (cleared_byte r.line) rs) (cleared r ∷ staying (cleared_byte r.line) rs)) clock
        ≡ cleared_byte (byte_in (pick due r.line last) rs clock)
    go true is true same rest =
        ap (λ (n : ℕ). byte_in n (staying (cleared_byte r.line) rs) clock) (sym (eqb-true _ _ same)) ∙ rest
    go true is false other rest = at_line is ∙ rest
    go false is true same rest = not_due is
    go false is false other rest = at_line is ∙ not_due is

-- a cleared byte is not withdrawn, and so none that stays is
not_withdrawn : (b : ℕ) → withdrawn (cleared_byte b) ≡ false
not_withdrawn b =
    let six : cleared_byte b / 64 % 2 ≡ 0 = omega arith in
    let seven : cleared_byte b / 128 % 2 ≡ 0 = omega arith in
    rw (six, seven)

none_withdrawn_left : (last : ℕ) (rs : List Record) → any_withdrawn (lines_of (staying last rs)) ≡ false
unfolding any_withdrawn kept_after
none_withdrawn_left last [] = refl
none_withdrawn_left last (r ∷ rs) = go (eqb (cleared_byte r.line) last) (none_withdrawn_left (cleared_byte r.line) rs)
  where
    go :
        (repeats : Bool) → any_withdrawn (lines_of (staying (cleared_byte r.line) rs)) ≡ false →
        any_withdrawn (lines_of (pick repeats (staying (cleared_byte r.line) rs) (cleared r ∷ staying (cleared_byte r.line) rs))) ≡ false
    go true rest = rest
    go false rest = rw (not_withdrawn r.line, rest)

pub new_schedule : EveryNewSchedule
new_schedule rs good =
    record {
      lines = λ clock. stays_in_force 0 rs clock (accepted_rising record_limit (cycles_of rs) (lines_of rs) good);
      good = kept_accepted rs good;
      none_withdrawn = none_withdrawn_left 0 rs;
    }
