-- The schedule (docs/MACHINE.md, "Requests" and reply 2): records, each a cycle number and a line byte, as two lists of the same length.
use Rattle.std.specs.Prelude.{ℕ, zero, suc, ◌<◌, ◌≤◌, ◌≡◌, Bool, true, ◌&&◌, ◌||◌, List, [], ◌∷◌, leb, ltb, eqb, length, get_or}
use Rattle.std.specs.List.{list_any}
use Rattle.word.specs.Word.{pick, bit_of}
use Rattle.schedule.specs.declared.Watch.{Watch}

-- the cycle numbers strictly rise, after one that is given
unfoldable pub rising_after : ℕ → List ℕ → Bool
rising_after c [] = true
rising_after c (d ∷ ds) = ltb c d && rising_after d ds

-- the cycle numbers strictly rise
unfoldable pub rising : List ℕ → Bool
rising [] = true
rising (c ∷ cs) = rising_after c cs

-- a list of at most so many records, whose cycle numbers strictly rise
abbrev pub accepted : ℕ → List ℕ → List ℕ → Bool
accepted most cycles lines = (eqb (length cycles) (length lines) && leb (length cycles) most) && rising cycles

-- a line byte that has bit 6 or 7: their two requests are withdrawn (reply 15)
abbrev pub withdrawn : ℕ → Bool
withdrawn line = bit_of 6 line || bit_of 7 line

-- The same in plain numbers, so that the bits cannot be changed here and in the code together: of the bytes, those from 64 on. Proved as
-- `withdrawn_from_64` in proofs/Laws.antt.
abbrev pub WithdrawnFrom64 : Type 0
WithdrawnFrom64 = (line : ℕ) → line < 256 → withdrawn line ≡ leb 64 line

-- a list of line bytes of which one has
unfoldable pub any_withdrawn : List ℕ → Bool
any_withdrawn lines = list_any withdrawn lines

-- the line byte in force at a clock value, where `before` is the one before these records: the last record's at or before it
unfoldable pub in_force : ℕ → List ℕ → List ℕ → ℕ → ℕ
in_force before [] lines clock = before
in_force before (c ∷ cs) [] clock = before
in_force before (c ∷ cs) (l ∷ ls) clock = in_force (pick (leb c clock) l before) cs ls clock

-- before the first record it is 0
abbrev pub line_at : List ℕ → List ℕ → ℕ → ℕ
line_at cycles lines clock = in_force 0 cycles lines clock

-- A place in the schedule: how many of its first records are at or before a clock value, and the line byte of the last of these.
unfoldable pub passed : List ℕ → ℕ → ℕ
passed [] clock = 0
passed (c ∷ cs) clock = pick (leb c clock) (suc (passed cs clock)) 0

abbrev pub line_before : List ℕ → ℕ → ℕ
line_before lines zero = 0
line_before lines (suc k) = get_or lines k 0

-- the clock value at which the record at a place comes into force; past the last, one that no clock reaches
abbrev pub coming_at : List ℕ → ℕ → ℕ
coming_at cycles place = get_or cycles place 4294967295

-- where a run stands in its schedule at a clock value: the place, its line byte, and when the next record comes into force
abbrev pub watch_is : ℕ → ℕ → ℕ → Watch
watch_is place line due = record { place = place; line = line; due = due }

abbrev pub watch_at : List ℕ → List ℕ → ℕ → Watch
watch_at cycles lines clock = watch_is (passed cycles clock) (line_before lines (passed cycles clock)) (coming_at cycles (passed cycles clock))

-- a watch that was found at this clock value or at one before it
pub record Watched (cycles lines : List ℕ) (clock : ℕ) (w : Watch) : Type 0 where
  pub since : ℕ
  pub before : since ≤ clock
  pub found : w ≡ watch_at cycles lines since
