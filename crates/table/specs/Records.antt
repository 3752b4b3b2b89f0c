-- A schedule as a list of records (docs/MACHINE.md, "Requests"), and the table that its first records are put into.
use Rattle.std.specs.Prelude.{ℕ, ◌+◌, ◌<◌, List, [], ◌∷◌, map, ltb, set, take, replicate}
use Rattle.word.specs.Word.{pick}
use Rattle.machine.specs.Names.{record_limit}
use Rattle.table.specs.declared.Record.{Record}
use Rattle.table.specs.declared.Table.{Table}

abbrev pub record_is : ℕ → ℕ → Record
record_is cycle line = record { cycle = cycle; line = line }

-- the cycle numbers of the records, and their line bytes
abbrev pub cycles_of : List Record → List ℕ
cycles_of rs = map (λ (r : Record). r.cycle) rs

abbrev pub lines_of : List Record → List ℕ
lines_of rs = map (λ (r : Record). r.line) rs

-- the records that a table has room for: one more than a schedule may have
abbrev pub room : ℕ
room = record_limit + 1

-- so a table that is full has more records than a run accepts; proved under the same name in proofs/Laws.antt
abbrev pub RoomForMore : Type 0
RoomForMore = record_limit < room

-- the cycle numbers that a table holds, and the line bytes; with a count past its room it holds what it has room for
abbrev pub table_cycles : Table → List ℕ
table_cycles t = take t.count t.cycles

abbrev pub table_lines : Table → List ℕ
table_lines t = take t.count t.lines

-- the table of no records
unfoldable pub no_records : Table
no_records = record { cycles = replicate room 0; lines = replicate room 0; count = 0 }

-- the table with a record in its next place
abbrev pub placed : Table → Record → Table
placed t r = record { cycles = set t.cycles t.count r.cycle; lines = set t.lines t.count r.line; count = t.count + 1 }

-- the table with one record more, where it has room for it
abbrev pub with_record : Table → Record → Table
with_record t r = pick (ltb t.count room) (placed t r) t

-- the table with the records of a list, in their order
abbrev pub gathered : Table → List Record → Table
gathered t [] = t
gathered t (r ∷ rs) = gathered (with_record t r) rs
