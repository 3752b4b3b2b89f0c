-- What a run is given beside its state and its memory.
use Rattle.std.specs.Prelude.{ℕ, List}
use Rattle.schedule.specs.Schedule.{line_at}

-- the schedule: the cycle numbers of its records, and their line bytes
pub record Given : Type 0 where
  pub cycles : List ℕ
  pub lines : List ℕ

abbrev pub given_is : List ℕ → List ℕ → Given
given_is cycles lines = record { cycles = cycles; lines = lines }

-- the line byte in force at a clock value
abbrev pub line_in : Given → ℕ → ℕ
line_in given clock = line_at given.cycles given.lines clock
