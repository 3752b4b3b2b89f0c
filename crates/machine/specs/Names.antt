-- The numbers that docs/MACHINE.md gives to the machine, each named here once.
use Rattle.std.specs.Prelude.{ℕ, ◌*◌, ◌≡◌, [], ◌∷◌}
use Rattle.word.specs.Word.{minus_w}
use Rattle.machine.specs.declared.Reply.{Reply}
use Rattle.machine.specs.declared.Reply.TheVariants.{Done, WrongMemory, WrongSchedule, PastLimit, Stopped, ReservedPostbyte, WrongLine}

-- "Numbered replies": the number of each reply
abbrev pub number_of : Reply → ℕ
number_of Done = 0
number_of WrongMemory = 1
number_of WrongSchedule = 2
number_of PastLimit = 3
number_of Stopped = 4
number_of ReservedPostbyte = 5
number_of WrongLine = 15

-- the bytes of the memory
abbrev pub memory_size : ℕ
memory_size = 65536

-- the records of a schedule, the budget, and the clock with the budget added, at most
abbrev pub record_limit : ℕ
record_limit = 64

abbrev pub budget_limit : ℕ
budget_limit = 100000000

abbrev pub clock_limit : ℕ
clock_limit = 4000000000

-- the clock at which a single step is still taken
abbrev pub step_limit : ℕ
step_limit = 3999999900

-- "Steps and cycles", "Requests": the vectors of reset, of the traps, of SWI, and of line k
abbrev pub reset_vector : ℕ
reset_vector = 0xFFFE

abbrev pub trap_vector : ℕ
trap_vector = 0xFFF8

abbrev pub swi_vector : ℕ
swi_vector = 0xFFF6

abbrev pub line_vector : ℕ → ℕ
line_vector k = minus_w 0xFFF4 (2 * k)

-- the lines of request are 0 to 5; where one is asked for and there is none, this number stands
abbrev pub no_line : ℕ
no_line = 6

-- the costs of an entry, of the end of a wait (WAI's second part, fVfPPP), of an RTI that takes a request (the second access detail of its
-- row, uUUUUVfPPP), and of an idle cycle
abbrev pub entry_cost : ℕ
entry_cost = 9

abbrev pub wake_cost : ℕ
wake_cost = 6

abbrev pub return_and_entry_cost : ℕ
return_and_entry_cost = 10

abbrev pub idle_cost : ℕ
idle_cost = 1

-- All of them in plain numbers, so that none can be changed here and in the code together. Proved as `in_numbers` in proofs/Laws.antt.
pub record InNumbers : Type 0 where
  -- from FFEA upward, at every second address, the vectors of the lines 5 to 0, of SWI and of the traps; and that of reset
  pub vectors :
      line_vector 5 ∷ line_vector 4 ∷ line_vector 3 ∷ line_vector 2 ∷ line_vector 1 ∷ line_vector 0 ∷ swi_vector ∷ trap_vector ∷ reset_vector ∷ []
      ≡ 0xFFEA ∷ 0xFFEC ∷ 0xFFEE ∷ 0xFFF0 ∷ 0xFFF2 ∷ 0xFFF4 ∷ 0xFFF6 ∷ 0xFFF8 ∷ 0xFFFE ∷ []
  -- an entry costs as much as SWI, the end of a wait six letters, an RTI that takes a request ten, an idle cycle one
  pub costs : entry_cost ∷ wake_cost ∷ return_and_entry_cost ∷ idle_cost ∷ [] ≡ 9 ∷ 6 ∷ 10 ∷ 1 ∷ []
  pub limits : memory_size ∷ record_limit ∷ budget_limit ∷ clock_limit ∷ step_limit ∷ [] ≡ 65536 ∷ 64 ∷ 100000000 ∷ 4000000000 ∷ 3999999900 ∷ []
