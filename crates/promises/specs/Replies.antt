-- Each reply is given exactly when docs/MACHINE.md says ("Numbered replies"): one theorem for each reply of reset, step and run, proved under
-- the same name in proofs/Replies.antt. `P ↔ Q` is the pair of `P → Q` and `Q → P`. The tests are in the order of docs/MACHINE.md, so a later
-- reply says that no earlier one is due.
use Rattle.std.specs.Prelude.{ℕ, suc, ◌+◌, ◌-◌, ◌<◌, ◌≤◌, ◌≡◌, Bool, true, false, ◌&&◌, ◌||◌, List, [], ◌∷◌, ◌↔◌, ◌⊎◌, eqb, length, get_or}
use Rattle.word.specs.Word.{bit_of, plus_w}
use Rattle.memory.specs.Memory.{byte_at, AreBytes}
use Rattle.state.specs.declared.Flags.{Flags}
use Rattle.state.specs.declared.State.{State}
use Rattle.opcodes.specs.Rules.{among}
use Rattle.decode.specs.Decode.{cell_at, after_opcode, reserved_at}
use Rattle.machine.specs.Reset.{reset_reply}
use Rattle.refusals.specs.Given.{Given, line_in}
use Rattle.steps.specs.End.{End}
use Rattle.run.specs.Step.{step_of}
use Rattle.run.specs.Run.{run_of}
use Rattle.walk.specs.Words.{Words}
use Rattle.promises.specs.Costs.{tabled_cost}

-- Reset: 0 where the memory is 65,536 bytes long, and 1 where it is not.
abbrev pub ResetGivesZero : Type 0
ResetGivesZero = (m : List ℕ) → (reset_reply m ≡ 0) ↔ (length m ≡ 65536)

abbrev pub ResetGivesOne : Type 0
ResetGivesOne = (m : List ℕ) → (reset_reply m ≡ 1) ↔ (length m ≡ 65536 → ⊥)

-- No request is to be entered: XIRQ, bit 0, is down or X is set, and of each other line the bit is down or I is set.
abbrev pub NoRequest : Flags → ℕ → Type 0
NoRequest f line =
    (bit_of 0 line ≡ true → f.x ≡ true) × ((k : ℕ) → 1 ≤ k → k ≤ 5 → bit_of k line ≡ true → f.i ≡ true)

-- The ten encodings that stop the machine. On page 1: 00 BGND, 01 MEM, 0A RTC, 3C wavr, 4A and 4B CALL. On page 2, after the prebyte
-- 18: 3A REV, 3B REVW, 3C WAV, 3E STOP.
abbrev pub stops_on_page_one : List ℕ
stops_on_page_one = 0x00 ∷ 0x01 ∷ 0x0A ∷ 0x3C ∷ 0x4A ∷ 0x4B ∷ []

abbrev pub stops_on_page_two : List ℕ
stops_on_page_two = 0x3A ∷ 0x3B ∷ 0x3C ∷ 0x3E ∷ []

-- the opcode at an address is one of the ten
abbrev pub one_of_the_ten : List ℕ → ℕ → Bool
one_of_the_ten m pc =
    among (byte_at m pc) stops_on_page_one || (eqb (byte_at m pc) 0x18 && among (byte_at m (plus_w pc 1)) stops_on_page_two)

-- 4 is due at a boundary: no request is to be entered, the machine is not waiting, and the opcode is one of the ten
pub record StopsHere (s : State) (m : List ℕ) (line : ℕ) : Type 0 where
  pub request : NoRequest s.flags line
  pub awake : s.standing.waiting ≡ false
  pub opcode : one_of_the_ten m s.pc ≡ true

-- 5 is due at a boundary: as 4, but the opcode is none of the ten, and a postbyte of the instruction is reserved
pub record IsReservedHere (s : State) (m : List ℕ) (line : ℕ) : Type 0 where
  pub request : NoRequest s.flags line
  pub awake : s.standing.waiting ≡ false
  pub opcode : one_of_the_ten m s.pc ≡ false
  pub postbyte : reserved_at m (cell_at m s.pc) (after_opcode m s.pc) ≡ true

-- A line byte that is refused: bit 6 or 7 is set.
abbrev pub BadLine : ℕ → Type 0
BadLine line = (bit_of 6 line ≡ true) ⊎ (bit_of 7 line ≡ true)

-- A single step: 1 where the memory is not 65,536 bytes long; 15 where it is, and the line byte is refused; 3 where neither is so, and
-- the clock is over 3,999,999,900.
abbrev pub StepGivesOne : Type 0
StepGivesOne = (s : State) (m : List ℕ) (line : ℕ) → ((step_of s m line).reply ≡ 1) ↔ (length m ≡ 65536 → ⊥)

abbrev pub StepGivesFifteen : Type 0
StepGivesFifteen = (s : State) (m : List ℕ) (line : ℕ) → ((step_of s m line).reply ≡ 15) ↔ ((length m ≡ 65536) × BadLine line)

abbrev pub StepGivesThree : Type 0
StepGivesThree =
    (s : State) (m : List ℕ) (line : ℕ) →
    ((step_of s m line).reply ≡ 3) ↔ ((length m ≡ 65536) × (BadLine line → ⊥) × (3999999900 < s.clock))

-- none of 1, 15 and 3
pub record StepAccepted (s : State) (m : List ℕ) (line : ℕ) : Type 0 where
  pub memory : length m ≡ 65536
  pub no_bad_line : BadLine line → ⊥
  pub clock : s.clock ≤ 3999999900

-- 4 and 5 where they are due, and 0 where nothing else is: the step was done
abbrev pub StepGivesFour : Type 0
StepGivesFour =
    (s : State) (m : List ℕ) (line : ℕ) →
    AreBytes m →
    ((step_of s m line).reply ≡ 4) ↔ (StepAccepted s m line × StopsHere s m line)

abbrev pub StepGivesFive : Type 0
StepGivesFive =
    (s : State) (m : List ℕ) (line : ℕ) →
    AreBytes m →
    ((step_of s m line).reply ≡ 5) ↔ (StepAccepted s m line × IsReservedHere s m line)

abbrev pub StepGivesZero : Type 0
StepGivesZero =
    (s : State) (m : List ℕ) (line : ℕ) →
    AreBytes m →
    ((step_of s m line).reply ≡ 0) ↔ (StepAccepted s m line × (StopsHere s m line → ⊥) × (IsReservedHere s m line → ⊥))

-- A schedule that is refused: it has over 64 records, or two neighbours whose cycle numbers do not strictly rise, or (as two lists) not
-- as many line bytes as cycle numbers.
pub data BadSchedule (given : Given) : Type 0 where
  long : 64 < length given.cycles → BadSchedule given
  falls : (k : ℕ) → suc k < length given.cycles → get_or given.cycles (suc k) 0 ≤ get_or given.cycles k 0 → BadSchedule given
  uneven : (length given.cycles ≡ length given.lines → ⊥) → BadSchedule given

-- A schedule with a line byte that is refused, wherever it stands: the first, the last, one that never comes into force.
abbrev pub BadLineIn : Given → Type 0
BadLineIn given = (k : ℕ) × (k < length given.lines) × BadLine (get_or given.lines k 0)

-- A run: 1 where the memory is not 65,536 bytes long; 2 where it is, and the schedule is refused; 15 where neither is so, and a line byte
-- of it is refused; 3 where none of these is so, and the budget is over 100,000,000 or clock plus budget over 4,000,000,000.
abbrev pub RunGivesOne : Type 0
RunGivesOne = (s : State) (m : List ℕ) (given : Given) (budget : ℕ) → ((run_of s m given budget).reply ≡ 1) ↔ (length m ≡ 65536 → ⊥)

abbrev pub RunGivesTwo : Type 0
RunGivesTwo =
    (s : State) (m : List ℕ) (given : Given) (budget : ℕ) →
    ((run_of s m given budget).reply ≡ 2) ↔ ((length m ≡ 65536) × BadSchedule given)

abbrev pub RunGivesFifteen : Type 0
RunGivesFifteen =
    (s : State) (m : List ℕ) (given : Given) (budget : ℕ) →
    ((run_of s m given budget).reply ≡ 15) ↔ ((length m ≡ 65536) × (BadSchedule given → ⊥) × BadLineIn given)

abbrev pub RunGivesThree : Type 0
RunGivesThree =
    (s : State) (m : List ℕ) (given : Given) (budget : ℕ) →
    ((run_of s m given budget).reply ≡ 3)
    ↔ ((length m ≡ 65536)
    × (BadSchedule given → ⊥)
    × (BadLineIn given → ⊥)
    × ((100000000 < budget) ⊎ (4000000000 < s.clock + budget)))

-- none of 1, 2, 15 and 3
pub record RunAccepted (s : State) (m : List ℕ) (given : Given) (budget : ℕ) : Type 0 where
  pub memory : length m ≡ 65536
  pub schedule : BadSchedule given → ⊥
  pub no_bad_line : BadLineIn given → ⊥
  pub spends : budget ≤ 100000000
  pub clock : s.clock + budget ≤ 4000000000

-- 4 or 5 is due at the boundary where a run ended, under the line byte in force there
abbrev pub StopsAtEnd : Given → End → Type 0
StopsAtEnd given e = StopsHere e.state e.memory (line_in given e.state.clock)

abbrev pub IsReservedAtEnd : Given → End → Type 0
IsReservedAtEnd given e = IsReservedHere e.state e.memory (line_in given e.state.clock)

abbrev pub RunGivesFour : Type 0
RunGivesFour =
    (s : State) (m : List ℕ) (given : Given) (budget : ℕ) →
    Words s →
    AreBytes m →
    ((run_of s m given budget).reply ≡ 4)
    ↔ (RunAccepted s m given budget × StopsAtEnd given (run_of s m given budget))

abbrev pub RunGivesFive : Type 0
RunGivesFive =
    (s : State) (m : List ℕ) (given : Given) (budget : ℕ) →
    Words s →
    AreBytes m →
    ((run_of s m given budget).reply ≡ 5)
    ↔ (RunAccepted s m given budget × IsReservedAtEnd given (run_of s m given budget))

-- the step at the boundary where a run ended costs more than the budget left
abbrev pub CostsMoreThanLeft : Given → ℕ → End → Type 0
CostsMoreThanLeft given budget e =
    budget - e.cycles < tabled_cost e.state e.memory (line_in given e.state.clock)

-- and 0 where neither is due there, and the step there costs more than the budget left
abbrev pub RunGivesZero : Type 0
RunGivesZero =
    (s : State) (m : List ℕ) (given : Given) (budget : ℕ) →
    Words s →
    AreBytes m →
    ((run_of s m given budget).reply ≡ 0)
    ↔ (RunAccepted s m given budget
    × (StopsAtEnd given (run_of s m given budget) → ⊥)
    × (IsReservedAtEnd given (run_of s m given budget) → ⊥)
    × CostsMoreThanLeft given budget (run_of s m given budget))
