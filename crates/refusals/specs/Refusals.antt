-- What a step and what a run refuse, and in which order (docs/MACHINE.md, "Numbered replies"). A later reply that refuses is added here.
use Rattle.std.specs.Prelude.{ℕ, ◌+◌, Bool, not, ◌||◌, List, Result, Ok, Err, ltb, eqb, length}
use Rattle.word.specs.Word.{pick}
use Rattle.state.specs.declared.State.{State}
use Rattle.schedule.specs.Schedule.{accepted, withdrawn, any_withdrawn}
use Rattle.machine.specs.Names.{memory_size, record_limit, budget_limit, clock_limit, step_limit}
use Rattle.refusals.specs.declared.Refusal.{Refusal}
use Rattle.refusals.specs.declared.Refusal.TheVariants.{WrongMemory, WrongSchedule, WrongLine, PastLimit}
use Rattle.refusals.specs.Given.{Given}

-- the number of the reply that a refusal is answered with
abbrev pub refusal_number : Refusal → ℕ
refusal_number WrongMemory = 1
refusal_number WrongSchedule = 2
refusal_number WrongLine = 15
refusal_number PastLimit = 3

-- the same of what may be refused; 0 where it is not
abbrev pub refused_number : {A : Type 0} → Result A Refusal → ℕ
refused_number (Ok x) = 0
refused_number (Err r) = refusal_number r

-- whether a step is refused: reply 1 for the memory, then 15 for the line byte, then 3 for the clock
abbrev pub refusal : State → List ℕ → ℕ → ℕ
refusal s m line = pick (not (eqb (length m) memory_size)) 1 (pick (withdrawn line) 15 (pick (ltb step_limit s.clock) 3 0))

-- reply 3: the budget, or the clock with the budget added, is past its limit
abbrev pub past_limit : ℕ → ℕ → Bool
past_limit clock budget = ltb budget_limit budget || ltb clock_limit (clock + budget)

-- whether a run is refused: reply 1 for the memory, then 2 for the schedule, then 15 for its line bytes, then 3 for the limits
abbrev pub run_refusal : State → List ℕ → Given → ℕ → ℕ
run_refusal s m given budget =
    pick (not (eqb (length m) memory_size)) 1
    (pick (not (accepted record_limit given.cycles given.lines)) 2
    (pick (any_withdrawn given.lines) 15 (pick (past_limit s.clock budget) 3 0)))
