-- A run equals its steps taken one after another (docs/MACHINE.md, "The machine"). Each theorem is proved under the same name in proofs/Steps.antt.
use Rattle.std.specs.Prelude.{ℕ, zero, suc, ◌+◌, ◌-◌, ◌<◌, ◌≤◌, ◌≡◌, List}
use Rattle.state.specs.declared.State.{State}
use Rattle.machine.specs.Names.{number_of}
use Rattle.memory.specs.Memory.{AreBytes}
use Rattle.refusals.specs.Given.{Given}
use Rattle.steps.specs.End.{End, ends_here, after}
use Rattle.refusals.specs.Refusals.{refusal, run_refusal}
use Rattle.steps.specs.Steps.{turn_end}
use Rattle.run.specs.Step.{step_of}
use Rattle.steps.specs.Steps.{turn_at, next_state, next_memory}
use Rattle.run.specs.Run.{run_of}
use Rattle.walk.specs.Words.{Words}

-- A single step that is not refused is the turn at its boundary: what a run takes as a step is what a single step does. (The step's own
-- limit on the clock is lower than a run's, so a run may still take a step where a single one is refused.)
abbrev pub AStepIsATurn : Type 0
AStepIsATurn =
    (s : State) (m : List ℕ) (line : ℕ) →
    refusal s m line ≡ 0 →
    step_of s m line ≡ turn_end s m line

-- where so many steps lead, one after another, each under the line byte in force at its own boundary
unfoldable pub after_steps : ℕ → Given → State → List ℕ → End
after_steps zero given s m = ends_here 0 s m
after_steps (suc n) given s m =
    after (turn_at given s m).effect.cost (after_steps n given (next_state given s m) (next_memory given s m))

-- An end e is that of n steps. Each of them was done, and there was enough to spend for it. The end has the state, the memory and the
-- cycles of these steps. It has the reply of the turn at the boundary that they lead to, 4 or 5, or else 0: and 0 because that turn
-- costs more than is left.
pub record IsOfSteps (n : ℕ) (s : State) (m : List ℕ) (given : Given) (budget : ℕ) (e : End) : Type 0 where
  pub done :
      (k : ℕ) →
      k < n →
      number_of (turn_at given (after_steps k given s m).state (after_steps k given s m).memory).reply ≡ 0
  pub paid : (k : ℕ) → k ≤ n → (after_steps k given s m).cycles ≤ budget
  pub state : e.state ≡ (after_steps n given s m).state
  pub memory : e.memory ≡ (after_steps n given s m).memory
  pub used : e.cycles ≡ (after_steps n given s m).cycles
  pub reply : e.reply ≡ number_of (turn_at given e.state e.memory).reply
  pub spent : e.reply ≡ 0 → budget < e.cycles + (turn_at given e.state e.memory).effect.cost

-- every run that is not refused ends so
abbrev pub ARunIsItsSteps : Type 0
ARunIsItsSteps =
    (s : State) (m : List ℕ) (given : Given) (budget : ℕ) →
    Words s →
    AreBytes m →
    run_refusal s m given budget ≡ 0 →
    (n : ℕ) × IsOfSteps n s m given budget (run_of s m given budget)

-- A run split in two is the one run: whatever part of the budget the first may spend, the second goes on where it ended, with what is
-- left. So a run may be split at any of its boundaries.
abbrev pub ARunSplits : Type 0
ARunSplits =
    (s : State) (m : List ℕ) (given : Given) (first budget : ℕ) →
    Words s →
    AreBytes m →
    run_refusal s m given budget ≡ 0 →
    first ≤ budget →
    run_of s m given budget
    ≡ after (run_of s m given first).cycles
    (run_of (run_of s m given first).state (run_of s m given first).memory given
    (budget - (run_of s m given first).cycles))

-- Runs one after another from a state and a memory: a first, and then any number of further ones, each of which goes on with the state
-- and the memory that the one before it left, and with a budget as the caller likes, within a run's limits. (After 4 or 5 a further run
-- ends where it begins, with the same reply.) e is what they end with, all together, and `room` what they may spend, all together: the
-- cycles that the earlier ones used, and the last one's budget.
pub data OneAfterAnother (s : State) (m : List ℕ) (given : Given) : ℕ → End → Type 0 where
  one_run : (budget : ℕ) → run_refusal s m given budget ≡ 0 → OneAfterAnother s m given budget (run_of s m given budget)
  one_more_run :
      {room : ℕ} {e : End} →
      OneAfterAnother s m given room e →
      (budget : ℕ) →
      run_refusal e.state e.memory given budget ≡ 0 →
      OneAfterAnother s m given (e.cycles + budget) (after e.cycles (run_of e.state e.memory given budget))

-- The steps of a further run are the further steps of those before it, whatever the budgets: all together end as so many steps do, one
-- after another, up to what they may spend. So a run that has to go on longer than one budget allows is called again.
abbrev pub RunsGoOn : Type 0
RunsGoOn =
    (s : State) (m : List ℕ) (given : Given) (room : ℕ) (e : End) →
    Words s →
    AreBytes m →
    OneAfterAnother s m given room e →
    (n : ℕ) × IsOfSteps n s m given room e

-- the clock grows by the cycles used, and these are within the budget
abbrev pub TheClockGrows : Type 0
TheClockGrows =
    (s : State) (m : List ℕ) (given : Given) (budget : ℕ) →
    (run_of s m given budget).state.clock ≡ s.clock + (run_of s m given budget).cycles

abbrev pub WithinTheBudget : Type 0
WithinTheBudget = (s : State) (m : List ℕ) (given : Given) (budget : ℕ) → (run_of s m given budget).cycles ≤ budget
