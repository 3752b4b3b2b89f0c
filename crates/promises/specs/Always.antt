-- The machine always answers, always ends, and changes nothing that it does not say (the first demand). Each theorem is proved under the
-- same name in proofs/Always.antt. That every function ends is proved with the function; here it is said of the run in numbers.
use Rattle.std.specs.Prelude.{ℕ, ◌≤◌, ◌≡◌, true, List, [], ◌∷◌}
use Rattle.state.specs.declared.State.{State}
use Rattle.memory.specs.Memory.{AreBytes}
use Rattle.opcodes.specs.Rules.{among}
use Rattle.refusals.specs.Given.{Given}
use Rattle.steps.specs.End.{ends_here}
use Rattle.run.specs.Step.{step_of}
use Rattle.refusals.specs.Refusals.{run_refusal}
use Rattle.run.specs.Run.{run_of}
use Rattle.walk.specs.Words.{Words}
use Rattle.promises.specs.Steps.{IsOfSteps}

-- every run has one of the replies of docs/MACHINE.md, 0 to 5 and 15
abbrev pub replies : List ℕ
replies = 0 ∷ 1 ∷ 2 ∷ 3 ∷ 4 ∷ 5 ∷ 15 ∷ []

abbrev pub EveryRunReplies : Type 0
EveryRunReplies = (s : State) (m : List ℕ) (given : Given) (budget : ℕ) → among (run_of s m given budget).reply replies ≡ true

-- A run takes no more steps than it may spend cycles. So it visits at most one boundary more than that: those before its steps, and the
-- last.
abbrev pub EveryRunEnds : Type 0
EveryRunEnds =
    (s : State) (m : List ℕ) (given : Given) (budget steps : ℕ) →
    Words s →
    AreBytes m →
    IsOfSteps steps s m given budget (run_of s m given budget) →
    steps ≤ budget

-- a step that is not done, refused or stopped, leaves all as it was, and uses no cycle
abbrev pub AStepNotDoneChangesNothing : Type 0
AStepNotDoneChangesNothing =
    (s : State) (m : List ℕ) (line : ℕ) →
    ((step_of s m line).reply ≡ 0 → ⊥) →
    step_of s m line ≡ ends_here (step_of s m line).reply s m

-- a run that is refused leaves all as it was, and uses no cycle
abbrev pub ARefusedRunChangesNothing : Type 0
ARefusedRunChangesNothing =
    (s : State) (m : List ℕ) (given : Given) (budget : ℕ) →
    (run_refusal s m given budget ≡ 0 → ⊥) →
    run_of s m given budget ≡ ends_here (run_refusal s m given budget) s m
