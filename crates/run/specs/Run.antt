-- A run: steps taken one after another, up to a budget (docs/MACHINE.md, "Numbered replies", "Requests").
use Rattle.std.specs.Prelude.{ℕ, suc, List, eqb}
use Rattle.word.specs.Word.{pick}
use Rattle.state.specs.declared.State.{State}
use Rattle.refusals.specs.Given.{Given}
use Rattle.refusals.specs.Refusals.{run_refusal}
use Rattle.steps.specs.End.{End, ends_here}
use Rattle.steps.specs.Steps.{goes_on}

-- a run: refused it leaves all as it was
unfoldable pub run_of : State → List ℕ → Given → ℕ → End
run_of s m given budget =
    let refused = run_refusal s m given budget in
    pick (eqb refused 0) (goes_on (suc budget) given s m budget) (ends_here refused s m)
