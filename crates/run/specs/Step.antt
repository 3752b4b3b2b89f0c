-- A single step: reply, state, cycles used and all bytes, for every input (docs/MACHINE.md, "Numbered replies").
use Rattle.std.specs.Prelude.{ℕ, List, eqb}
use Rattle.word.specs.Word.{pick}
use Rattle.state.specs.declared.State.{State}
use Rattle.refusals.specs.Refusals.{refusal}
use Rattle.steps.specs.End.{End, ends_here}
use Rattle.steps.specs.Steps.{turn_end}

-- a step: refused it leaves all as it was
unfoldable pub step_of : State → List ℕ → ℕ → End
step_of s m line = pick (eqb (refusal s m line) 0) (turn_end s m line) (ends_here (refusal s m line) s m)
