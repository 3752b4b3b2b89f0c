use mathlib.Core.Path.{sym, ◌∙◌, ap}
use Rattle.state.specs.declared.State.{State}
use Rattle.run.specs.Step.{step_of}
use Rattle.steps.proofs.Loop.{ends_same}
use Rattle.packing.specs.Bytes.{state_of}
use Rattle.lent.proofs.Laws.{accepted}
use Rattle.cpu12.proofs.Laws.{error_refuses, passes_opens, told_leaves}
use Rattle.cpu12.proofs.cpu12_step.Goals as goal

pub returns-in-Err : goal.returns-in-Err
returns-in-Err c = error_refuses _ _ _ _ _ c.number.ensures c.in-Err.ensures.number

pub told-requires : goal.told-requires
told-requires c = (accepted c.args.state.now (sym c.in-Ok.ensures.number)).whole

pub returns : goal.returns
returns c =
    let lent = c.args in
    let is_state = c.of.ensures ∙ c.state_of-before.ensures ∙ ap state_of c.in-Ok.ensures.record in
    passes_opens _ _ _ _ c.in-Ok.ensures.number
    (told_leaves
    (ends_same (ap (λ (s : State). step_of s lent.m.now lent.line) (sym is_state)) c.step.ensures)
    c.told.ensures)
