use Prim.Native.Nat.{ℕ}
use mathlib.Core.Path.{◌≡◌, refl, sym, ◌∙◌, ap}
use mathlib.Core.List.{List}
use borrow.Author.Rules.{rules}
use Rattle.schedule.specs.Schedule.{rising, rising_after}
use Rattle.machine.specs.Names.{number_of}
use Rattle.steps.specs.Steps.{turn_end}
use Rattle.steps.proofs.Loop.{ends_as, ends_same}
use Rattle.run.proofs.OneStep.{one_step}
use Rattle.run.proofs.Refusals.{refused_some, step_refused, step_taken}
use Rattle.run.proofs.step.Goals as goal

pub returns-in-Err : goal.returns-in-Err
returns-in-Err c =
    let lent = c.args in
    let told = c.in-Err.ensures in
    let said = c.answered.ensures in
    ends_as (step_refused lent.machine.state lent.m.now lent.line (λ none. refused_some c.in-Err.refusal (told ∙ none)))
    _ (ap number_of said.0 ∙ c.from.ensures ∙ told) said.1.0 said.1.1

pub go-requires-clause-cycles_value : goal.go-requires-clause-cycles_value
unfolding rising rising_after
go-requires-clause-cycles_value c = refl

pub returns : goal.returns
returns c =
    let lent = c.args in
    let s = lent.machine.state in
    let whole = rw c.unwrap-memory.ensures at c.as_mut_array.ensures.cases in
    ends_same (step_taken s lent.m.now lent.line (sym c.in_default.ensures)
    ∙ ap (λ (m : List ℕ). turn_end s m lent.line) (sym whole.same)
    ∙ sym (one_step s c.unwrap-memory.result.now lent.line (λ a. search rules)))
    c.go.ensures
