use native.Mathlib.Omega.{arith}
use native.Mathlib.Numerals.{add-one}
use Prim.Native.Nat.{ℕ, suc}
use mathlib.Core.Path.{◌≡◌, sym, ◌∙◌, ap}
use mathlib.Core.List.{List}
use Rattle.schedule.proofs.Laws.{accepted_same, accepted_rising}
use Rattle.machine.specs.Names.{number_of, record_limit}
use Rattle.refusals.specs.Given.{given_is}
use Rattle.refusals.proofs.Laws.{is_free}
use Rattle.steps.specs.Steps.{goes_on}
use Rattle.steps.proofs.Loop.{ends_as, ends_same}
use Rattle.run.proofs.Refusals.{refused_some, run_refused, run_taken}
use Rattle.run.proofs.run.Goals as goal

pub returns-in-Err : goal.returns-in-Err
returns-in-Err c =
    let lent = c.args in
    let given = given_is lent.cycles.now lent.lines.now in
    let told = c.in-Err.ensures in
    let said = c.answered.ensures in
    ends_as (run_refused lent.machine.state lent.m.now given lent.budget (λ none. refused_some c.in-Err.refusal (told ∙ none)))
    _ (ap number_of said.0 ∙ c.from.ensures ∙ told) said.1.0 said.1.1

pub overflow_add-budget : goal.overflow_add-budget
overflow_add-budget c =
    let given = given_is c.args.cycles.now c.args.lines.now in
    let f = is_free c.args.machine.state c.args.m.now given c.args.budget (sym c.in_default.ensures) in
    omega (arith, f.small)

pub go-requires-clause-cycles_len : goal.go-requires-clause-cycles_len
go-requires-clause-cycles_len c =
    let given = given_is c.args.cycles.now c.args.lines.now in
    let f = is_free c.args.machine.state c.args.m.now given c.args.budget (sym c.in_default.ensures) in
    accepted_same record_limit c.args.cycles.now c.args.lines.now f.good

pub go-requires-clause-cycles_value : goal.go-requires-clause-cycles_value
go-requires-clause-cycles_value c =
    let given = given_is c.args.cycles.now c.args.lines.now in
    let f = is_free c.args.machine.state c.args.m.now given c.args.budget (sym c.in_default.ensures) in
    accepted_rising record_limit c.args.cycles.now c.args.lines.now f.good

pub go-requires-clause-budget_bound : goal.go-requires-clause-budget_bound
go-requires-clause-budget_bound c =
    let given = given_is c.args.cycles.now c.args.lines.now in
    let f = is_free c.args.machine.state c.args.m.now given c.args.budget (sym c.in_default.ensures) in
    f.near

pub returns : goal.returns
returns c =
    let lent = c.args in
    let given = given_is lent.cycles.now lent.lines.now in
    let s = lent.machine.state in
    let budget = lent.budget in
    let whole = rw c.unwrap-memory.ensures at c.as_mut_array.ensures.cases in
    ends_same (run_taken s lent.m.now given budget (sym c.in_default.ensures)
    ∙ ap (λ (m : List ℕ). goes_on (suc budget) given s m budget) (sym whole.same)
    ∙ ap (λ (k : ℕ). goes_on k given s c.unwrap-memory.result.now budget) (sym (add-one budget)))
    c.go.ensures
