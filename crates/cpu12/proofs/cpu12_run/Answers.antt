use mathlib.Core.Path.{sym, ◌∙◌, ap}
use Rattle.state.specs.declared.State.{State}
use Rattle.refusals.specs.Given.{given_is}
use Rattle.run.specs.Run.{run_of}
use Rattle.table.specs.declared.Table.{Table}
use Rattle.table.specs.Records.{table_cycles, table_lines}
use Rattle.records.proofs.First.{same_run}
use Rattle.steps.proofs.Loop.{ends_same}
use Rattle.packing.specs.Bytes.{state_of, records_of}
use Rattle.lent.proofs.Laws.{none_first, accepted}
use Rattle.cpu12.proofs.Laws.{error_refuses, passes_opens, told_leaves}
use Rattle.cpu12.proofs.cpu12_run.Goals as goal

pub returns-in-Err : goal.returns-in-Err
returns-in-Err c = error_refuses _ _ _ _ _ c.number.ensures c.in-Err.ensures.number

pub told-requires : goal.told-requires
told-requires c = (accepted c.args.state.now (none_first _ _ (sym c.in-Ok.ensures.number))).whole

pub returns : goal.returns
returns c =
    let lent = c.args in
    let m = lent.m.now in
    let s = state_of lent.state.now in
    let rs = records_of lent.schedule.now in
    let t = c.unpacked-schedule.result in
    let is_state = c.of.ensures ∙ c.state_of-before.ensures ∙ ap state_of c.in-Ok.ensures.record in
    let of-record = ap (λ (s : State). run_of s m (given_is (table_cycles t) (table_lines t)) lent.budget) is_state in
    let is-table = c.unpacked-schedule.ensures in
    let of-records = ap (λ (t : Table). run_of s m (given_is (table_cycles t) (table_lines t)) lent.budget) is-table in
    passes_opens _ _ _ _ c.in-Ok.ensures.number
    (told_leaves
    (ends_same (sym (of-record ∙ of-records ∙ same_run s m rs lent.budget)) c.run_table.ensures)
    c.told.ensures)
