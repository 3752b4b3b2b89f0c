use Rattle.std.proofs.Common.{sym, ◌∙◌, ap}
use Rattle.refusals.specs.Given.{given_is}
use Rattle.run.specs.Run.{run_of}
use Rattle.steps.proofs.Loop.{ends_same}
use Rattle.table.specs.declared.Table.{Table}
use Rattle.table.specs.Records.{table_cycles, table_lines}
use Rattle.records.proofs.First.{same_run}
use Rattle.records.proofs.run.Goals as goal

-- the run over the table that `gather` returns is the run over the records
pub returns : goal.returns
returns c =
    let s = c.args.machine.state in
    let m = c.args.m.now in
    let over : Table → _ = λ (t : Table). run_of s m (given_is (table_cycles t) (table_lines t)) c.args.budget in
    ends_same (sym (ap over c.gather.ensures ∙ same_run s m c.args.rs.now c.args.budget)) c.run_table.ensures
