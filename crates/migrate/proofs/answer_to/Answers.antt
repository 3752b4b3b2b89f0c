use mathlib.Core.Path.{sym, ◌∙◌}
use Rattle.machine.specs.Names.{record_limit}
use Rattle.schedule.proofs.Laws.{accepted_same, accepted_few}
use Rattle.migrate.proofs.answer_to.Goals as goal

-- As equations, so that another limit is refused by its difference (must-fail/sixty_five_records_accepted.edit).
pub renewed-requires : goal.renewed-requires
renewed-requires c =
    let good = sym c.accepted.ensures ∙ c.if-accepted.true in
    (accepted_same record_limit c.args.cycles.now c.args.lines.now good, accepted_few record_limit c.args.cycles.now c.args.lines.now good)
