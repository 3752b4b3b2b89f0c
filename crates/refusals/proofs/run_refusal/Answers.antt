-- As equations, so that another test is refused by its difference (must-fail/run_refuses_any_schedule.edit,
-- sixty_five_records_accepted.edit).
use Rattle.refusals.proofs.run_refusal.Goals as goal

pub returns : goal.returns
returns c = rw (c.first_of.ensures, c.past_limit-far.ensures, c.any_withdrawn-gone.ensures, c.accepted-good.ensures)
