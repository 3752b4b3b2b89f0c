-- The sum is that of the definition (must-fail/sum_of_clock_and_budget_wraps.edit).
use Rattle.refusals.proofs.past_limit.Goals as goal

pub returns : goal.returns
returns c = rw (c.from.ensures, c.from-2.ensures)
