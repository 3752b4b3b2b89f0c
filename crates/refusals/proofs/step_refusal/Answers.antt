-- As equations, so that another test of the memory, the line byte or the clock is refused by its difference
-- (must-fail/short_memory_accepted.edit, bits_cleared_quietly.edit, limit_one_later.edit).
use Rattle.refusals.proofs.step_refusal.Goals as goal

pub returns : goal.returns
returns c = rw (c.first_of.ensures, c.withdrawn-gone.ensures)
