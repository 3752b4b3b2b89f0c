use borrow.Author.Tests.{eq-eqb, ne_eqb}
use Rattle.machine.proofs.Machine.reset.Goals as goal

-- As equations, so that another reply or vector is refused by its difference (must-fail/reset_accepts_any_memory.edit,
-- reset_reads_the_trap_vector.edit).
pub returns-in_default : goal.returns-in_default
returns-in_default c =
    let is-not = ne_eqb _ _ c.in_default.ensures.1 in
    (rw (is-not, c.after_reset.ensures.0), rw (is-not, c.after_reset.ensures.1))

pub returns : goal.returns
returns c =
    let whole = c.in-Ok.ensures.1 in
    let is = eq-eqb _ _ whole.long in
    (rw (is, c.after_reset-2.ensures.0), rw (is, c.after_reset-2.ensures.1, c.read_word.ensures, whole.same))
