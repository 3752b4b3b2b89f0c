use Rattle.lent.proofs.Laws.{length_told}
use Rattle.lent.proofs.check_length.Goals as goal

-- As equations, so that a record of any length is refused by its difference (must-fail/record_of_another_length_accepted.edit).
pub returns-clause-number : goal.returns-clause-number
returns-clause-number c = rw c.ok_or.ensures.value (length_told c.args.r.now c.as_array.result c.as_array.ensures.variant)
