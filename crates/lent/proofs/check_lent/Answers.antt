use borrow.Author.Tests.{eq-eqb, ne_eqb}
use mathlib.Core.Path.{◌∙◌}
use Rattle.lent.proofs.Laws.{error_again, error_first, first_passes}
use Rattle.lent.proofs.check_lent.Goals as goal

pub returns-in_err-record-clause-number : goal.returns-in_err-record-clause-number
returns-in_err-record-clause-number c = error_again _ _ c.from_residual.ensures.1 ∙ error_first _ _ _ c.in_err-record.ensures.number

pub returns-then-schedule-ne0-clause-number : goal.returns-then-schedule-ne0-clause-number
returns-then-schedule-ne0-clause-number c = rw (first_passes _ _ c.in_ok-record.ensures.number, ne_eqb _ _ c.if-schedule-ne0.true)

pub returns-clause-number : goal.returns-clause-number
returns-clause-number c = rw (first_passes _ _ c.in_ok-record.ensures.number, eq-eqb _ _ c.if-schedule-ne0.false)
