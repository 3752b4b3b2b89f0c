use mathlib.Core.Path.{sym, ◌∙◌}
use Rattle.table.proofs.Laws.{all_put}
use Rattle.table.proofs.gather.Goals as goal

-- As equations, so that a loop over other records is refused by their difference (must-fail/first_record_skipped.edit).
pub returns : goal.returns
returns c = sym (all_put _ _ _ c.loop-r-test.false) ∙ c.loop-r.invariant
