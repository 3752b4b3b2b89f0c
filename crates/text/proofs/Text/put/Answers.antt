-- As the law has it, so that another length is refused by its difference (must-fail/put_passes_a_place.edit).
use native.Mathlib.Omega.{arith}
use Rattle.text.proofs.Laws.{put_one, put_past}
use Rattle.text.proofs.Text.put.Goals as goal

pub returns-then-at-lt80 : goal.returns-then-at-lt80
returns-then-at-lt80 c = put_one _ _ (omega arith)

pub returns-else-at-lt80 : goal.returns-else-at-lt80
returns-else-at-lt80 c = put_past _ _ (omega arith)
