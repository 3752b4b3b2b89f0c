-- As equations, so that other cycles are refused by their difference (must-fail/cycles_used_left_out.edit).
use mathlib.Core.Path.{◌∙◌}
use Rattle.cpu12.proofs.told.Goals as goal

pub returns : goal.returns
returns c = (c.from.ensures ∙ c.number.ensures, c.put_record.ensures)
