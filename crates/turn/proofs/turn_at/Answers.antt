use mathlib.Core.Path.{sym, ◌∙◌}
use Rattle.requests.proofs.Laws.{line_absent}
use Rattle.turn.specs.Turn.{turn_of}
use Rattle.turn.proofs.turn_at.Goals as goal

-- As equations, so that a reply of its own is refused by its difference (must-fail/stops_on_everything.edit).
pub returns : goal.returns
unfolding turn_of
returns c = c.at_pc.ensures ∙ rw (line_absent _ (sym c.allowed_line.ensures ∙ c.in_default.is), c.if-waiting-2.false)
