-- As equations, so that another answer to what stops is refused by its difference (must-fail/stop_answered_as_reserved.edit).
use mathlib.Core.Path.{ap}
use Rattle.decode.specs.Decode.{fetched_of}
use Rattle.decode.proofs.Laws.{cell_of_lem}
use Rattle.decode.proofs.fetch.Goals as goal

pub returns-then-stops : goal.returns-then-stops
unfolding fetched_of
returns-then-stops c = rw (← (ap cell_of_lem c.opcode_at-at.ensures), ← c.stops.ensures, c.if-stops.true)
