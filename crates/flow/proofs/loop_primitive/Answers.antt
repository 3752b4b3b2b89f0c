-- As equations, so that an offset with another sign is refused by its difference (must-fail/loop_offset_not_signed.edit).
use Rattle.flow.specs.Branches.{loop_done}
use Rattle.flow.proofs.loop_primitive.Goals as goal

pub returns : goal.returns
unfolding loop_done
returns c = rw (c.looped.ensures, c.extend_9.ensures)
