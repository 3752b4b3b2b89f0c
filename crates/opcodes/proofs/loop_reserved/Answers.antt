use mathlib.Core.Path.{refl}
use Rattle.opcodes.proofs.loop_reserved.Goals as goal

pub returns : goal.returns
returns c = refl
