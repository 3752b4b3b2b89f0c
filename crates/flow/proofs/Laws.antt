-- What the code does by the address and the cost is what a decoded instruction does. Assumes nothing.
use mathlib.Core.Path.{refl}
use Rattle.flow.specs.Control.{control_done, control_effect, DoneAsDecoded}

pub done_as_decoded : DoneAsDecoded
unfolding control_done control_effect
done_as_decoded s m d = refl
