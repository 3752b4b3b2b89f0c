-- The digit that stands there, so that another one is refused by its difference (must-fail/digits_in_small_letters.edit).
use mathlib.Core.Path.{refl}
use Rattle.text.proofs.digit.Goals as goal

pub returns : goal.returns
returns c = refl
