-- As equations, so that a step that only idles is refused by its difference (must-fail/step_only_idles.edit).
use Rattle.effect.proofs.act.Goals as goal

pub returns : goal.returns
returns c =
    (rw (c.with_clock.ensures, c.from.ensures), c.commit.ensures)
