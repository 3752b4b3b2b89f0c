-- As an equation, so that a push that does not follow SP is refused by its difference (must-fail/push_before_sp_falls.edit).
use Rattle.stack.proofs.pushed.Goals as goal

pub returns : goal.returns
returns g c = rw (c.writes.ensures, c.store.ensures, c.with_sp.ensures, c.minus-top.ensures, c.SIZE.ensures)
