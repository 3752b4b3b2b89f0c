-- As an equation, so that a store of another register is refused by its difference (must-fail/stx_stores_y.edit).
use Rattle.execute16.specs.Words.{stored}
use Rattle.execute16.proofs.store.Goals as goal

pub returns-in-Stx : goal.returns-in-Stx
unfolding stored
returns-in-Stx c = rw (c.in-Stx.is, c.stored-in-Stx.ensures)
