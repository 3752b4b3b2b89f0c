-- As equations, so that a comparison that writes is refused by its difference (must-fail/compare_writes_the_register.edit).
use Rattle.execute8.specs.Bytes.{accumulated}
use Rattle.execute8.proofs.accumulated.Goals as goal

pub returns-in-Cmp : goal.returns-in-Cmp
unfolding accumulated
returns-in-Cmp c = rw (c.in-Cmp.is, c.keeping.ensures, c.sub-in-Cmp.ensures)
