use Rattle.migrate.proofs.Whole.{answers}
use Rattle.migrate.proofs.migrate.Goals as goal

pub returns : goal.returns
returns c = answers _ _ _ (rw (c.answer.ensures, c.finish.ensures, c.read.ensures))
