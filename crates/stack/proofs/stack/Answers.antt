-- As an equation, so that a pull of CCR that may set X is refused by its difference (must-fail/pull_sets_x.edit).
use Rattle.stack.specs.Stack.{stacked}
use Rattle.stack.proofs.stack.Goals as goal

pub returns-in-Pulc : goal.returns-in-Pulc
unfolding stacked
returns-in-Pulc c = rw (c.in-Pulc.is, c.pulled-in-Pulc.ensures, c.with_flags.ensures, c.take_ccr.ensures, c.read_byte-in-Pulc.ensures)
