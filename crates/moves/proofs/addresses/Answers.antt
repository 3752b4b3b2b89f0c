-- As equations, so that a definition by which LEAS touches a flag is refused by its difference (must-fail/ins_touches_a_flag.edit).
use Rattle.moves.specs.Addresses.{addressed}
use Rattle.moves.proofs.addresses.Goals as goal

pub returns-in-Leas : goal.returns-in-Leas
unfolding addressed
returns-in-Leas c = rw (c.in-Leas.is, c.quiet-in-Leas.ensures, c.with_sp.ensures)
