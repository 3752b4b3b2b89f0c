use Rattle.std.proofs.Common.{◌≤◌}
use Rattle.migrate.proofs.answer_input.Given as goal

abbrev pub invariant-loop : goal.invariant-loop
invariant-loop g l = l.n ≤ 4096
