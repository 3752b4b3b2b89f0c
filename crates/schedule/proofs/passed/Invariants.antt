use Rattle.std.proofs.Common.{◌≤◌}
use Rattle.schedule.specs.Schedule.{passed}
use Rattle.schedule.proofs.passed.Given as goal

abbrev pub invariant-loop-place : goal.invariant-loop-place
invariant-loop-place l = l.place ≤ passed l.cycles l.clock
