use Rattle.std.proofs.Common.{◌*◌, ◌≤◌, length}
use Rattle.cases.proofs.weighted.Given as goal

abbrev pub invariant-loop-byte : goal.invariant-loop-byte
invariant-loop-byte l = (l.above ≤ 255 * length l.yielded) × (l.sum ≤ 16711935 * length l.yielded)
