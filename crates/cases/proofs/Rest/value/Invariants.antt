use Rattle.std.proofs.Common.{◌≤◌, length}
use Rattle.cases.proofs.Rest.value.Given as goal

-- the word ends within what is left of the line
abbrev pub invariant-loop-place : goal.invariant-loop-place
invariant-loop-place l = l.end ≤ length l.from
