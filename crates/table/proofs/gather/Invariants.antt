use Rattle.std.proofs.Common.{◌≡◌, drop}
use Rattle.table.specs.Records.{gathered, no_records}
use Rattle.table.proofs.gather.Given as goal

-- what is gathered so far, with the rest, is what there is to gather
abbrev pub invariant-loop-r : goal.invariant-loop-r
invariant-loop-r l = gathered l.t (drop l.r-index l.rs) ≡ gathered no_records l.rs
