use Rattle.std.proofs.Common.{◌≡◌}
use Rattle.memory.specs.Memory.{lowest_bytes, store_all}
use Rattle.memory.proofs.store_number.Given as goal

-- What is left to store gives the whole store.
abbrev pub invariant-loop-k : goal.invariant-loop-k
invariant-loop-k l =
    store_all l.m l.at (lowest_bytes l.k l.number) ≡ store_all l.initial.m l.start (lowest_bytes l.count l.number)
