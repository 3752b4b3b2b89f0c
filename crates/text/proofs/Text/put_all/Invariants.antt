use lib.ListN.{take}
use Rattle.text.specs.Text.{Followed}
use Rattle.text.proofs.Text.put_all.Given as goal

abbrev pub invariant-loop-byte : goal.invariant-loop-byte
invariant-loop-byte l = Followed l.initial.self (take l.byte-index l.more) l.self
