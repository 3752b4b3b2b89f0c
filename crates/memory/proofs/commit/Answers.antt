-- As equations, so that a word with its bytes the other way round, and a ninth byte that is left out, are refused by their difference.
use mathlib.Core.Path.{sym}
use borrow.Author.Tests.{lt-ltb}
use Rattle.memory.specs.Memory.{store_all, lowest_bytes}
use Rattle.memory.proofs.Laws.{store_first}
use Rattle.memory.proofs.commit.Goals as goal

pub returns-then-w-eq2 : goal.returns-then-w-eq2
unfolding store_all lowest_bytes
returns-then-w-eq2 c =
    rw (c.if-w-eq2.true, c.next.ensures, c.nth_byte-then-w-eq2-2.ensures, c.nth_byte-then-w-eq2.ensures)

pub returns-then-w-gt8 : goal.returns-then-w-gt8
returns-then-w-gt8 c =
    rw (c.store_number.ensures, c.next-then-w-gt8.ensures, lt-ltb _ _ c.if-w-gt8.true) (sym (store_first _ _ _ _))
