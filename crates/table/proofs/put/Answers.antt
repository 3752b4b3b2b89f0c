use borrow.Author.Tests.{lt-ltb, le-ltb}
use Rattle.table.proofs.put.Goals as goal

-- As equations, so that another count is refused by its difference (must-fail/record_takes_two_places.edit).
pub returns-then-next-lt-ROOM : goal.returns-then-next-lt-ROOM
returns-then-next-lt-ROOM c = rw (lt-ltb _ _ c.if-next-lt-ROOM.true)

pub returns-else-next-lt-ROOM : goal.returns-else-next-lt-ROOM
returns-else-next-lt-ROOM c = rw (le-ltb _ _ c.if-next-lt-ROOM.false)
