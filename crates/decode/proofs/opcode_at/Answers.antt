-- As equations, so that another place of the second byte is refused by its difference (must-fail/page_two_read_one_byte_early.edit).
use borrow.Author.Tests.{eq-eqb}
use Rattle.decode.proofs.opcode_at.Goals as goal

pub returns-then-first-eq-PREBYTE : goal.returns-then-first-eq-PREBYTE
returns-then-first-eq-PREBYTE c =
    rw (
      c.opcode_is.ensures,
      ← c.read_byte-first.ensures,
      eq-eqb _ _ c.if-first-eq-PREBYTE.true,
      c.plus-then-first-eq-PREBYTE.ensures,
      c.cell_at.ensures,
      c.read_byte-second.ensures,
      c.plus.ensures,
    )
