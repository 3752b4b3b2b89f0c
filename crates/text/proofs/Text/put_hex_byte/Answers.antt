use Rattle.text.proofs.Laws.{and_then}
use Rattle.text.proofs.Text.put_hex_byte.Goals as goal

pub returns : goal.returns
returns c =
    rw (← c.digit-2.ensures, ← c.digit.ensures) (and_then c.put.ensures c.put-2.ensures)
