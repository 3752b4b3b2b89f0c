use Rattle.text.proofs.Laws.{and_then}
use Rattle.text.proofs.Text.put_hex_word.Goals as goal

pub returns : goal.returns
returns c =
    rw (← c.low.ensures, ← c.high.ensures)
    (and_then c.put_hex_byte.ensures c.put_hex_byte-2.ensures)
