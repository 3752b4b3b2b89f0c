use Rattle.text.proofs.Laws.{and_then}
use Rattle.migrate.proofs.Pages.{made}
use Rattle.migrate.proofs.page.record_text.Goals as goal

pub returns : goal.returns
returns c =
    made
    (and_then (and_then (and_then (rw c.from.ensures at c.put_decimal.ensures) c.put-number.ensures) c.put_hex_byte.ensures) c.put.ensures)
    c.empty.ensures
