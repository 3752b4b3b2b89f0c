use Rattle.text.proofs.Laws.{and_then}
use Rattle.migrate.proofs.Pages.{made}
use Rattle.migrate.proofs.page.counts_text.Goals as goal

pub returns : goal.returns
returns c =
    made (and_then (and_then (and_then c.put_decimal.ensures c.put-first.ensures) c.put_decimal-2.ensures) c.put.ensures)
    c.empty.ensures
