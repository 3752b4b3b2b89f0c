use native.Mathlib.Omega.{arith}
use Rattle.text.specs.Text.{ascii}
use Rattle.migrate.proofs.Pages.{made}
use Rattle.migrate.proofs.Renewed.{one_line_page}
use Rattle.migrate.proofs.page.bad.Goals as goal

pub returns : goal.returns
returns c =
    one_line_page _ _ _ (ascii "bad\n") (omega arith) c.empty.ensures (made c.put_all.ensures c.empty-2.ensures) c.put.ensures
