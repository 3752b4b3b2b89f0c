use mathlib.Core.Path.{refl, sym, ◌∙◌}
use borrow.Author.Tests.{ltb-true, ltb-false}
use Rattle.requests.proofs.Laws.{line_there, line_absent, returns_taking, returns_plainly}
use Rattle.requests.proofs.return_from_interrupt.Goals as goal

-- By the two cases, so that a line by other masks is refused by its difference (must-fail/rti_by_the_masks_before_the_pull.edit).
pub returns-in-Some : goal.returns-in-Some
returns-in-Some c =
    let line = line_there _ _ (sym c.allowed_line.ensures ∙ c.in-Some.is) in
    rw (c.quiet.ensures, c.vectored.ensures, c.with_sp-kept.ensures)
    (sym (returns_taking _ _ _ _ c.pulled_frame-pulled.ensures (sym line.0) (ltb-true _ _ (rw line.0 at line.1))))

pub returns : goal.returns
returns c =
    let none = line_absent _ (sym c.allowed_line.ensures ∙ c.in_default.is) in
    rw c.quiet-2.ensures
    (sym (returns_plainly _ _ _ _ c.pulled_frame-pulled.ensures refl (ltb-false _ _ none)))
