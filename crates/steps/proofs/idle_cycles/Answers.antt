use mathlib.Core.Path.{sym, ◌∙◌, ap}
use Rattle.std.specs.Prelude.{is_some}
use Rattle.steps.proofs.Idle.{none_allowed}
use Rattle.steps.proofs.idle_cycles.Goals as goal

-- As equations, so that the largest number is refused by its difference (must-fail/skips_past_a_record.edit).
pub returns-then-is_none : goal.returns-then-is_none
returns-then-is_none c =
    let none = none_allowed _ (ap is_some (sym c.allowed_line.ensures) ∙ c.if-is_none.ensures) in
    rw (c.min-then-is_none.ensures, c.min.ensures, c.if-s.true, none)
