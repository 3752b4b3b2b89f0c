use Rattle.std.proofs.Common.{◌≡◌, false, eqb, refl, sym}
use mathlib.Core.Path.{◌∙◌}
use mathlib.Core.Bool.{true≢false}
use Rattle.transfers.specs.Registers.{register_number}
use Rattle.transfers.specs.declared.Register.{Register}
use Rattle.transfers.specs.declared.Register.TheVariants.{A, B, Ccr, Reserved, D, X, Y, Sp}
use Rattle.transfers.proofs.Register.back_fill.Goals as goal
use Rattle.transfers.proofs.Register.back_fill.Goals.{in-A, in_default}

-- no other register than A has the code 0
other : (r : Register) → (r ≡ A → ⊥) → eqb (register_number r) 0 ≡ false
other A n = absurd (n refl)
other B n = refl
other Ccr n = refl
other Reserved n = refl
other D n = refl
other X n = refl
other Y n = refl
other Sp n = refl

-- As an equation, so that another fill is refused by its difference (must-fail/exg_fills_b_with_zeros.edit).
pub returns-else-matches : goal.returns-else-matches
returns-else-matches c =
    elim c.match-matches.branch [
      | in-A w ↦ absurd (true≢false (sym w.matches-is ∙ c.if-matches.false))
      | in_default w ↦ rw (other c.args.self w.in_default.not-A)
    ]
