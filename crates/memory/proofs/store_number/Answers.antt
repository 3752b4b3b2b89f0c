use native.Mathlib.Omega.{arith}
use mathlib.Core.Path.{refl, sym, ◌∙◌}
use Rattle.memory.proofs.Laws.{stored_one, stored_all}
use Rattle.memory.proofs.store_number.Goals as goal

pub loop-k-init : goal.loop-k-init
loop-k-init c = refl

pub loop-k-preserved : goal.loop-k-preserved
loop-k-preserved c =
    rw (c.next-at.ensures, c.nth_byte.ensures) (stored_one _ _ _ (omega (arith, c.loop-k-test.true)) ∙ c.loop-k.invariant)

pub returns : goal.returns
returns c = sym (stored_all _ _ _ (omega (arith, c.loop-k-test.false))) ∙ c.loop-k.invariant
