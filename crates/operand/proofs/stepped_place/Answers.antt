-- As equations, so that a step that is taken before it is used is refused by its difference (must-fail/post_step_takes_the_new_address.edit).
use borrow.Author.Tests.{eq-eqb}
use Rattle.operand.specs.Indexed.{stepped_place}
use Rattle.operand.proofs.stepped_place.Goals as goal

pub returns-then-p-eq1 : goal.returns-then-p-eq1
unfolding stepped_place
returns-then-p-eq1 c =
    rw (
      eq-eqb _ _ c.if-p-eq1.true,
      c.place_at.ensures,
      c.set-stepped.ensures,
      c.plus-new.ensures,
      c.step_amount.ensures,
      c.value-old.ensures,
      c.high_base-base.ensures,
    )
