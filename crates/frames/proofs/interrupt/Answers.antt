-- As equations, so that a vector that is read after the pushes is refused by its difference (must-fail/vector_after_the_pushes.edit).
use Rattle.frames.specs.Frames.{interrupt_effect}
use Rattle.frames.proofs.interrupt.Goals as goal

pub returns : goal.returns
unfolding interrupt_effect
returns c =
    rw (
      c.writes.ensures,
      c.frame_store.ensures,
      c.with_pc-entered.ensures,
      c.with_flags.ensures,
      c.with_sp.ensures,
      c.minus.ensures,
      c.read_word-target.ensures,
    )
