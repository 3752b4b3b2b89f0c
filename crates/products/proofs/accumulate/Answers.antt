-- As an equation, so that a product of other words is refused by its difference (must-fail/emacs_squares_x.edit).
use Rattle.products.specs.Products.{accumulate_effect}
use Rattle.products.proofs.accumulate.Goals as goal

pub returns : goal.returns
unfolding accumulate_effect
returns c =
    rw (
      c.writes.ensures,
      c.words.ensures,
      c.with_flags.ensures,
      c.low-low.ensures,
      c.high-high.ensures,
      c.emacs-r.ensures,
      c.read_long.ensures,
      c.read_word-y.ensures,
      c.read_word-x.ensures,
    )
