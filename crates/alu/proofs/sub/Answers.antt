use Rattle.std.proofs.Common.{refl}
use Rattle.state.specs.Ccr.{weight_of}
use Rattle.results.proofs.Laws.{carry_counts, one_at_most, borrow_by}
use Rattle.alu.specs.Alu.{difference_of}
use Rattle.alu.proofs.sub.Goals as goal

pub returns : goal.returns
returns g c =
    let a = c.args in
    let W = g.W.Width in
    let x = W.number a.x in
    let m = W.number a.m in
    rw (
      c.codes-flags.ensures,
      c.difference_overflow-v.ensures,
      c.top_bit-3.ensures,
      c.top_bit-2.ensures,
      c.top_bit.ensures,
      c.cut-value.ensures,
      g.met.W.Width.again,
      c.span.ensures.0,
      c.from.ensures,
      carry_counts,
      c.wide-3.ensures.0,
      c.wide-2.ensures.0,
      c.wide.ensures.0,
      ← borrow_by W.top x m (weight_of a.carry 1) (difference_of W.top x m a.carry) (one_at_most a.carry) (rw (← c.wide-2.ensures.0) c.wide-2.ensures.1) (rw (← c.wide.ensures.0) c.wide.ensures.1) refl,
    )
