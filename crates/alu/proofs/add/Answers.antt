use Rattle.state.specs.Ccr.{weight_of}
use Rattle.results.proofs.Laws.{carry_counts, one_at_most, carry_out}
use Rattle.alu.proofs.add.Goals as goal

pub returns : goal.returns
returns g c =
    let a = c.args in
    let W = g.W.Width in
    let x = W.number a.x in
    let m = W.number a.m in
    rw (
      c.codes-flags.ensures,
      c.sum_overflow-v.ensures,
      c.top_bit-3.ensures,
      c.top_bit-2.ensures,
      c.top_bit.ensures,
      c.span.ensures.0,
      c.cut-value.ensures,
      g.met.W.Width.again,
      c.from.ensures,
      carry_counts,
      c.wide-2.ensures.0,
      c.wide.ensures.0,
      carry_out W.top x m (weight_of a.carry 1) (one_at_most a.carry) (rw (← c.wide.ensures.0) c.wide.ensures.1) (rw (← c.wide-2.ensures.0) c.wide-2.ensures.1),
    )
