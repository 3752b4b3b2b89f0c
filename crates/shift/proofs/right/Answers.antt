use native.Mathlib.Nat.{div-one}
use Rattle.shift.proofs.Laws.{halved}
use Rattle.shift.proofs.right.Goals as goal

pub returns : goal.returns
returns g c =
    let W = g.W.Width in
    let m = W.number c.args.m in
    rw (
      c.shifted.ensures,
      c.cut-value.ensures,
      g.met.W.Width.again,
      c.span.ensures.0,
      c.from.ensures,
      c.wide-2.ensures.0,
      c.wide.ensures.0,
      halved W.top m c.args.high (rw (← c.wide.ensures.0) c.wide.ensures.1),
      div-one m,
    )
