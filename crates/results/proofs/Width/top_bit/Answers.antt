use Rattle.results.proofs.Laws.{half_span, top_upper}
use Rattle.results.proofs.Width.top_bit.Goals as goal

pub returns : goal.returns
returns g c =
    let k = g.Self.Width.top in
    rw (c.span.ensures.0, half_span k, c.wide.ensures.0)
    (top_upper k (g.Self.Width.number c.args.self) (rw (← c.wide.ensures.0) c.wide.ensures.1))
