use Rattle.std.proofs.Common.{◌≡◌, ◌+◌, ◌-◌, ◌*◌, ◌/◌, ◌%◌, ◌<◌, ◌^◌, suc, arith, rules}
use mathlib.Core.Path.{ap}
use native.Mathlib.Nat.{mod-eq_of_lt}
use Rattle.decimal.specs.Lookup.{lookup_of}
use Rattle.decimal.proofs.Laws.{one_fraction, lookup_below}
use Rattle.decimal.proofs.between.Goals as goal

pub returns : goal.returns
returns g c =
    let a = c.args in
    let W = g.W.Width in
    let y1 = W.number a.y1 in
    let y2 = W.number a.y2 in
    let b-fits : a.b < 256 = search rules in
    let y1-fits : y1 < 2 ^ suc W.top = rw (← c.wide.ensures.0) c.wide.ensures.1 in
    let y2-fits : y2 < 2 ^ suc W.top = rw (← c.wide-2.ensures.0) c.wide-2.ensures.1 in
    let fits : lookup_of a.b y1 y2 < 2 ^ suc W.top = omega (arith, lookup_below a.b y1 y2 b-fits) in
    let is : (y1 * 256 + a.b * y2 - a.b * y1) / 256 % 2 ^ suc W.top ≡ lookup_of a.b y1 y2 = rw (← one_fraction a.b y1 y2 b-fits) (mod-eq_of_lt fits) in
    rw (
      c.cut.ensures,
      c.wide-3.ensures.0,
      c.wide-2.ensures.0,
      c.wide.ensures.0,
      c.from-b.ensures,
    )
    (ap W.of is)
