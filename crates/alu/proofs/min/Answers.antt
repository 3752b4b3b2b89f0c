use Rattle.std.proofs.Common.{◌<◌, ◌^◌, suc, min, arith}
use native.Mathlib.Nat.{mod-eq_of_lt}
use Rattle.alu.proofs.min.Goals as goal

pub returns : goal.returns
returns g c =
    let fits : min c.wide.result c.wide-2.result < 2 ^ suc g.W.Width.top = omega (arith, c.wide.ensures.1, c.wide-2.ensures.1) in
    rw (c.sub.ensures, c.cut-value.ensures, c.min.ensures, mod-eq_of_lt fits, c.wide.ensures.0, c.wide-2.ensures.0)
