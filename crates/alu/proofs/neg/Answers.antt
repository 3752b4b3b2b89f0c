use Rattle.std.proofs.Common.{◌≡◌, ◌-◌, ◌%◌, ◌<◌, arith, rules}
use Rattle.alu.proofs.Laws.{neg_overflow_lem, neg_borrow_lem}
use Rattle.alu.proofs.neg.Goals as goal

pub returns : goal.returns
returns c =
    let r = c.wrapping_neg-value.result in
    let r-fits : r < 256 = search rules in
    let m-fits : c.args.m < 256 = search rules in
    let is : r ≡ (256 - c.args.m) % 256 = omega (arith, c.wrapping_neg-value.ensures) in
    rw (c.codes-flags.ensures, ← is, ← neg_overflow_lem r-fits, ← neg_borrow_lem r-fits)
