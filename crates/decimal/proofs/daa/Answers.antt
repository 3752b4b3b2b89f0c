use Rattle.std.proofs.Common.{◌<◌, rules}
use Rattle.decimal.proofs.Laws.{factor_is, corrected_is}
use Rattle.decimal.proofs.daa.Goals as goal

pub returns : goal.returns
returns c =
    let f = c.args.f in
    let a = c.args.a in
    let fits : a < 256 = search rules in
    rw (
      c.codes-flags.ensures,
      c.from-2.ensures,
      c.from.ensures,
      c.from-past_high.ensures,
      ← factor_is f.c f.h a fits,
      ← corrected_is f.c f.h a fits,
    )
