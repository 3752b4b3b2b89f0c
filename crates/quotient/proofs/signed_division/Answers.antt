use borrow.Author.Rules.{rules}
use borrow.Author.Tests.{ne_eqb}
use Rattle.quotient.proofs.Laws.{divisor_zero}
use Rattle.quotient.proofs.signed_division.Goals as goal

pub returns-then-unlike-m : goal.returns-then-unlike-m
returns-then-unlike-m g c =
    rw (
      c.too_large.ensures,
      divisor_zero c.args.x (search rules),
      ne_eqb _ 0 c.if-x-eq0.false,
      ← c.magnitude-divisor.ensures,
      ← c.magnitude-dividend.ensures,
      ← c.top_bit-sign.ensures,
      ← c.top_bit-negative.ensures,
      ← c.exclusive_or-unlike.ensures,
      c.if-unlike-m.true,
    )

pub returns : goal.returns
returns g c =
    rw (
      c.fitting.ensures,
      c.signed.ensures,
      c.signed-r.ensures,
      divisor_zero c.args.x (search rules),
      ne_eqb _ 0 c.if-x-eq0.false,
      ← c.magnitude-divisor.ensures,
      ← c.magnitude-dividend.ensures,
      ← c.top_bit-sign.ensures,
      ← c.top_bit-negative.ensures,
      ← c.exclusive_or-unlike.ensures,
      c.if-unlike-m.false,
    )
