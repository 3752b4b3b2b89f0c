use native.Mathlib.Omega.{arith}
use Rattle.text.proofs.Laws.{and_then}
use Rattle.text.proofs.Digits.{one_digit, next_digit}
use Rattle.text.proofs.+spelled.Goals as goal

pub returns-then-n-base : goal.returns-then-n-base
returns-then-n-base t c = rw (one_digit 63 _ _ c.if-n-base.true, ← c.digit.ensures) c.put.ensures

pub returns : goal.returns
returns t c =
    rw (next_digit _ _ c.requires.0 c.if-n-base.false (omega arith), ← c.digit-2.ensures)
    (and_then c.spelled.ensures c.put-2.ensures)
