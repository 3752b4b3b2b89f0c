use Prim.Native.Nat.{◌+◌, ◌%◌}
use native.Mathlib.Omega.{arith}
use Rattle.results.proofs.Laws.{carry_from}
use Rattle.product.specs.Product.{signed_product}
use Rattle.product.proofs.emacs.Goals as goal

-- As equations, so that another C is refused by its difference (must-fail/emacs_carry_from_bit_14.edit).
pub returns : goal.returns
returns c =
    let a = c.args in
    let i = signed_product a.x a.y in
    let r = (i + a.m) % 4294967296 in
    rw (
      c.codes-flags.ensures,
      c.sum_overflow-v.ensures,
      c.top_bit-3.ensures,
      c.top_bit-2.ensures,
      c.top_bit.ensures,
      c.signed_product-i.ensures,
      ← carry_from 15 a.m i 0 r (a.m % 65536 + i % 65536) (omega arith) (omega arith) (omega arith),
    )
