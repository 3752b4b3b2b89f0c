-- The laws of products. Assumes nothing.
use Prim.Native.Nat.{ℕ, zero, suc, ◌+◌, ◌-◌, ◌*◌, ◌%◌, ◌^◌, ◌<◌}
use native.Mathlib.Nat.{mul_comm, mod_self, mul-add-mod_self_left, mod-eq_of_lt, le_of_lt, lt_of_le_of_lt, mul-le-mul_left, mul-lt-mul_of_pos_right}
use native.Mathlib.Omega.{arith}
use mathlib.Core.Path.{◌≡◌, refl, sym, subst⁻¹}
use mathlib.Core.Bool.{Bool, true, false}
use lib.Dec.{leb}
use lib.Pow.{pow_pos, pow-add}
use borrow.Author.Tests.{leb-true}
use Rattle.word.specs.Word.{pick}
use Rattle.results.specs.Results.{exclusive_or}
use Rattle.results.proofs.Laws.{top_upper}
use Rattle.product.specs.Product.{signed_product, SignedProduct, RowEight}

-- a product of two numbers of k bits has at most k + k
pub below : (k : ℕ) {a b : ℕ} → a < 2 ^ k → b < 2 ^ k → a * b < 2 ^ (k + k)
below k {a} {b} ha hb =
    subst⁻¹ (λ (n : ℕ). a * b < n) (pow-add 2 k k)
    (lt_of_le_of_lt (mul-le-mul_left a (le_of_lt hb)) (mul-lt-mul_of_pos_right ha (pow_pos k)))

-- a product with g - m, modulo g, is the two's complement of the product with m
complement_left : (g e m y : ℕ) → e + m ≡ g → m * y < g → e * y % g ≡ (g - m * y) % g
complement_left g e m zero s l =
    let none : e * 0 ≡ 0 = omega arith in
    let all : g - m * 0 ≡ g = omega arith in
    rw (none, all, mod_self g) (mod-eq_of_lt (omega arith))
complement_left g e m (suc k) s l =
    let whole : e * suc k ≡ g * k + (g - m * suc k) = rw (← s) (omega (arith, rw (← s) at l)) in
    rw (whole, mul-add-mod_self_left g k (g - m * suc k))

-- a product of two such is the product of what they complement
complement_both : (g e m d n k : ℕ) → e + m ≡ g → d + n ≡ g → m + k ≡ d → m * n < g → e * d % g ≡ m * n
complement_both g e m d n k s t u l =
    let e-is : e ≡ k + n = omega arith in
    let g-is : g ≡ k + n + m = omega arith in
    let whole : e * d ≡ g * k + m * n = rw (e-is, ← u, g-is) (omega arith) in
    rw (whole, mul-add-mod_self_left g k (m * n)) (mod-eq_of_lt l)

pub signed_product_lem : SignedProduct
signed_product_lem x y hx hy = rw (← top_upper 15 x hx, ← top_upper 15 y hy) (sym (go (leb 32768 x) (leb 32768 y) refl refl))
  where
    go :
        (a b : Bool) →
        leb 32768 x ≡ a →
        leb 32768 y ≡ b →
        pick a (x + 4294901760) x * pick b (y + 4294901760) y % 4294967296
        ≡ pick (exclusive_or a b) ((4294967296 - pick a (65536 - x) x * pick b (65536 - y) y) % 4294967296)
        (pick a (65536 - x) x * pick b (65536 - y) y)
    go false false p q = mod-eq_of_lt (below 16 hx hy)
    go true false p q = complement_left 4294967296 (x + 4294901760) (65536 - x) y (omega arith) (below 16 (omega (arith, leb-true)) hy)
    go false true p q =
        rw (mul_comm x (y + 4294901760), mul_comm x (65536 - y))
        (complement_left 4294967296 (y + 4294901760) (65536 - y) x (omega arith) (below 16 (omega (arith, leb-true)) hx))
    go true true p q =
        complement_both 4294967296 (x + 4294901760) (65536 - x) (y + 4294901760) (65536 - y) (y + 4294901760 - (65536 - x)) (omega arith) (omega arith) (omega arith)
        (below 16 (omega (arith, leb-true)) (omega (arith, leb-true)))

-- so it is of 32 bits
pub signed_below : (x y : ℕ) → x < 65536 → y < 65536 → signed_product x y < 4294967296
signed_below x y hx hy = rw (signed_product_lem x y hx hy) (omega arith)

pub row_eight : RowEight
row_eight f = refl
