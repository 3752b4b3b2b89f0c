-- The laws of divisors and quotients. Assumes nothing.
use Prim.Native.Nat.{ℕ, zero, suc, ◌+◌, ◌-◌, ◌*◌, ◌/◌, ◌%◌, ◌^◌, ◌<◌, ◌≤◌}
use native.Mathlib.Nat.{div-one, mod-eq_of_lt, mod-lt, div-lt_iff_lt-mul}
use native.Mathlib.Omega.{arith}
use mathlib.Core.Path.{◌≡◌, refl, sym, ◌∙◌}
use mathlib.Core.Bool.{Bool, true, false, ◌&&◌, ◌||◌, not, true≢false}
use lib.Dec.{leb, eqb}
use lib.Pow.{pow_pos, mod-pow-add}
use borrow.Author.Tests.{ne_eqb, leb-false}
use Rattle.word.specs.Word.{bit_of, pick}
use Rattle.quotient.specs.Divide.{none_set, magnitude_of, outside, RowNine, OnlyOverflow, TowardZero}

-- a number below 2 is 0 where it is not 1
not_one : (b : ℕ) → b < 2 → not (eqb b 1) ≡ eqb b 0
not_one zero l = refl
not_one (suc zero) l = refl
not_one (suc (suc b)) l = absurd (omega arith)

-- a bit and what lies below it are 0 where both are
one_more_lem : (b g rest : ℕ) → b < 2 → zero < g → (not (eqb b 1) && eqb rest 0) ≡ eqb (b * g + rest) 0
one_more_lem zero g rest l p = let same : 0 * g + rest ≡ rest = omega arith in rw same
one_more_lem (suc zero) g rest l p = sym (ne_eqb (1 * g + rest) 0 (λ e. omega arith))
one_more_lem (suc (suc b)) g rest l p = absurd (omega arith)

-- the formula of C: where none of the bits 0 to k is set, the number is 0 modulo 2 to the k + 1
none_set_lem : (k x : ℕ) → none_set k x ≡ eqb (x % 2 ^ suc k) 0
none_set_lem zero x = rw (div-one x) (not_one (x % 2) (mod-lt x (omega arith)))
none_set_lem (suc k) x =
    let g = 2 ^ suc k in
    let next : 1 + suc k ≡ suc (suc k) = omega arith in
    rw (none_set_lem k x, rw next at (mod-pow-add x 1 (suc k)))
    (one_more_lem (x / g % 2) g (x % g) (mod-lt (x / g) (omega arith)) (pow_pos (suc k)))

pub divisor_zero : (x : ℕ) → x < 65536 → none_set 15 x ≡ eqb x 0
divisor_zero x l = none_set_lem 15 x ∙ rw (mod-eq_of_lt l)

-- a quotient of a fraction fits 16 bits
pub fraction_fits : (d x : ℕ) → d < x → d * 65536 / x < 65536
fraction_fits d x l = (div-lt_iff_lt-mul {k = x} {x = d * 65536} {y = 65536} (omega arith)).1 (omega arith)

-- a magnitude of 16 bits is 0 for 0 alone, and at most 32,768
pub magnitude_some : (x : ℕ) → x < 65536 → (x ≡ 0 → ⊥) → zero < magnitude_of 15 x
magnitude_some x l n = go (bit_of 15 x)
  where
    go : (b : Bool) → zero < pick b (65536 - x) x
    go true = omega arith
    go false = omega arith

-- a quotient within the bounds of 16 signed bits
pub inside_fits : (negative : Bool) (m : ℕ) → outside negative m ≡ false → m < 65536
inside_fits true m e = go (leb 32769 m) refl e
  where
    go : (b : Bool) → leb 32769 m ≡ b → (b || false) ≡ false → m < 65536
    go true p q = absurd (true≢false q)
    go false p q = omega (arith, leb-false)
inside_fits false m e = omega (arith, leb-false)

pub magnitude_most : (x : ℕ) → x < 65536 → magnitude_of 15 x ≤ 65536
magnitude_most x l = go (bit_of 15 x)
  where
    go : (b : Bool) → pick b (65536 - x) x ≤ 65536
    go true = omega arith
    go false = omega arith

-- a remainder of a division by 16 bits fits 16 bits
pub remainder_fits : (n g : ℕ) → zero < g → g ≤ 65536 → n % g < 65536
remainder_fits n g p l = omega (arith, mod-lt n p)

pub row_nine : RowNine
row_nine f d = refl

pub only_overflow : OnlyOverflow
only_overflow f = refl

pub toward_zero : TowardZero
toward_zero f = (refl, refl)
