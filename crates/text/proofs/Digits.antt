-- The laws of a number's digits, over every base. Assumes nothing.
use Prim.Native.Nat.{ℕ, zero, suc, ◌*◌, ◌/◌, ◌%◌, ◌^◌, ◌<◌, ◌≤◌}
use native.Mathlib.Omega.{arith}
use native.Mathlib.Decide.{dec_lt}
use native.Mathlib.Nat.{div-lt_self, div-lt_iff_lt-mul, mod-lt, mul-le-mul_left, lt_of_lt_of_le, pow-suc, pow-zero, one-mul}
use mathlib.Core.Path.{◌≡◌, refl}
use mathlib.Core.List.{[], ◌∷◌, ◌++◌}
use lib.ListN.{length, length-append}
use borrow.Author.Tests.{lt-ltb, le-ltb}
use Rattle.text.specs.Text.{digit_of, last_digits, numeral}

-- where no digit is allowed there is none
no_digits : (base n : ℕ) → last_digits 0 base n ≡ []
unfolding last_digits
no_digits base n = refl

-- a number below the base is one digit
pub one_digit : (most base n : ℕ) → n < base → last_digits (suc most) base n ≡ digit_of n ∷ []
unfolding last_digits
one_digit most base n h = rw (lt-ltb n base h)

-- any other has the digits of its part above the last, and the last
more_digits : (most base n : ℕ) → base ≤ n → last_digits (suc most) base n ≡ last_digits most base (n / base) ++ (digit_of (n % base) ∷ [])
unfolding last_digits
more_digits most base n h = rw (le-ltb n base h)

-- a division takes the last digit off
fewer : (base bound n : ℕ) → 0 < base → n < bound * base → n / base < bound
fewer base bound n pos small = (div-lt_iff_lt-mul {k = base} {x = n} {y = bound} pos).1 small

-- and with it one bit at least
half : (k base n : ℕ) → 2 ≤ base → n < 2 ^ suc k → n / base < 2 ^ k
half k base n two small =
    fewer base (2 ^ k) n (omega arith) (lt_of_lt_of_le (rw (pow-suc 2 k) at small) (mul-le-mul_left (2 ^ k) two))

-- a number of k + 1 bits has at most k + 1 digits in any base: one more makes no difference
enough : (k base n : ℕ) → 2 ≤ base → n < 2 ^ suc k → last_digits (suc k) base n ≡ last_digits (suc (suc k)) base n
enough zero base n two small = rw (one_digit 0 base n (omega arith), one_digit 1 base n (omega arith))
enough (suc k) base n two small = go (dec_lt n base) (enough k base (n / base) two (half (suc k) base n two small))
  where
    go : Dec (n < base) → last_digits (suc k) base (n / base) ≡ last_digits (suc (suc k)) base (n / base)
        → last_digits (suc (suc k)) base n ≡ last_digits (suc (suc (suc k))) base n
    go (yes h) same = rw (one_digit (suc k) base n h, one_digit (suc (suc k)) base n h)
    go (no h) same =
        let l : base ≤ n = omega arith in
        rw (more_digits (suc k) base n l, more_digits (suc (suc k)) base n l, same)

-- a number of 64 bits that is not below the base: the digits of its part above the last, and the last
pub next_digit : (base n : ℕ) → 2 ≤ base → base ≤ n → n < 2 ^ 64 → numeral base n ≡ numeral base (n / base) ++ (digit_of (n % base) ∷ [])
next_digit base n two more small =
    rw (more_digits 63 base n more, enough 62 base (n / base) two (half 63 base n two small))

-- the last digit is one of the base's
pub last_below : (base n : ℕ) → 2 ≤ base → n % base < base
last_below base n two = mod-lt n (omega arith)

-- the part above the last digit is less than the number
pub part_less : (base n : ℕ) → 2 ≤ base → base ≤ n → n / base < n
part_less base n two more = div-lt_self (omega arith) (omega arith)

-- a number below the base to the power k + 1 has at most k + 1 digits
pub digits_at_most : (most k base n : ℕ) → 2 ≤ base → n < base ^ suc k → length (last_digits most base n) ≤ suc k
digits_at_most zero k base n two small = rw (no_digits base n) (omega arith)
digits_at_most (suc most) zero base n two small =
    let below = rw (pow-suc base 0, pow-zero base, one-mul base) at small in
    rw (one_digit most base n below) (omega arith)
digits_at_most (suc most) (suc k) base n two small =
    let part = fewer base (base ^ suc k) n (omega arith) (rw (pow-suc base (suc k)) at small) in
    go (dec_lt n base) (digits_at_most most k base (n / base) two part)
  where
    go : Dec (n < base) → length (last_digits most base (n / base)) ≤ suc k → length (last_digits (suc most) base n) ≤ suc (suc k)
    go (yes h) rest = rw (one_digit most base n h) (omega arith)
    go (no h) rest =
        let l : base ≤ n = omega arith in
        rw (more_digits most base n l) (simp length-append (omega arith))
