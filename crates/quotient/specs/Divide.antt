-- The divisions, from their glossary pages in source document 002. The quotient goes to X (IDIV, IDIVS, FDIV) or to Y (EDIV, EDIVS),
-- the remainder to D. What a page calls undefined or indeterminate, or gives no result for, stays as it was (docs/MACHINE.md,
-- "Codes and undefined results"): then the quotient is the register that it would have gone to, and the remainder is D.
use Rattle.std.specs.Prelude.{ℕ, zero, suc, ◌-◌, ◌*◌, ◌/◌, ◌%◌, ◌^◌, ◌≡◌, Bool, true, false, ◌&&◌, ◌||◌, not, leb, eqb}
use Rattle.word.specs.Word.{bit_of, pick, long_of}
use Rattle.state.specs.declared.Flags.{Flags}
use Rattle.state.specs.Ccr.{set_z, set_v, set_c}
use Rattle.results.specs.Results.{set_nzvc, exclusive_or}
use Rattle.quotient.specs.declared.Division.{Division}

-- X̄k · .. · X̄1 · X̄0: the divisor was zero. C of every division, as on the page of IDIV (p. 6-94)
abbrev pub none_set : ℕ → ℕ → Bool
none_set zero x = not (bit_of 0 x)
none_set (suc k) x = not (bit_of (suc k) x) && none_set k x

-- the codes of IDIV (p. 6-94) and FDIV (6-91). Z: the quotient is $0000. C: the divisor was $0000. N is not affected
abbrev pub unsigned : Flags → ℕ → Bool → ℕ → ℕ → Division
unsigned f x v q r = record { quotient = q; remainder = r; flags = set_c (set_v (set_z f (eqb q 0)) v) (none_set 15 x) }

-- IDIV (p. 6-94): (D) ÷ (X), unsigned; by zero the quotient is $FFFF and the remainder indeterminate. V: 0
abbrev pub idiv_of : Flags → ℕ → ℕ → Division
idiv_of f d x = unsigned f x false (pick (none_set 15 x) 65535 (d / x)) (pick (none_set 15 x) d (d % x))

-- FDIV (p. 6-91): (D) × 2 to the 16th ÷ (X); where X ≤ D, so by zero too, the quotient is $FFFF, the remainder indeterminate. V: X ≤ D
abbrev pub fdiv_of : Flags → ℕ → ℕ → Division
fdiv_of f d x = unsigned f x (leb x d) (pick (leb x d) 65535 (d * 65536 / x)) (pick (leb x d) d (d * 65536 % x))

-- The three outcomes of IDIVS (p. 6-95), EDIV (6-78) and EDIVS (6-79).

-- by zero: C: 1; the registers do not change, and N, Z and V are undefined
abbrev pub by_zero : Flags → ℕ → ℕ → Division
by_zero f q r = record { quotient = q; remainder = r; flags = set_c f true }

-- the quotient does not fit: V: 1, C: 0; N and Z are undefined, and the page gives no result
abbrev pub too_large : Flags → ℕ → ℕ → Division
too_large f q r = record { quotient = q; remainder = r; flags = set_c (set_v f true) false }

-- N: MSB of the quotient. Z: the quotient is $0000. V: 0. C: 0
abbrev pub divided : Flags → ℕ → ℕ → Division
divided f q r = record { quotient = q; remainder = r; flags = set_nzvc f (bit_of 15 q) (eqb q 0) false false }

-- EDIV (p. 6-78): (Y : D) ÷ (X), unsigned; V where the quotient is over $FFFF
abbrev pub ediv_of : Flags → ℕ → ℕ → ℕ → Division
ediv_of f y d x =
    pick (none_set 15 x) (by_zero f y d)
    (pick (leb 65536 (long_of y d / x)) (too_large f y d) (divided f (long_of y d / x) (long_of y d % x)))

-- Signed division, by sign and magnitude; k is the number of the sign bit.

abbrev pub magnitude_of : ℕ → ℕ → ℕ
magnitude_of k n = pick (bit_of k n) (2 ^ suc k - n) n

-- a magnitude with its sign, as 16 bits
abbrev pub signed_of : Bool → ℕ → ℕ
signed_of negative m = pick negative ((65536 - m) % 65536) m

-- below -32,768 or above 32,767
abbrev pub outside : Bool → ℕ → Bool
outside negative m = negative && leb 32769 m || not negative && leb 32768 m

-- The dividend is its sign and its magnitude n. The quotient is rounded toward zero, and the remainder has the dividend's sign.
abbrev pub signed_division : Flags → ℕ → ℕ → Bool → ℕ → ℕ → Division
signed_division f q d negative n x =
    pick (none_set 15 x) (by_zero f q d)
    (pick (outside (exclusive_or negative (bit_of 15 x)) (n / magnitude_of 15 x)) (too_large f q d)
    (divided f (signed_of (exclusive_or negative (bit_of 15 x)) (n / magnitude_of 15 x)) (signed_of negative (n % magnitude_of 15 x))))

-- IDIVS (p. 6-95): (D) ÷ (X), signed; the only overflow is $8000 ÷ $FFFF
abbrev pub idivs_of : Flags → ℕ → ℕ → Division
idivs_of f d x = signed_division f x d (bit_of 15 d) (magnitude_of 15 d) x

-- EDIVS (p. 6-79): (Y : D) ÷ (X), signed
abbrev pub edivs_of : Flags → ℕ → ℕ → ℕ → Division
edivs_of f y d x = signed_division f y d (bit_of 15 y) (magnitude_of 31 (long_of y d)) x

-- Worked numbers, each proved under the same name in proofs/Laws.antt.

-- row 9 of docs/MACHINE.md: IDIV with X = 0 gives X FFFF, C set, D kept
abbrev pub RowNine : Type 0
RowNine = (f : Flags) (d : ℕ) → idiv_of f d 0 ≡ record { quotient = 65535; remainder = d; flags = set_c (set_v (set_z f false) false) true }

-- the page of IDIVS (p. 6-95): $8000 ÷ $FFFF is the only overflow; X and D stay
abbrev pub OnlyOverflow : Type 0
OnlyOverflow = (f : Flags) → idivs_of f 32768 65535 ≡ too_large f 65535 32768

-- toward zero: -7 ÷ 2 is -3, and -1 remains; 7 ÷ -2 is -3, and 1 remains
abbrev pub TowardZero : Type 0
TowardZero = (f : Flags) → (idivs_of f 65529 2 ≡ divided f 65533 65535) × (idivs_of f 7 65534 ≡ divided f 65533 1)
