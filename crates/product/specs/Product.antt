-- The multiplications, from their glossary pages in source document 002. A result of 32 bits is Y : D, or four bytes of memory.
use Rattle.std.specs.Prelude.{ℕ, ◌+◌, ◌-◌, ◌*◌, ◌%◌, ◌<◌, ◌≡◌, true, eqb}
use Rattle.word.specs.Word.{bit_of, pick, extend16}
use Rattle.state.specs.declared.Flags.{Flags}
use Rattle.state.specs.Ccr.{set_n, set_z, set_c}
use Rattle.results.specs.declared.Outcome.{Outcome}
use Rattle.results.specs.Results.{Word, wide_of, set_nzvc, carried, sum_overflow, exclusive_or}
use Rattle.quotient.specs.Divide.{magnitude_of}

-- a result of 32 bits, with the codes that it gives
abbrev pub Long : Type 0
Long = Outcome ℕ

abbrev pub long_result : ℕ → (ℕ → Flags) → Long
long_result r codes = record { value = r; flags = codes r }

-- MUL (p. 6-146): (A) × (B). C: R7, bit 7 of the result; no other code is affected
abbrev pub mul_word : Flags → ℕ → ℕ → Word
mul_word f a b = wide_of (a * b) (λ r. set_c f (bit_of 7 r))

-- The codes of EMUL (p. 6-85) and EMULS (6-86). N: MSB of the result. Z: the result is $00000000. C: bit 15 of the result. V is not
-- affected.
abbrev pub product_codes : Flags → ℕ → Flags
product_codes f r = set_c (set_z (set_n f (bit_of 31 r)) (eqb r 0)) (bit_of 15 r)

-- EMUL (p. 6-85): (D) × (Y), unsigned
abbrev pub emul_long : Flags → ℕ → ℕ → Long
emul_long f d y = long_result (d * y) (product_codes f)

-- the product of two signed numbers of 16 bits, as 32 bits, by sign and magnitude: the product of the magnitudes, and its two's
-- complement where the signs differ
abbrev pub signed_product : ℕ → ℕ → ℕ
signed_product x y =
    pick (exclusive_or (bit_of 15 x) (bit_of 15 y))
    ((4294967296 - magnitude_of 15 x * magnitude_of 15 y) % 4294967296)
    (magnitude_of 15 x * magnitude_of 15 y)

-- EMULS (p. 6-86): (D) × (Y), signed
abbrev pub emuls_long : Flags → ℕ → ℕ → Long
emuls_long f d y = long_result (signed_product d y) (product_codes f)

-- The codes of EMACS (p. 6-80); I is the intermediate result, M the accumulator before, R after. V: M31 · I31 · R̄31 + M̄31 · Ī31 · R31.
-- C: M15 · I15 + I15 · R̄15 + R̄15 · M15, a carry from bit 15
abbrev pub emacs_codes : Flags → ℕ → ℕ → ℕ → Flags
emacs_codes f m i r = set_nzvc f (bit_of 31 r) (eqb r 0) (sum_overflow 31 m i r) (carried 15 m i r)

-- EMACS (p. 6-80): (M(X) : M(X+1)) × (M(Y) : M(Y+1)) + (M ~ M+3), signed: the product of the two operands, and the accumulator m
abbrev pub emacs_long : Flags → ℕ → ℕ → ℕ → Long
emacs_long f x y m = long_result ((signed_product x y + m) % 4294967296) (emacs_codes f m (signed_product x y))

-- The laws, each proved under the same name in proofs/Laws.antt.

-- the signed product is that of the two numbers extended to 32 bits, modulo 2 to the 32nd
abbrev pub SignedProduct : Type 0
SignedProduct = (x y : ℕ) → x < 65536 → y < 65536 → signed_product x y ≡ extend16 x * extend16 y % 4294967296

-- row 8 of docs/MACHINE.md: MUL of 10 by 08 gives D 0080, C set
abbrev pub RowEight : Type 0
RowEight = (f : Flags) → mul_word f 16 8 ≡ record { value = 128; flags = set_c f true }
