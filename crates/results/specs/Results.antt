-- A result with the codes that it gives, and the Boolean formulas of the glossary of source document 002 (section 6.6). The scan has lost
-- the numbers of most of the glossary's pages; the manual's index gives them. k is the number of the top bit, 7 or 15, so that one
-- definition serves both widths. The letters are the manual's: X the register, M the operand, R the result.
use Rattle.std.specs.Prelude.{ℕ, Bool, false, ◌&&◌, ◌||◌, not, eqb}
use Rattle.word.specs.Word.{bit_of}
use Rattle.state.specs.declared.Flags.{Flags}
use Rattle.state.specs.Ccr.{set_n, set_z, set_v, set_c}
use Rattle.results.specs.declared.Outcome.{Outcome}

-- a number, of whatever width, with the codes that it gives; a value of a width is a number, and `of` makes it one
abbrev pub outcome_of : {W : Type 0} → (ℕ → W) → ℕ → (ℕ → Flags) → Outcome W
outcome_of of r codes = record { value = of r; flags = codes r }

-- a result of 8 bits, with the codes that it gives
abbrev pub Byte : Type 0
Byte = Outcome ℕ

abbrev pub byte_of : ℕ → (ℕ → Flags) → Byte
byte_of r codes = record { value = r; flags = codes r }

-- a result of 16 bits, with the codes that it gives
abbrev pub Word : Type 0
Word = Outcome ℕ

abbrev pub wide_of : ℕ → (ℕ → Flags) → Word
wide_of r codes = record { value = r; flags = codes r }

-- the codes N, Z and V; C and the others stay
abbrev pub set_nzv : Flags → Bool → Bool → Bool → Flags
set_nzv f n z v = set_v (set_z (set_n f n) z) v

-- the codes N, Z, V and C; the others stay
abbrev pub set_nzvc : Flags → Bool → Bool → Bool → Bool → Flags
set_nzvc f n z v c = set_c (set_nzv f n z v) c

-- The Boolean formulas.

-- a carry from bit k, as on the page of ADCA (p. 6-11): Xk · Mk + Mk · R̄k + R̄k · Xk
abbrev pub carried : ℕ → ℕ → ℕ → ℕ → Bool
carried k x m r = bit_of k x && bit_of k m || bit_of k m && not (bit_of k r) || not (bit_of k r) && bit_of k x

-- V of an addition, as on the page of ADCA (p. 6-11): Xk · Mk · R̄k + X̄k · M̄k · Rk
abbrev pub sum_overflow : ℕ → ℕ → ℕ → ℕ → Bool
sum_overflow k x m r = bit_of k x && bit_of k m && not (bit_of k r) || not (bit_of k x) && not (bit_of k m) && bit_of k r

-- a borrow by bit k, as on the page of SUBA (p. 6-193): X̄k · Mk + Mk · Rk + Rk · X̄k
abbrev pub borrowed : ℕ → ℕ → ℕ → ℕ → Bool
borrowed k x m r = not (bit_of k x) && bit_of k m || bit_of k m && bit_of k r || bit_of k r && not (bit_of k x)

-- V of a subtraction, as on the page of SUBA (p. 6-193): Xk · M̄k · R̄k + X̄k · Mk · Rk
abbrev pub difference_overflow : ℕ → ℕ → ℕ → ℕ → Bool
difference_overflow k x m r = bit_of k x && not (bit_of k m) && not (bit_of k r) || not (bit_of k x) && bit_of k m && bit_of k r

-- A ⊕ B = [A · B̄] + [Ā · B], as on the page of ASL (p. 6-19)
abbrev pub exclusive_or : Bool → Bool → Bool
exclusive_or a b = a && not b || not a && b

-- N: the MSB of the result is set. Z: the result is zero. V: 0. The pages of LDAA (p. 6-122), STAA (6-186), ANDA (6-16), BITA (6-35),
-- BSET (6-48), TAB (6-197), LDD (6-124) and their sisters
abbrev pub result_codes : ℕ → Flags → ℕ → Flags
result_codes k f r = set_nzv f (bit_of k r) (eqb r 0) false
