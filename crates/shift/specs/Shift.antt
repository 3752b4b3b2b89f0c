-- The shifts and rotates, from the glossary of source document 002 (section 6.6; the manual's index gives the pages, most of whose
-- numbers the scan has lost). The scan lacks the pages' pictures too: their descriptions decide. k is the number of the top bit, 7 or 15;
-- M is the number before, R the one after.
use Rattle.std.specs.Prelude.{ℕ, suc, ◌+◌, ◌*◌, ◌/◌, ◌%◌, ◌^◌, ◌<◌, ◌≡◌, Bool, false, eqb}
use Rattle.word.specs.Word.{bit_of}
use Rattle.state.specs.declared.Flags.{Flags}
use Rattle.state.specs.Ccr.{weight_of}
use Rattle.results.specs.Results.{Byte, Word, byte_of, wide_of, set_nzvc, exclusive_or}

-- all bits one place to the left, and `low` into bit 0, as on the pages of ASL (p. 6-19), ROL (6-170)
abbrev pub left_of : ℕ → ℕ → Bool → ℕ
left_of k m low = (m * 2 + weight_of low 1) % 2 ^ suc k

-- all bits one place to the right, and `high` into the top bit, as on the pages of LSR (p. 6-135), ASR (6-23), ROR (6-173)
abbrev pub right_of : ℕ → ℕ → Bool → ℕ
right_of k m high = m / 2 + weight_of high (2 ^ k)

-- The codes after a shift, as on the page of ASL (p. 6-19): N is the MSB of the result, Z that it is zero, C the bit that was shifted
-- out, and V is N ⊕ C, for N and C after the shift.
abbrev pub shift_codes : ℕ → Flags → Bool → ℕ → Flags
shift_codes k f c r = set_nzvc f (bit_of k r) (eqb r 0) (exclusive_or (bit_of k r) c) c

-- ASL (p. 6-19), ASLA (6-20), ASLB (6-21), LSL (6-131), LSLA (6-132), LSLB (6-133): 0 into bit 0; C: M7
abbrev pub asl_byte : Flags → ℕ → Byte
asl_byte f m = byte_of (left_of 7 m false) (shift_codes 7 f (bit_of 7 m))

-- ROL (p. 6-170), ROLA (6-171), ROLB (6-172): C into bit 0; C: M7
abbrev pub rol_byte : Flags → ℕ → Byte
rol_byte f m = byte_of (left_of 7 m f.c) (shift_codes 7 f (bit_of 7 m))

-- LSR (p. 6-135), LSRA (6-136), LSRB (6-137): 0 into bit 7; C: M0
abbrev pub lsr_byte : Flags → ℕ → Byte
lsr_byte f m = byte_of (right_of 7 m false) (shift_codes 7 f (bit_of 0 m))

-- ASR (p. 6-23), ASRA (6-24), ASRB (6-25): bit 7 is held constant; C: M0
abbrev pub asr_byte : Flags → ℕ → Byte
asr_byte f m = byte_of (right_of 7 m (bit_of 7 m)) (shift_codes 7 f (bit_of 0 m))

-- ROR (p. 6-173), RORA (6-174), RORB (6-175): C into bit 7; C: M0
abbrev pub ror_byte : Flags → ℕ → Byte
ror_byte f m = byte_of (right_of 7 m f.c) (shift_codes 7 f (bit_of 0 m))

-- ASLD (p. 6-22), LSLD (6-134): 0 into bit 0; C: D15
abbrev pub asld_word : Flags → ℕ → Word
asld_word f d = wide_of (left_of 15 d false) (shift_codes 15 f (bit_of 15 d))

-- LSRD (p. 6-138): 0 into bit 15; C: D0
abbrev pub lsrd_word : Flags → ℕ → Word
lsrd_word f d = wide_of (right_of 15 d false) (shift_codes 15 f (bit_of 0 d))

-- The laws, each proved under the same name in proofs/Laws.antt.

-- LSR (p. 6-135), LSRD (6-138): a 0 that is shifted in clears N, as the pages print, "N: 0; Cleared"
abbrev pub ClearsN : Type 0
ClearsN = (k m : ℕ) → m < 2 ^ suc k → bit_of k (right_of k m false) ≡ false

-- so that V is C: the page of LSRD (p. 6-138) prints "V: D0"
abbrev pub OverflowIsC : Type 0
OverflowIsC = (k m : ℕ) (c : Bool) → m < 2 ^ suc k → exclusive_or (bit_of k (right_of k m false)) c ≡ c
