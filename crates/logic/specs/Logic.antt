-- Logic on bytes, bit by bit, from the glossary of source document 002 (section 6.6; the manual's index gives the pages, most of whose
-- numbers the scan has lost). The letters are the manual's: X the register, M the operand.
use Rattle.std.specs.Prelude.{ℕ, ◌-◌, Bool, true, false, eqb}
use Rattle.std.specs.Int.Bits.{bit_and, bit_or, bit_xor}
use Rattle.word.specs.Word.{bit_of}
use Rattle.state.specs.declared.Flags.{Flags}
use Rattle.results.specs.Results.{Byte, byte_of, set_nzvc, result_codes}

-- ANDA (p. 6-16), ANDB (6-17), BITA (6-35), BITB (6-36)
abbrev pub and_byte : Flags → ℕ → ℕ → Byte
and_byte f x m = byte_of (bit_and x m) (result_codes 7 f)

-- ORAA (p. 6-151), ORAB (6-152), BSET (6-48)
abbrev pub or_byte : Flags → ℕ → ℕ → Byte
or_byte f x m = byte_of (bit_or x m) (result_codes 7 f)

-- EORA (p. 6-87), EORB (6-88)
abbrev pub eor_byte : Flags → ℕ → ℕ → Byte
eor_byte f x m = byte_of (bit_xor x m) (result_codes 7 f)

-- $FF - (M), each bit the other way, as on the page of COM (p. 6-62)
abbrev pub complement : ℕ → ℕ
complement m = 255 - m

-- BCLR (p. 6-27): (M) and the complement of the mask
abbrev pub bclr_byte : Flags → ℕ → ℕ → Byte
bclr_byte f m mask = byte_of (bit_and m (complement mask)) (result_codes 7 f)

-- BRCLR (p. 6-45): (M) · (Mask) = 0
abbrev pub all_clear : ℕ → ℕ → Bool
all_clear m mask = eqb (bit_and m mask) 0

-- BRSET (p. 6-47): the complement of (M), and (Mask), = 0
abbrev pub all_set : ℕ → ℕ → Bool
all_set m mask = eqb (bit_and (complement m) mask) 0

-- TST (p. 6-206), TSTA (6-207), TSTB (6-208): (M) - $00; V: 0, C: 0
abbrev pub tst_byte : Flags → ℕ → Byte
tst_byte f m = byte_of m (λ r. set_nzvc f (bit_of 7 r) (eqb r 0) false false)

-- CLR (p. 6-56), CLRA (6-57), CLRB (6-58): N: 0, Z: 1, V: 0, C: 0
abbrev pub clr_byte : Flags → Byte
clr_byte f = byte_of 0 (λ r. set_nzvc f false true false false)

-- COM (p. 6-62), COMA (6-63), COMB (6-64): V: 0, C: 1
abbrev pub com_byte : Flags → ℕ → Byte
com_byte f m = byte_of (complement m) (λ r. set_nzvc f (bit_of 7 r) (eqb r 0) false true)
