-- Additions, subtractions, counting and comparing, at 8 and at 16 bits, from the glossary of source document 002 (section 6.6; the
-- manual's index gives the pages, most of whose numbers the scan has lost). k is the number of the top bit, 7 or 15, so that one
-- definition serves both widths. The letters are the manual's: X the register, M the operand, R the result.
use Rattle.std.specs.Prelude.{◌≡◌, ℕ, suc, ◌+◌, ◌-◌, ◌%◌, ◌^◌, min, max, Bool, true, false, not, ◌&&◌, ◌||◌, ◌==◌}
use Rattle.word.specs.Word.{bit_of}
use Rattle.state.specs.declared.Flags.{Flags}
use Rattle.state.specs.Ccr.{set_h, set_z, weight_of, ccr_of, flags_of}
use Rattle.results.specs.Results.{Byte, Word, byte_of, wide_of, set_nzv, set_nzvc, carried, sum_overflow, borrowed, difference_overflow}

-- The results, modulo 2 to the width.

-- (X) + (M) + C, as on the page of ADCA (p. 6-11)
abbrev pub sum_of : ℕ → ℕ → ℕ → Bool → ℕ
sum_of k x m c = (x + m + weight_of c 1) % 2 ^ suc k

-- (X) - (M) - C, as on the page of SBCA (p. 6-180)
abbrev pub difference_of : ℕ → ℕ → ℕ → Bool → ℕ
difference_of k x m c = (x + 2 ^ suc k - (m + weight_of c 1)) % 2 ^ suc k

-- (X) + 1, as on the page of INX (p. 6-100)
abbrev pub one_more : ℕ → ℕ → ℕ
one_more k x = (x + 1) % 2 ^ suc k

-- (X) - 1, as on the page of DEX (p. 6-76)
abbrev pub one_less : ℕ → ℕ → ℕ
one_less k x = (x + 2 ^ suc k - 1) % 2 ^ suc k

-- The codes of each kind of operation.

-- ABA (p. 6-8), ADCA (6-11), ADDA (6-13), ADDD (6-15) and their sisters, without H
abbrev pub sum_codes : ℕ → Flags → ℕ → ℕ → ℕ → Flags
sum_codes k f x m r = set_nzvc f (bit_of k r) (r == 0) (sum_overflow k x m r) (carried k x m r)

-- SUBA (p. 6-193), SBCA (6-180), SBA (6-179), CMPA (6-60), CBA (6-53), MAXA (6-139), SUBD (6-195), CPX (6-67), EMAXD (6-81) and their
-- sisters
abbrev pub difference_codes : ℕ → Flags → ℕ → ℕ → ℕ → Flags
difference_codes k f x m r = set_nzvc f (bit_of k r) (r == 0) (difference_overflow k x m r) (borrowed k x m r)

-- The operations at 8 bits.

-- ABA (p. 6-8), ADDA (6-13), ADDB (6-14) with C taken as 0, ADCA (6-11), ADCB (6-12): H is a carry from bit 3
abbrev pub add_byte : Flags → ℕ → ℕ → Bool → Byte
add_byte f x m c = byte_of (sum_of 7 x m c) (λ r. set_h (sum_codes 7 f x m r) (carried 3 x m r))

-- SBA (p. 6-179), CBA (6-53), SUBA (6-193), SUBB (6-194), CMPA (6-60), CMPB (6-61) with C taken as 0, SBCA (6-180), SBCB (6-181)
abbrev pub sub_byte : Flags → ℕ → ℕ → Bool → Byte
sub_byte f x m c = byte_of (difference_of 7 x m c) (difference_codes 7 f x m)

-- V of NEG (p. 6-147): R7 · R̄6 · R̄5 · R̄4 · R̄3 · R̄2 · R̄1 · R̄0
abbrev pub neg_overflow : ℕ → Bool
neg_overflow r =
    bit_of 7 r && not (bit_of 6 r) && not (bit_of 5 r) && not (bit_of 4 r)
    && not (bit_of 3 r) && not (bit_of 2 r) && not (bit_of 1 r) && not (bit_of 0 r)

-- C of NEG (p. 6-147): R7 + R6 + R5 + R4 + R3 + R2 + R1 + R0
abbrev pub neg_borrow : ℕ → Bool
neg_borrow r = bit_of 7 r || bit_of 6 r || bit_of 5 r || bit_of 4 r || bit_of 3 r || bit_of 2 r || bit_of 1 r || bit_of 0 r

-- NEG (p. 6-147), NEGA (6-148), NEGB (6-149): 0 - (M)
abbrev pub neg_byte : Flags → ℕ → Byte
neg_byte f m = byte_of ((256 - m) % 256) (λ r. set_nzvc f (bit_of 7 r) (r == 0) (neg_overflow r) (neg_borrow r))

-- INC (p. 6-96), INCA (6-97), INCB (6-98): V if and only if (M) was $7F before the operation; C is not affected
abbrev pub inc_byte : Flags → ℕ → Byte
inc_byte f m = byte_of (one_more 7 m) (λ r. set_nzv f (bit_of 7 r) (r == 0) (m == 127))

-- DEC (p. 6-72), DECA (6-73), DECB (6-74): V if and only if (M) was $80 before the operation; C is not affected
abbrev pub dec_byte : Flags → ℕ → Byte
dec_byte f m = byte_of (one_less 7 m) (λ r. set_nzv f (bit_of 7 r) (r == 0) (m == 128))

-- MAXA (p. 6-139), MAXM (6-140): the larger of (A) and (M); the codes are those of (A) - (M)
abbrev pub max_byte : Flags → ℕ → ℕ → Byte
max_byte f x m = byte_of (max x m) (λ _. difference_codes 7 f x m (difference_of 7 x m false))

-- MINA (p. 6-142), MINM (6-143): the smaller of (A) and (M); the codes are those of (A) - (M)
abbrev pub min_byte : Flags → ℕ → ℕ → Byte
min_byte f x m = byte_of (min x m) (λ _. difference_codes 7 f x m (difference_of 7 x m false))

-- The operations at 16 bits.

-- ADDD (p. 6-15)
abbrev pub add_word : Flags → ℕ → ℕ → Word
add_word f x m = wide_of (sum_of 15 x m false) (sum_codes 15 f x m)

-- SUBD (p. 6-195), CPD (6-65), CPX (6-67), CPY (6-68), CPS (6-66)
abbrev pub sub_word : Flags → ℕ → ℕ → Word
sub_word f x m = wide_of (difference_of 15 x m false) (difference_codes 15 f x m)

-- INX (p. 6-100), INY (6-101): Z alone
abbrev pub inx_word : Flags → ℕ → Word
inx_word f x = wide_of (one_more 15 x) (λ r. set_z f (r == 0))

-- DEX (p. 6-76), DEY (6-77): Z alone
abbrev pub dex_word : Flags → ℕ → Word
dex_word f x = wide_of (one_less 15 x) (λ r. set_z f (r == 0))

-- EMAXD (p. 6-81), EMAXM (6-82): the larger; the codes are those of (D) - (M)
abbrev pub max_word : Flags → ℕ → ℕ → Word
max_word f x m = wide_of (max x m) (λ _. difference_codes 15 f x m (difference_of 15 x m false))

-- EMIND (p. 6-83), EMINM (6-84): the smaller; the codes are those of (D) - (M)
abbrev pub min_word : Flags → ℕ → ℕ → Word
min_word f x m = wide_of (min x m) (λ _. difference_codes 15 f x m (difference_of 15 x m false))

-- Two rows of docs/MACHINE.md ("Sign bench examples") and one of its traps, each proved under the same name in proofs/Laws.antt.

-- row 2: ADDA #01 with CCR D0 and A 7F gives A 80, CCR FA
abbrev pub RowTwo : Type 0
RowTwo = ((add_byte (flags_of 208) 127 1 false).value ≡ 128) × (ccr_of (add_byte (flags_of 208) 127 1 false).flags ≡ 250)

-- row 6: DEC of 80 gives 7F, V set, N and Z clear, C kept
abbrev pub RowSix : Type 0
RowSix = (f : Flags) → dec_byte f 128 ≡ record { value = 127; flags = set_nzv f false false true }

-- INC and DEC keep C, whatever is counted; so the codes of counting cannot be changed here and in the code together
abbrev pub CountingKeepsC : Type 0
CountingKeepsC = (f : Flags) (m : ℕ) → ((inc_byte f m).flags.c ≡ f.c) × ((dec_byte f m).flags.c ≡ f.c)
