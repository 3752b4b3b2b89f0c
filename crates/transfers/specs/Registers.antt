-- TFR, SEX and EXG, from their glossary pages in source document 002 and from its table of their postbytes, A-4 (p. A-24), which decides.
-- Rows 0 to 7 of source document 003's table A-5 only fill in what the scan of 002 has lost: the registers' names over the columns, and
-- the second lines of the last row. A postbyte has the register that is named first in bits 6 to 4 and the second in bits 2 to 0; bit 7
-- is set for EXG, and bit 3 is ignored. The codes: 0 A, 1 B, 2 CCR, 3 reserved, 4 D, 5 X, 6 Y, 7 SP.
use Rattle.std.specs.Prelude.{ℕ, ◌+◌, ◌/◌, ◌%◌, ◌<◌, ◌≡◌, true, [], ◌∷◌, leb, eqb, get_or}
use Rattle.word.specs.Word.{pick, low_of, word_of, bit_of}
use Rattle.state.specs.declared.Flags.{Flags}
use Rattle.state.specs.declared.State.{State}
use Rattle.state.specs.Ccr.{ccr_of, take_ccr}
use Rattle.state.specs.State.{with_a, with_b, with_d, with_x, with_y, with_sp, with_flags, d_of}
use Rattle.opcodes.specs.Postbyte.{transfer_reserved}
use Rattle.transfers.specs.declared.Register.{Register}
use Rattle.transfers.specs.declared.Register.TheVariants.{A, B, Ccr, Reserved, D, X, Y, Sp}

-- the code of a register that the code names
abbrev pub register_number : Register → ℕ
register_number A = 0
register_number B = 1
register_number Ccr = 2
register_number Reserved = 3
register_number D = 4
register_number X = 5
register_number Y = 6
register_number Sp = 7

-- the byte that a register sends: itself, or its low byte (a code is three bits)
abbrev pub byte_from : State → ℕ → ℕ
byte_from s r = get_or (s.a ∷ s.b ∷ ccr_of s.flags ∷ 0 ∷ s.b ∷ low_of s.x ∷ low_of s.y ∷ low_of s.sp ∷ []) (r % 8) 0

-- the word that a register of 16 bits sends, the codes from 4 on
abbrev pub wide_from : State → ℕ → ℕ
wide_from s r = get_or (0 ∷ 0 ∷ 0 ∷ 0 ∷ d_of s ∷ s.x ∷ s.y ∷ s.sp ∷ []) (r % 8) 0

-- a register of 16 bits as it is, one of 8 bits with a high byte that fills it up
abbrev pub word_from : State → ℕ → ℕ → ℕ
word_from s fill r = pick (leb 4 r) (wide_from s r) (word_of fill (byte_from s r))

-- a byte into a register of 8 bits; CCR takes it under the X rule, by the flags before the instruction
abbrev pub put_byte : Flags → State → ℕ → ℕ → State
put_byte f s r v =
    pick (eqb r 0) (with_a s v)
    (pick (eqb r 1) (with_b s v)
    (with_flags s (take_ccr f v)))

-- a word into a register of 16 bits
abbrev pub put_word : State → ℕ → ℕ → State
put_word s r v =
    pick (eqb r 4) (with_d s v)
    (pick (eqb r 5) (with_x s v)
    (pick (eqb r 6) (with_y s v)
    (with_sp s v)))

-- what a register of the state `old` sends, put into a register of the state s
abbrev pub moved : State → State → ℕ → ℕ → ℕ → State
moved s old to from fill =
    pick (leb 4 to) (put_word s to (word_from old fill from)) (put_byte old.flags s to (byte_from old from))

-- SEX (p. 6-185): if bit 7 is 0, $00 : r1; if bit 7 is 1, $FF : r1
abbrev pub sign_fill : ℕ → ℕ
sign_fill b = pick (bit_of 7 b) 255 0

-- TFR (p. 6-203), as TFR r1,r2; and SEX (6-185), which is TFR from 8 to 16 bits, TAP (6-198), TPA (6-204), TSX (6-209), TSY (6-210),
-- TXS (6-211), TYS (6-212), which are TFR with two registers
abbrev pub tfr_of : State → ℕ → ℕ → State
tfr_of s r1 r2 = moved s s r2 r1 (sign_fill (byte_from s r1))

-- what fills a byte of r2 up in EXG r1,r2 where r1 has 16 bits: $00 : A, $FF : B, $FF : CCR
abbrev pub back_fill : ℕ → ℕ
back_fill r2 = pick (eqb r2 0) 0 255

-- EXG (p. 6-90), as EXG r1,r2: r1 takes what r2 sends, then r2 takes what r1 sent, each as it was before; a byte goes to 16 bits with a
-- high byte of $00. And XGDX (6-215) and XGDY (6-216), which are EXG D,X and EXG D,Y
abbrev pub exg_of : State → ℕ → ℕ → State
exg_of s r1 r2 = moved (moved s s r1 r2 (back_fill r2)) s r2 r1 0

-- the state after the instruction B7 with a postbyte; a reserved one, which its caller refuses, changes nothing
abbrev pub transferred : State → ℕ → State
transferred s p =
    pick (transfer_reserved p) s
    (pick (leb 128 p) (exg_of s (p / 16 % 8) (p % 8)) (tfr_of s (p / 16 % 8) (p % 8)))

-- The laws, each proved under the same name in proofs/Laws.antt. First the cells of the table in which D meets a part of itself or
-- CCR, with the table's own words; the registers of 8 bits are below 256.
abbrev pub Cell : ℕ → (State → State) → Type 0
Cell p after = (s : State) → s.a < 256 → s.b < 256 → transferred s p ≡ after s

-- C0, EXG D,A: B ⇒ A, A ⇒ B
abbrev pub CellC0 : Type 0
CellC0 = Cell 192 (λ s. with_b (with_a s s.b) s.a)

-- C1, EXG D,B: B ⇒ B, $FF ⇒ A
abbrev pub CellC1 : Type 0
CellC1 = Cell 193 (λ s. with_a s 255)

-- C2, EXG D,CCR: B ⇒ CCR, $FF:CCR ⇒ D
abbrev pub CellC2 : Type 0
CellC2 = Cell 194 (λ s. with_flags (with_b (with_a s 255) (ccr_of s.flags)) (take_ccr s.flags s.b))

-- 84, EXG A,D: $00:A ⇒ D
abbrev pub Cell84 : Type 0
Cell84 = Cell 132 (λ s. with_b (with_a s 0) s.a)

-- 94, EXG B,D: $00:B ⇒ D
abbrev pub Cell94 : Type 0
Cell94 = Cell 148 (λ s. with_a s 0)

-- A4, EXG CCR,D: $00:CCR ⇒ D, B ⇒ CCR
abbrev pub CellA4 : Type 0
CellA4 = Cell 164 (λ s. with_flags (with_b (with_a s 0) (ccr_of s.flags)) (take_ccr s.flags s.b))

-- bit 3 of a postbyte is ignored
abbrev pub IgnoresBit3 : Type 0
IgnoresBit3 = (s : State) (p : ℕ) → p % 16 < 8 → transferred s (p + 8) ≡ transferred s p

-- no postbyte turns X from 0 to 1
abbrev pub TransferKeepsX : Type 0
TransferKeepsX = (s : State) (p : ℕ) → (transferred s p).flags.x ≡ true → s.flags.x ≡ true
