-- DAA, from its glossary page in source document 002 (p. 6-69): the rows of its table, in the page's order and columns.
use Rattle.std.specs.Prelude.{ℕ, ◌+◌, ◌/◌, ◌%◌, Bool, true, false, ◌&&◌, List, [], ◌∷◌, ◌==◌, nat_le}
use Rattle.std.specs.Bool.{beq}
use Rattle.word.specs.Word.{bit_of, pick}
use Rattle.state.specs.declared.Flags.{Flags}
use Rattle.results.specs.Results.{Byte, byte_of, set_nzvc}

-- Initial C Bit Value, Value of A[7:4] from and to, Initial H Bit Value, Value of A[3:0] from and to, Correction Factor,
-- Corrected C Bit Value
pub record Row : Type 0 where
  pub carry : Bool
  pub high_from : ℕ
  pub high_to : ℕ
  pub half : Bool
  pub low_from : ℕ
  pub low_to : ℕ
  pub factor : ℕ
  pub corrected : Bool

abbrev row : Bool → ℕ → ℕ → Bool → ℕ → ℕ → ℕ → Bool → Row
row c i j h k l n d = record { carry = c; high_from = i; high_to = j; half = h; low_from = k; low_to = l; factor = n; corrected = d }

-- A to F are 10 to 15, and the factors 06, 60 and 66 are 6, 96 and 102
abbrev pub table : List Row
table =
    row false 0 9 false 0 9 0 false
    ∷ row false 0 8 false 10 15 6 false
    ∷ row false 0 9 true 0 3 6 false
    ∷ row false 10 15 false 0 9 96 true
    ∷ row false 9 15 false 10 15 102 true
    ∷ row false 10 15 true 0 3 102 true
    ∷ row true 0 2 false 0 9 96 true
    ∷ row true 0 2 false 10 15 102 true
    ∷ row true 0 3 true 0 3 102 true
    ∷ []

-- the row is for this C, this H and this A
abbrev pub serves : Row → Bool → Bool → ℕ → Bool
serves w c h a =
    beq w.carry c && nat_le w.high_from (a / 16) && nat_le (a / 16) w.high_to
    && beq w.half h && nat_le w.low_from (a % 16) && nat_le (a % 16) w.low_to

-- the correction factor of the row that serves; where none does, 00 (docs/MACHINE.md, "Codes and undefined results")
abbrev pub factor_of : List Row → Bool → Bool → ℕ → ℕ
factor_of [] c h a = 0
factor_of (w ∷ ws) c h a = pick (serves w c h a) w.factor (factor_of ws c h a)

-- C after, of the row that serves; where none does, C as it was
abbrev pub corrected_of : List Row → Bool → Bool → ℕ → Bool
corrected_of [] c h a = c
corrected_of (w ∷ ws) c h a = pick (serves w c h a) w.corrected (corrected_of ws c h a)

-- DAA (p. 6-69): the factor is added to A. N: MSB of the result. Z: the result is $00. V: undefined, and so as it was. C: the table's.
abbrev pub daa_byte : Flags → ℕ → Byte
daa_byte f a =
    byte_of ((a + factor_of table f.c f.h a) % 256)
    (λ r. set_nzvc f (bit_of 7 r) (r == 0) f.v (corrected_of table f.c f.h a))
