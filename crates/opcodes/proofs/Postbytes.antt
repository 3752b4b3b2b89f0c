-- The laws of indexed postbytes. Assumes nothing.
use Prim.Native.Nat.{ℕ, ◌/◌, ◌%◌, ◌<◌}
use native.Mathlib.Omega.{arith}
use mathlib.Core.Bool.{Bool, not}
use mathlib.Core.List.{[], ◌∷◌}
use lib.Dec.{ltb, eqb, eqb→eq}
use lib.ListN.{get_or, get_or-map}
use mathlib.Core.Path.{◌≡◌, sym}
use Rattle.word.specs.Word.{pick, bit_of}
use Rattle.word.proofs.Laws.{both}
use Rattle.word.proofs.Table.{at_number}
use Rattle.opcodes.specs.declared.form.Form.TheVariants.{Idx, Idx1, Idx2, DIndirect, Idx2Indirect}
use Rattle.opcodes.specs.Postbyte.{IDX, IDX1, IDX2, [D:IDX], [IDX2], form_number, form_of, OneOfFive, AsTabled}

pub as_tabled : AsTabled
unfolding form_of
as_tabled p h =
    eqb→eq _ _
    (at_number
    (λ p. eqb (form_of p) (pick (ltb p 0xE0) IDX (get_or (IDX1 ∷ IDX1 ∷ IDX2 ∷ [IDX2] ∷ IDX ∷ IDX ∷ IDX ∷ [D:IDX] ∷ []) (p % 8) IDX)))
    256
    tt
    p
    h)

-- the table of the columns E and F, by the forms' names
pub form_at : (k : ℕ) →
    form_number (get_or (Idx1 ∷ Idx1 ∷ Idx2 ∷ Idx2Indirect ∷ Idx ∷ Idx ∷ Idx ∷ DIndirect ∷ []) k Idx)
    ≡ get_or (IDX1 ∷ IDX1 ∷ IDX2 ∷ [IDX2] ∷ IDX ∷ IDX ∷ IDX ∷ [D:IDX] ∷ []) k IDX
form_at k = sym (get_or-map form_number (Idx1 ∷ Idx1 ∷ Idx2 ∷ Idx2Indirect ∷ Idx ∷ Idx ∷ Idx ∷ DIndirect ∷ []) k Idx)

pub one_of_five : OneOfFive
unfolding form_of
one_of_five p =
    below (not (bit_of 5 p)) (omega arith)
    (below (not (eqb (p / 64) 3)) (omega arith)
    (below (not (bit_of 2 p))
    (below (not (bit_of 1 p)) (omega arith) (below (not (bit_of 0 p)) (omega arith) (omega arith)))
    (below (eqb (p % 4) 3) (omega arith) (omega arith))))
  where
    below : (t : Bool) {a b : ℕ} → a < 5 → b < 5 → pick t a b < 5
    below t = both (λ (n : ℕ). n < 5) t _ _
