-- The laws that the functions of src/page.rt ask for, on the definitions alone. Assumes nothing.
use Prim.Native.Nat.{ℕ, suc, ◌+◌}
use native.Mathlib.Omega.{arith}
use mathlib.Core.Path.{◌≡◌, refl}
use mathlib.Core.Bool.{Bool, true, false, not}
use mathlib.Core.Logic.{◌⊎◌}
use mathlib.Core.List.{List, [], ◌∷◌}
use Rattle.std.specs.Prelude.{cond}
use Rattle.std.specs.List.{count_by}
use Rattle.std.proofs.lemmas.List.Recursion.{is_count_by}
use Rattle.word.specs.Word.{pick}
use lib.Dec.{eqb}
use lib.ListN.{length}
use borrow.Author.Tests.{eq-eqb, ne_eqb}
use Rattle.text.specs.declared.Text.{Text}
use Rattle.text.specs.Text.{blank, Followed}
use Rattle.table.specs.Records.{record_is}
use Rattle.migrate.specs.declared.page.Page.{Page}
use Rattle.migrate.specs.Migrated.{cleared_byte, altered_count, record_line}
use Rattle.migrate.specs.Page.{with_text, text_of, paired, with_record_line, with_kept}

-- bytes put into an empty text
pub made : {t r : Text} {bs : List ℕ} → Followed t bs r → t ≡ blank → r ≡ text_of bs
made put none = rw none at put.all

-- the line bytes that are altered are counted one by one
pub altered_counted : (ls : List ℕ) → altered_count ls ≡ count_by (λ b. not (eqb (cleared_byte b) b)) ls
unfolding altered_count
altered_counted = is_count_by altered_count (λ b. not (eqb (cleared_byte b) b)) refl (λ b bs. one (eqb (cleared_byte b) b) (altered_count bs))
  where
    one : (same : Bool) (n : ℕ) → pick same n (suc n) ≡ cond (not same) (1 + n) n
    one true n = refl
    one false n = omega arith

-- a record's line put on a page, and left out
pub put_kept : (p q : Page) (t : Text) (last cycle line : ℕ) → (line ≡ last → ⊥) → t ≡ text_of (record_line (record_is cycle line)) → q ≡ with_text p t
    → q ≡ with_record_line p last (record_is cycle line)
put_kept p q t last cycle line other text put = rw (ne_eqb line last other, ← text) put

pub left_out : (p q : Page) (last cycle line : ℕ) → line ≡ last → q ≡ p → q ≡ with_record_line p last (record_is cycle line)
left_out p q last cycle line same stays = rw (eq-eqb line last same) stays

-- one turn of a loop over the records, and its end, where one of the lists is empty
pub one_kept : (p q whole : Page) (last line cycle b : ℕ) (cs ls cs' ls' : List ℕ) → cs ≡ cycle ∷ cs' → ls ≡ b ∷ ls' → line ≡ cleared_byte b
    → with_kept p last (paired cs ls) ≡ whole → q ≡ with_record_line p last (record_is cycle line) → with_kept q line (paired cs' ls') ≡ whole
unfolding with_kept paired
one_kept p q whole last line cycle b cs ls cs' ls' first second is before next = rw (next, is) (rw (first, second) at before)

pub all_kept : (p whole : Page) (last : ℕ) (cs ls : List ℕ) → (length cs ≡ 0) ⊎ (length ls ≡ 0) → with_kept p last (paired cs ls) ≡ whole → p ≡ whole
unfolding with_kept paired
all_kept p whole last [] ls ended before = before
all_kept p whole last (c ∷ cs) [] ended before = before
all_kept p whole last (c ∷ cs) (l ∷ ls) ended before = absurd (omega (arith, ended))
