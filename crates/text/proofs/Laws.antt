-- The laws of writing, on the definitions alone. Assumes nothing.
use Prim.Native.Nat.{ℕ, zero, suc, ◌+◌, ◌<◌, ◌≤◌}
use native.Mathlib.Omega.{arith}
use native.Mathlib.Numerals.{add-one}
use mathlib.Core.Path.{◌≡◌, refl, ◌∙◌, ap}
use mathlib.Core.Bool.{Bool, true, false}
use mathlib.Core.List.{List, [], ◌∷◌, ◌++◌, append_assoc, append-nil}
use lib.Dec.{ltb}
use lib.ListN.{length, take, get_or, set, length-append, length-set, length-take}
use lib.Seq.{take_all, take-append-le, take-suc, take-suc-set, length-take-le}
use borrow.Author.Tests.{lt-ltb, le-ltb, ltb-true, ltb-false}
use Rattle.word.specs.Word.{pick}
use Rattle.word.proofs.Laws.{both}
use Rattle.text.specs.declared.Text.{Text}
use Rattle.text.specs.Text.{blank, with_byte, with_bytes, Followed, written, WrittenInOrder}

-- what a first cut leaves out, a second one at the same place leaves out too
take_again : (n : ℕ) (xs ys : List ℕ) → take n (take n xs ++ ys) ≡ take n (xs ++ ys)
take_again zero xs ys = refl
take_again (suc n) [] ys = refl
take_again (suc n) (x ∷ xs) ys = ap (λ (l : List ℕ). x ∷ l) (take_again n xs ys)

-- a byte in the first free place is written after the others
put_next : (bytes : List ℕ) (len b : ℕ) → length bytes ≡ 80 → len < 80 → take (len + 1) (set bytes len b) ≡ take 80 (take len bytes ++ (b ∷ []))
put_next bytes len b all room =
    let inside : len < length bytes = omega arith in
    let short : length (take len bytes ++ (b ∷ [])) ≤ 80 = simp (length-append, length-take-le len bytes (omega arith)) (omega arith) in
    rw (add-one len, take-suc-set bytes len b inside, take_all 80 (take len bytes ++ (b ∷ [])) short)

-- a full text has no place for a byte
put_none : (bytes : List ℕ) (len b : ℕ) → length bytes ≡ 80 → 80 ≤ len → take len bytes ≡ take 80 (take len bytes ++ (b ∷ []))
put_none bytes len b all full =
    let most : 80 ≤ length bytes = omega arith in
    rw (take_all len bytes (omega arith), take-append-le 80 bytes (b ∷ []) most, take_all 80 bytes (omega arith))

-- a text keeps its 80 places
places_stay : (t : Text) (b : ℕ) → length t.bytes ≡ 80 → length (with_byte t b).bytes ≡ 80
places_stay t b all = both (λ (r : Text). length r.bytes ≡ 80) (ltb t.len 80) _ _ (length-set t.bytes t.len b ∙ all) all

-- a byte put is written after the others
one_written : (t : Text) (b : ℕ) → length t.bytes ≡ 80 → written (with_byte t b) ≡ take 80 (written t ++ (b ∷ []))
one_written t b all = go (ltb t.len 80) refl
  where
    go : (has : Bool) → ltb t.len 80 ≡ has
        → written (pick has (record { bytes = set t.bytes t.len b; len = t.len + 1 }) t) ≡ take 80 (written t ++ (b ∷ []))
    go true e = put_next t.bytes t.len b all (ltb-true t.len 80 e)
    go false e = put_none t.bytes t.len b all (ltb-false t.len 80 e)

pub written_in_order : WrittenInOrder
unfolding with_bytes
written_in_order t [] all =
    let short : length (written t) ≤ 80 = simp length-take (omega arith) in
    rw (append-nil, take_all 80 (written t) short)
written_in_order t (b ∷ bs) all =
    written_in_order (with_byte t b) bs (places_stay t b all)
    ∙ rw (one_written t b all, take_again 80 (written t ++ (b ∷ [])) bs, append_assoc)

-- a byte put where there is a place, and where there is none
pub put_one : (t : Text) (b : ℕ) → t.len < 80 → Followed t (b ∷ []) (record { bytes = set t.bytes t.len b; len = t.len + 1 })
unfolding with_bytes
put_one t b room = record { all = rw (lt-ltb t.len 80 room) refl }

pub put_past : (t : Text) (b : ℕ) → 80 ≤ t.len → Followed t (b ∷ []) t
unfolding with_bytes
put_past t b full = record { all = rw (le-ltb t.len 80 full) refl }

together : (t : Text) (a b : List ℕ) → with_bytes t (a ++ b) ≡ with_bytes (with_bytes t a) b
unfolding with_bytes
together t [] b = refl
together t (x ∷ a) b = together (with_byte t x) a b

-- bytes put after bytes
pub and_then : {t r s : Text} {a b : List ℕ} → Followed t a r → Followed r b s → Followed t (a ++ b) s
and_then {t} {r} {s} {a} {b} first second =
    record { all = second.all ∙ rw (first.all, together t a b) }

-- no byte put
pub none_yet : (t : Text) → Followed t [] t
unfolding with_bytes
none_yet t = record { all = refl }

-- bytes put into an empty text, where they all have a place
pub all_written : {t r : Text} {bs : List ℕ} → Followed t bs r → t ≡ blank → length bs ≤ 80 → written r ≡ bs
unfolding blank
all_written {t} {r} {bs} put nothing short =
    rw (put.all, nothing, written_in_order blank bs refl) (take_all 80 bs short)

-- bytes of a list put in its order, and the next one
pub one_more : {t r s : Text} (more : List ℕ) (i : ℕ) → i < length more → Followed t (take i more) r → Followed r (get_or more i 0 ∷ []) s
    → Followed t (take (i + 1) more) s
one_more more i inside first next = rw (add-one i, take-suc more i 0 inside) (and_then first next)
