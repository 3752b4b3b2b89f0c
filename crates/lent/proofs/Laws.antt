-- The laws of the refusals of what is lent, on the definitions alone. Assumes nothing.
use Prim.Native.Nat.{ℕ, ◌-◌, ◌≤◌}
use native.Mathlib.Omega.{arith}
use mathlib.Core.Path.{◌≡◌, refl, sym, ◌∙◌, ap}
use mathlib.Core.Bool.{Bool, true, false, ◌&&◌, true≢false}
use mathlib.Core.List.{List, [], ◌∷◌}
use lib.Dec.{eqb, ltb}
use lib.Seq.{take_all}
use lib.ListN.{length, take, drop, replicate, length-drop}
use borrow.Author.Tests.{eq-eqb, ne_eqb, eqb-true, ltb-false}
use Rattle.std.specs.Prelude.{◌↔◌, Option, None, Some, IsSome, Result}
use Rattle.std.specs.Option.{ok_or}
use Rattle.std.specs.Result.{IsErrAnd}
use Rattle.std.proofs.lemmas.Result.{err_from_is_err_and}
use Rattle.word.specs.Word.{pick}
use Rattle.packing.specs.Bytes.{byte_in, record_size, waiting_place, reserved_place, reserved_bytes}
use Rattle.packing.specs.Again.{IsRecord}
use Rattle.lent.specs.declared.LentError.{LentError}
use Rattle.lent.specs.declared.LentError.TheVariants.{WrongLength, WrongFlag, WrongPacking, WrongReserved}
use Rattle.lent.specs.Lent.{error_number, refusal_number, wrong_length, wrong_flag, wrong_reserved, all_zero, length_refusal, flag_refusal, record_refusal, first_of}

-- a record of another length is refused
pub other_length : (r : List ℕ) → length_refusal r ≡ 0 → length r ≡ record_size
other_length r z = go (eqb (length r) record_size) refl z
  where
    go : (b : Bool) → eqb (length r) record_size ≡ b → pick b 0 wrong_length ≡ 0 → length r ≡ record_size
    go true same z = eqb-true _ _ same
    go false other z = omega (arith, z)

-- the number that the test of the length gives, by whether it finds a record
pub length_told : {A : Type 0} (r : List ℕ) (o : Option A) → (IsSome o ↔ (length r ≡ record_size))
    → refusal_number (ok_or o WrongLength) ≡ length_refusal r
length_told r None found = rw (ne_eqb (length r) record_size (λ same. true≢false (sym (found.1 same))))
length_told r (Some x) found = rw (eq-eqb (length r) record_size (found.0 refl))

-- of a record of that length the reserved bytes are all that is left
pub reserved_rest : (r : List ℕ) → length r ≡ record_size → take 28 (drop reserved_place r) ≡ drop reserved_place r
reserved_rest r long = take_all 28 (drop reserved_place r) (omega (arith, length-drop reserved_place r, long))

-- where the first of two tests refuses
first_refuses : (a b : ℕ) {v : ℕ} → v ≡ a → (v ≡ 0 → ⊥) → v ≡ first_of a b
unfolding first_of
first_refuses a b {v} e h =
    let other : eqb a 0 ≡ false = rw (← e) (ne_eqb v 0 h) in
    rw other e

-- what the exit of a `?` returns is the error that it was given
pub error_again : {A : Type 0} (r : Result A LentError) (e : LentError) → IsErrAnd r (λ x. x ≡ e) → refusal_number r ≡ error_number e
error_again r e is =
    let p = err_from_is_err_and r is in
    rw (p.1, p.2)

-- an error has a number that is not 0, so the test that gives it is the first that refuses
pub error_counts : (e : LentError) → error_number e ≡ 0 → ⊥
error_counts WrongLength z = omega (arith, z)
error_counts WrongFlag z = omega (arith, z)
error_counts WrongPacking z = omega (arith, z)
error_counts WrongReserved z = omega (arith, z)

pub error_first : (e : LentError) (a b : ℕ) → error_number e ≡ a → error_number e ≡ first_of a b
error_first e a b is = first_refuses a b is (error_counts e)

-- and where it does not refuse, the next one tells
pub first_passes : (a b : ℕ) → 0 ≡ a → first_of a b ≡ b
unfolding first_of
first_passes a b z = rw (← z)

-- no refusal at all is none by the first test
pub none_first : (a b : ℕ) → first_of a b ≡ 0 → a ≡ 0
unfolding first_of
none_first a b z = go (eqb a 0) refl z
  where
    go : (t : Bool) → eqb a 0 ≡ t → pick t b a ≡ 0 → a ≡ 0
    go true same z = eqb-true _ _ same
    go false other z = z

-- bytes that are all 0 are so many zeros
zeros : (bytes : List ℕ) → all_zero bytes ≡ true → bytes ≡ replicate (length bytes) 0
zeros [] all = refl
zeros (b ∷ bytes) all = go (eqb b 0) refl all (zeros bytes)
  where
    go :
        (t : Bool) → eqb b 0 ≡ t → (t && all_zero bytes) ≡ true → (all_zero bytes ≡ true → bytes ≡ replicate (length bytes) 0) →
        b ∷ bytes ≡ 0 ∷ replicate (length bytes) 0
    go true is all rest = λ j. eqb-true b 0 is j ∷ rest all j
    go false other all rest = absurd (true≢false (sym all))

-- what is not refused is a state record
pub accepted : (r : List ℕ) → record_refusal r ≡ 0 → IsRecord r
accepted r z =
    let none = none_first (length_refusal r) _ z in
    let after-length = sym (first_passes (length_refusal r) _ (sym none)) ∙ z in
    let no_flag = none_first (flag_refusal r) _ after-length in
    let after-flag = sym (first_passes (flag_refusal r) _ (sym no_flag)) ∙ after-length in
    record {
      whole = other_length r none;
      flag = flag_within (ltb 1 (byte_in r waiting_place)) refl no_flag;
      reserved = all_clear_lem (other_length r none) (all_zero (drop reserved_place r)) refl after-flag;
    }
  where
    flag_within : (t : Bool) → ltb 1 (byte_in r waiting_place) ≡ t → pick t wrong_flag 0 ≡ 0 → byte_in r waiting_place ≤ 1
    flag_within true past z = omega (arith, z)
    flag_within false within z = ltb-false _ _ within

    all_clear_lem :
        length r ≡ record_size → (t : Bool) → all_zero (drop reserved_place r) ≡ t → pick t 0 wrong_reserved ≡ 0 →
        drop reserved_place r ≡ reserved_bytes
    all_clear_lem long true clear z =
        let many : length (drop reserved_place r) ≡ 28 = length-drop reserved_place r ∙ ap (λ (n : ℕ). n - reserved_place) long in
        zeros _ clear ∙ ap (λ (n : ℕ). replicate n 0) many
    all_clear_lem long false some z = absurd (omega (arith, z))
