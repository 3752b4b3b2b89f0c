-- The divisions touch no mask. On the definitions alone. Assumes nothing.
use Prim.Native.Nat.{ℕ, ◌+◌, ◌*◌, ◌/◌}
use mathlib.Core.Path.{◌≡◌, refl}
use mathlib.Core.Bool.{Bool}
use lib.Dec.{leb}
use Rattle.word.specs.Word.{bit_of}
use Rattle.state.specs.declared.Flags.{Flags}
use Rattle.results.specs.Results.{exclusive_or}
use Rattle.quotient.specs.declared.Division.{Division}
use Rattle.quotient.specs.Divide.{none_set, magnitude_of, outside, ediv_of, signed_division, idivs_of, edivs_of}
use Rattle.word.proofs.Laws.{both}

pub ediv_x : (f : Flags) (y d x : ℕ) → (ediv_of f y d x).flags.x ≡ f.x
ediv_x f y d x =
    let Keeps : Division → Type 0 = λ (r : Division). r.flags.x ≡ f.x in
    both Keeps (none_set 15 x) _ _ refl (both Keeps (leb 65536 ((y * 65536 + d) / x)) _ _ refl refl)

signed_x : (f : Flags) (q d : ℕ) (negative : Bool) (n x : ℕ) → (signed_division f q d negative n x).flags.x ≡ f.x
signed_x f q d negative n x =
    let Keeps : Division → Type 0 = λ (r : Division). r.flags.x ≡ f.x in
    both Keeps (none_set 15 x) _ _ refl
    (both Keeps (outside (exclusive_or negative (bit_of 15 x)) (n / magnitude_of 15 x)) _ _ refl refl)

pub idivs_x : (f : Flags) (d x : ℕ) → (idivs_of f d x).flags.x ≡ f.x
idivs_x f d x = signed_x f x d (bit_of 15 d) (magnitude_of 15 d) x

pub edivs_x : (f : Flags) (y d x : ℕ) → (edivs_of f y d x).flags.x ≡ f.x
edivs_x f y d x = signed_x f y d (bit_of 15 y) (magnitude_of 31 (y * 65536 + d)) x
