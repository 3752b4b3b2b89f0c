-- The laws of the condition code byte. Assumes nothing.
use Prim.Native.Nat.{ℕ, ◌≤◌, ◌<◌}
use native.Mathlib.Omega.{arith}
use mathlib.Core.Path.{◌≡◌, refl}
use mathlib.Core.Bool.{Bool, true, false, ◌&&◌}
use mathlib.Core.List.{List, [], ◌∷◌}
use lib.Dec.{eqb, eqb→eq}
use lib.ListN.{get_or}
use Rattle.word.specs.Word.{bit_of}
use Rattle.word.proofs.Table.{at_number, at_bits, same, same_is}
use Rattle.state.specs.declared.Flags.{Flags}
use Rattle.state.specs.Ccr.{weight_of, ccr_of, flags_of, ByteAgain, FlagsAgain, NeverSetsX}

pub byte_again : ByteAgain
byte_again b h = eqb→eq _ _ (at_number (λ n. eqb (ccr_of (flags_of n)) n) 256 tt b h)

of_bits : List Bool → Flags
of_bits bs = record { s = get_or bs 0 false; x = get_or bs 1 false; h = get_or bs 2 false; i = get_or bs 3 false; n = get_or bs 4 false; z = get_or bs 5 false; v = get_or bs 6 false; c = get_or bs 7 false }

-- bit k of the byte is the flag at place j
bit_is : ℕ → ℕ → List Bool → Bool
bit_is k j bs = same (bit_of k (ccr_of (of_bits bs))) (get_or bs j false)

bits : Flags → List Bool
bits f = f.s ∷ f.x ∷ f.h ∷ f.i ∷ f.n ∷ f.z ∷ f.v ∷ f.c ∷ []

pub flags_again : FlagsAgain
unfolding bit_is of_bits bits
flags_again f = λ j. record {
  s = same_is (bit_of 7 (ccr_of f)) f.s (at_bits (bit_is 7 0) (bits f) tt) j;
  x = same_is (bit_of 6 (ccr_of f)) f.x (at_bits (bit_is 6 1) (bits f) tt) j;
  h = same_is (bit_of 5 (ccr_of f)) f.h (at_bits (bit_is 5 2) (bits f) tt) j;
  i = same_is (bit_of 4 (ccr_of f)) f.i (at_bits (bit_is 4 3) (bits f) tt) j;
  n = same_is (bit_of 3 (ccr_of f)) f.n (at_bits (bit_is 3 4) (bits f) tt) j;
  z = same_is (bit_of 2 (ccr_of f)) f.z (at_bits (bit_is 2 5) (bits f) tt) j;
  v = same_is (bit_of 1 (ccr_of f)) f.v (at_bits (bit_is 1 6) (bits f) tt) j;
  c = same_is (bit_of 0 (ccr_of f)) f.c (at_bits (bit_is 0 7) (bits f) tt) j;
}

pub never_sets_x : NeverSetsX
never_sets_x old b h = both_left old.x (bit_of 6 b) h
  where
    both_left : (p q : Bool) → p && q ≡ true → p ≡ true
    both_left true q e = refl
    both_left false q e = e

-- a flag adds its weight at most, so that the byte of the flags is one
weight_most : (t : Bool) (w : ℕ) → weight_of t w ≤ w
weight_most true w = omega arith
weight_most false w = omega arith

pub ccr_below : (f : Flags) → ccr_of f < 256
ccr_below f =
    omega (
      arith,
      weight_most f.s 128,
      weight_most f.x 64,
      weight_most f.h 32,
      weight_most f.i 16,
      weight_most f.n 8,
      weight_most f.z 4,
      weight_most f.v 2,
      weight_most f.c 1,
    )
