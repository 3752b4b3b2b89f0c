-- Every result of the arithmetic fits its register: a byte is below 256, a word below 65,536. On the definitions alone. Assumes nothing.
use Prim.Native.Nat.{ℕ, zero, suc, ◌+◌, ◌*◌, ◌/◌, ◌%◌, ◌^◌, ◌<◌, min, max}
use native.Mathlib.Nat.{div-le_self, mod-le, mod-lt, lt_of_le_of_lt}
use native.Mathlib.Omega.{arith}
use mathlib.Core.Path.{◌≡◌, refl, sym, ◌∙◌}
use mathlib.Core.Bool.{Bool, true, false}
use lib.Bits.{and_lt, or_lt, xor_lt}
use lib.Dec.{leb, ltb, eqb}
use lib.Pow.{pow_pos}
use borrow.Author.Tests.{leb-false, eqb-false}
use Rattle.word.specs.Word.{pick, bit_of}
use Rattle.word.proofs.Laws.{both}
use Rattle.state.specs.declared.Flags.{Flags}
use Rattle.opcodes.specs.Kind.{member_of, SUBA, CMPA, SBCA, ANDA, BITA, LDAA, EORA, ADCA, ORAA, NEG, COM, INC, DEC, LSR, ROL, ROR, ASR, ASL, CLR}
use Rattle.results.specs.Results.{Byte, exclusive_or}
use Rattle.shift.specs.Shift.{right_of}
use Rattle.decimal.specs.Lookup.{lookup_of}
use Rattle.decimal.proofs.Laws.{lookup_below}
use Rattle.codes.specs.Loops.{counted}
use Rattle.quotient.specs.declared.Division.{Division}
use Rattle.quotient.specs.Divide.{none_set, magnitude_of, signed_of, outside, by_zero, too_large, divided}
use Rattle.quotient.specs.Divide.{idiv_of, fdiv_of, ediv_of, signed_division, idivs_of, edivs_of}
use Rattle.quotient.proofs.Laws.{divisor_zero, fraction_fits, magnitude_some, magnitude_most, inside_fits, remainder_fits}
use Rattle.execute8.specs.Bytes.{accumulated, changed}

-- the larger or smaller of two numbers below a bound is below it
pub max_below : {n x y : ℕ} → x < n → y < n → max x y < n
max_below k l = omega arith

pub min_below : {n : ℕ} (x y : ℕ) → x < n → min x y < n
min_below x y k = omega arith

-- a number shifted right, with either bit at its top, has no more bits than before
pub right_below : (k m : ℕ) (high : Bool) → m < 2 ^ suc k → right_of k m high < 2 ^ suc k
right_below k m true l = omega arith
right_below k m false l = omega arith

-- a counter, less one, as it is, or plus one
pub counted_below : (k kind n : ℕ) → n < 2 ^ suc k → counted k kind n < 2 ^ suc k
counted_below k kind n l =
    both (λ (c : ℕ). c < 2 ^ suc k) (ltb kind 2) _ _ (mod-lt _ (pow_pos (suc k)))
    (both (λ (c : ℕ). c < 2 ^ suc k) (ltb kind 4) _ _ l (mod-lt _ (pow_pos (suc k))))

-- What an operation of 8 bits leaves: a byte, where it is given bytes, and X as it was.
pub record Leaves (f : Flags) (Bytes : Type 0) (r : Byte) : Type 0 where
  pub byte : Bytes → r.value < 256
  pub x : r.flags.x ≡ f.x

pub accumulated_leaves : (member : ℕ) (f : Flags) (x m : ℕ) → Leaves f ((x < 256) × (m < 256)) (accumulated member f x m)
unfolding accumulated
accumulated_leaves member f x m =
    let R : Byte → Type 0 = Leaves f ((x < 256) × (m < 256)) in
    both R (eqb member (member_of SUBA)) _ _ (record { byte = λ k. omega arith; x = refl })
    (both R (eqb member (member_of CMPA)) _ _ (record { byte = λ k. k.0; x = refl })
    (both R (eqb member (member_of SBCA)) _ _ (record { byte = λ k. omega arith; x = refl })
    (both R (eqb member (member_of ANDA)) _ _ (record { byte = λ k. and_lt 8 x m k.0 k.1; x = refl })
    (both R (eqb member (member_of BITA)) _ _ (record { byte = λ k. k.0; x = refl })
    (both R (eqb member (member_of LDAA)) _ _ (record { byte = λ k. k.1; x = refl })
    (both R (eqb member (member_of EORA)) _ _ (record { byte = λ k. xor_lt 8 x m k.0 k.1; x = refl })
    (both R (eqb member (member_of ADCA)) _ _ (record { byte = λ k. omega arith; x = refl })
    (both R (eqb member (member_of ORAA)) _ _ (record { byte = λ k. or_lt 8 x m k.0 k.1; x = refl })
    (record { byte = λ k. omega arith; x = refl })))))))))

pub changed_leaves : (member : ℕ) (f : Flags) (m : ℕ) → Leaves f (m < 256) (changed member f m)
unfolding changed
changed_leaves member f m =
    let R : Byte → Type 0 = Leaves f (m < 256) in
    both R (eqb member (member_of NEG)) _ _ (record { byte = λ l. omega arith; x = refl })
    (both R (eqb member (member_of COM)) _ _ (record { byte = λ l. omega arith; x = refl })
    (both R (eqb member (member_of INC)) _ _ (record { byte = λ l. omega arith; x = refl })
    (both R (eqb member (member_of DEC)) _ _ (record { byte = λ l. omega arith; x = refl })
    (both R (eqb member (member_of LSR)) _ _ (record { byte = right_below 7 m false; x = refl })
    (both R (eqb member (member_of ROL)) _ _ (record { byte = λ l. omega arith; x = refl })
    (both R (eqb member (member_of ROR)) _ _ (record { byte = right_below 7 m f.c; x = refl })
    (both R (eqb member (member_of ASR)) _ _ (record { byte = right_below 7 m (bit_of 7 m); x = refl })
    (both R (eqb member (member_of ASL)) _ _ (record { byte = λ l. omega arith; x = refl })
    (both R (eqb member (member_of CLR)) _ _ (record { byte = λ l. omega arith; x = refl })
    (record { byte = λ l. l; x = refl }))))))))))

-- a lookup between two entries below a bound is below it
pub lookup_fits : {n : ℕ} (b y1 y2 : ℕ) → b < 256 → y1 < n → y2 < n → lookup_of b y1 y2 < n
lookup_fits b y1 y2 h k l = lt_of_le_of_lt (lookup_below b y1 y2 h) (max_below k l)

-- a quotient and a remainder that are words
pub record AreWords (r : Division) : Type 0 where
  pub quotient : r.quotient < 65536
  pub remainder : r.remainder < 65536

pub idiv_words : (f : Flags) (d x : ℕ) → d < 65536 → AreWords (idiv_of f d x)
idiv_words f d x l =
    record {
      quotient = both (λ (n : ℕ). n < 65536) (none_set 15 x) _ _ (omega arith) (lt_of_le_of_lt (div-le_self d x) l);
      remainder = both (λ (n : ℕ). n < 65536) (none_set 15 x) _ _ l (lt_of_le_of_lt (mod-le d x) l);
    }

pub fdiv_words : (f : Flags) (d x : ℕ) → d < 65536 → x < 65536 → AreWords (fdiv_of f d x)
fdiv_words f d x k l = record { quotient = go_q (leb x d) refl; remainder = go_r (leb x d) refl }
  where
    go_q : (t : Bool) → leb x d ≡ t → pick t 65535 (d * 65536 / x) < 65536
    go_q true e = omega arith
    go_q false e = fraction_fits d x (leb-false x d e)

    go_r : (t : Bool) → leb x d ≡ t → pick t d (d * 65536 % x) < 65536
    go_r true e = k
    go_r false e = let some : zero < x = omega (arith, leb-false x d e) in omega (arith, mod-lt (d * 65536) some)

-- a divisor of which a bit is set is not 0
some_set : (x : ℕ) → x < 65536 → none_set 15 x ≡ false → x ≡ 0 → ⊥
some_set x l e = eqb-false x 0 (sym (divisor_zero x l) ∙ e)

pub ediv_words : (f : Flags) (y d x : ℕ) → y < 65536 → d < 65536 → x < 65536 → AreWords (ediv_of f y d x)
ediv_words f y d x j k l = go (y * 65536 + d) (none_set 15 x) (leb 65536 ((y * 65536 + d) / x)) refl refl
  where
    go :
        (n : ℕ) (z o : Bool) → none_set 15 x ≡ z → leb 65536 (n / x) ≡ o →
        AreWords (pick z (by_zero f y d) (pick o (too_large f y d) (divided f (n / x) (n % x))))
    go n true o p q = record { quotient = j; remainder = k }
    go n false true p q = record { quotient = j; remainder = k }
    go n false false p q =
        let other = some_set x l p in
        let some : zero < x = omega arith in
        record { quotient = leb-false 65536 (n / x) q; remainder = omega (arith, mod-lt n some) }

-- a magnitude of 16 bits with its sign is a word
signed_below : (negative : Bool) (m : ℕ) → m < 65536 → signed_of negative m < 65536
signed_below true m l = omega arith
signed_below false m l = l

signed_words :
    (f : Flags) (q d : ℕ) (negative : Bool) (n x : ℕ) → q < 65536 → d < 65536 → x < 65536 → AreWords (signed_division f q d negative n x)
signed_words f q d negative n x j k l =
    go (exclusive_or negative (bit_of 15 x)) (none_set 15 x)
    (outside (exclusive_or negative (bit_of 15 x)) (n / magnitude_of 15 x)) refl refl
  where
    go :
        (apart z o : Bool) → none_set 15 x ≡ z → outside apart (n / magnitude_of 15 x) ≡ o →
        AreWords
        (pick z (by_zero f q d)
        (pick o (too_large f q d) (divided f (signed_of apart (n / magnitude_of 15 x)) (signed_of negative (n % magnitude_of 15 x)))))
    go apart true o p e = record { quotient = j; remainder = k }
    go apart false true p e = record { quotient = j; remainder = k }
    go apart false false p e =
        let some = magnitude_some x l (some_set x l p) in
        record {
          quotient = signed_below apart _ (inside_fits apart _ e);
          remainder = signed_below negative _ (remainder_fits n _ some (magnitude_most x l));
        }

pub idivs_words : (f : Flags) (d x : ℕ) → d < 65536 → x < 65536 → AreWords (idivs_of f d x)
idivs_words f d x k l = signed_words f x d (bit_of 15 d) (magnitude_of 15 d) x l k l

pub edivs_words : (f : Flags) (y d x : ℕ) → y < 65536 → d < 65536 → x < 65536 → AreWords (edivs_of f y d x)
edivs_words f y d x j k l = signed_words f y d (bit_of 15 y) (magnitude_of 31 (y * 65536 + d)) x j k l
