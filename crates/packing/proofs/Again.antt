-- A state and its record say the same. Assumes nothing.
use Prim.Native.Nat.{ℕ, zero, suc, ◌+◌, ◌<◌, ◌≤◌}
use native.Mathlib.Omega.{arith}
use mathlib.Core.Path.{◌≡◌, refl, sym, ◌∙◌, ap}
use mathlib.Core.Bool.{Bool, true, false}
use mathlib.Core.List.{List, [], ◌∷◌, ◌++◌}
use lib.Dec.{eqb}
use lib.ListN.{length, get_or, take, drop}
use lib.Seq.{drop-cons}
use Rattle.word.specs.Word.{high_of, low_of, word_of, high_word, low_word, long_of}
use Rattle.word.proofs.Laws.{high_word_lem, low_word_lem, word_halves, word_below, high_long, low_long, long_halves}
use Rattle.state.specs.Ccr.{weight_of}
use Rattle.state.proofs.Laws.{byte_again, flags_again}
use Rattle.packing.specs.Bytes.{byte_in, word_then, long_then, state_of, meant_bytes, bytes_of}
use Rattle.packing.specs.Again.{StateAgain, BytesAgain}

-- a number of 32 bits, by its four bytes
long_again : (n : ℕ) → long_of (word_of (high_of (high_word n)) (low_of (high_word n))) (word_of (high_of (low_word n)) (low_of (low_word n))) ≡ n
long_again n = rw (word_halves (high_word n), word_halves (low_word n)) (long_halves n)

flag_again : (t : Bool) → eqb (weight_of t 1) 1 ≡ t
flag_again true = refl
flag_again false = refl

pub state_again : StateAgain
unfolding state_of bytes_of meant_bytes
state_again s cycles =
    rw (
      word_halves s.x,
      word_halves s.y,
      word_halves s.sp,
      word_halves s.pc,
      flags_again s.flags,
      flag_again s.standing.waiting,
      long_again s.clock,
    )

-- the bytes of a word of two bytes, and of a number of four
word_spelt : (h : ℕ) {l : ℕ} → l < 256 → (bytes : List ℕ) → word_then (word_of h l) bytes ≡ h ∷ l ∷ bytes
word_spelt h below bytes = λ j. high_word_lem h below j ∷ low_word_lem h below j ∷ bytes

long_spelt : (a : ℕ) {b : ℕ} (c : ℕ) {d : ℕ} → b < 256 → c < 256 → d < 256 → (bytes : List ℕ)
    → long_then (long_of (word_of a b) (word_of c d)) bytes ≡ a ∷ b ∷ c ∷ d ∷ bytes
long_spelt a {b} c {d} second third fourth bytes =
    let high = high_long (word_of a b) (word_below third fourth) in
    let low = low_long (word_of a b) (word_below third fourth) in
    (λ j. word_then (high j) (word_then (low j) bytes)) ∙ (λ j. word_spelt a second (word_spelt c fourth bytes j) j)

-- the byte of the flag that a byte of 0 or 1 gives
byte_of_flag : (b : ℕ) → b ≤ 1 → weight_of (eqb b 1) 1 ≡ b
byte_of_flag zero most = refl
byte_of_flag (suc zero) most = refl
byte_of_flag (suc (suc n)) most = omega (arith, most)

-- so many bytes from a place on, one by one
spell : List ℕ → ℕ → ℕ → List ℕ
spell r zero i = []
spell r (suc n) i = get_or r i 0 ∷ spell r n (suc i)

spelt : (r : List ℕ) (n i : ℕ) → i + n ≤ length r → take n (drop i r) ≡ spell r n i
unfolding spell
spelt r zero i fits = refl
spelt r (suc n) i fits =
    rw (drop-cons r i 0 (omega (arith, fits))) (ap (λ (bs : List ℕ). get_or r i 0 ∷ bs) (spelt r n (suc i) (omega (arith, fits))))

pub bytes_again : BytesAgain
unfolding state_of bytes_of meant_bytes spell
bytes_again r cycles bytes is =
    let b : ℕ → ℕ = byte_in r in
    let clock = long_spelt (b 12) (b 14) (bytes 13) (bytes 14) (bytes 15) [] in
    let same : take 16 (bytes_of (state_of r) cycles) ≡ spell r 16 0 =
    λ j.
    b 0 ∷ b 1
    ∷ word_spelt (b 2) (bytes 3) (word_spelt (b 4) (bytes 5) (word_spelt (b 6) (bytes 7) (word_spelt (b 8) (bytes 9)
    (byte_again (b 10) (bytes 10) j ∷ byte_of_flag (b 11) is.flag j ∷ clock j) j) j) j) j in
    let front = same ∙ sym (spelt r 16 0 (omega (arith, is.whole))) in
    λ j. front j ++ sym is.reserved j
