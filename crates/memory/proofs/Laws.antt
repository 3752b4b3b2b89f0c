-- The laws of a store, on the definitions alone. Assumes nothing.
use Prim.Native.Nat.{ℕ, zero, suc, ◌+◌, ◌*◌, ◌<◌, ◌≤◌}
use native.Mathlib.Omega.{arith}
use mathlib.Core.Path.{◌≡◌, refl, sym, ◌∙◌, ap}
use mathlib.Core.List.{List, [], ◌∷◌}
use lib.ListN.{length, get_or, set, length-set}
use lib.Dec.{ltb}
use borrow.Author.Tests.{lt-ltb, le-ltb}
use lib.Seq.{get_or-set_same, get_or-set_other, ext_get_or}
use native.Mathlib.Decide.{dec_lt, ℕ_discrete}
use Rattle.word.specs.Word.{pick, high_of, low_of, word_of, long_of, plus_w, minus_w}
use Rattle.memory.specs.declared.Store.{Store}
use Rattle.memory.specs.Memory.{byte_at, nth_byte, lowest_bytes, bytes_stored, store_all, committed, no_store, AreBytes, StoresExactly, StoreByByte}

-- a store changes no length
pub store_keeps : (m : List ℕ) (a : ℕ) (run : List ℕ) → length (store_all m a run) ≡ length m
unfolding store_all
store_keeps m a [] = refl
store_keeps m a (b ∷ bs) = store_keeps (set m a b) _ bs ∙ simp length-set

-- nothing stored is the memory
pub store_none : (m : List ℕ) → committed m no_store ≡ m
unfolding store_all lowest_bytes
store_none m = refl

-- A run of which bytes are left goes on with its highest byte, and one of which none is left is stored.
pub stored_one :
    {k j : ℕ} (m : List ℕ) (at number : ℕ) → k ≡ suc j →
    store_all (set m at (nth_byte j number)) (plus_w at 1) (lowest_bytes j number) ≡ store_all m at (lowest_bytes k number)
unfolding store_all lowest_bytes
stored_one m at number e = rw e

pub stored_all : {k : ℕ} (m : List ℕ) (at number : ℕ) → k ≡ 0 → store_all m at (lowest_bytes k number) ≡ m
unfolding store_all lowest_bytes
stored_all m at number e = rw e

-- a byte stored before others
pub store_first : (m : List ℕ) (a b : ℕ) (bs : List ℕ) → store_all m a (b ∷ bs) ≡ store_all (set m a b) (plus_w a 1) bs
unfolding store_all
store_first m a b bs = refl

-- so many bytes of a number are so many, and each is one
bytes_count : (k n : ℕ) → length (lowest_bytes k n) ≡ k
unfolding lowest_bytes
bytes_count zero n = refl
bytes_count (suc k) n = ap suc (bytes_count k n)

bytes_below : (k n : ℕ) → AreBytes (lowest_bytes k n)
unfolding lowest_bytes
bytes_below zero n a = omega arith
bytes_below (suc k) n zero = omega arith
bytes_below (suc k) n (suc a) = bytes_below k n a

-- what is stored is at most nine bytes
pub stored_short : (w : Store) → length (bytes_stored w) ≤ 9
stored_short w = go (dec_lt 8 w.count)
  where
    go : Dec (8 < w.count) → length (bytes_stored w) ≤ 9
    go (yes h) = rw (lt-ltb 8 w.count h) (omega (arith, bytes_count 8 w.number))
    go (no h) = let l : w.count ≤ 8 = omega arith in rw (le-ltb 8 w.count l) (omega (arith, bytes_count w.count w.number))

pub stored_bytes : (w : Store) → w.first < 256 → AreBytes (bytes_stored w)
stored_bytes w first = go (dec_lt 8 w.count)
  where
    nine : AreBytes (w.first ∷ lowest_bytes 8 w.number)
    nine zero = first
    nine (suc a) = bytes_below 8 w.number a

    go : Dec (8 < w.count) → AreBytes (bytes_stored w)
    go (yes h) a = rw (lt-ltb 8 w.count h) (nine a)
    go (no h) a = let l : w.count ≤ 8 = omega arith in rw (le-ltb 8 w.count l) (bytes_below w.count w.number a)

-- one byte further on in the run is one byte further on from its start
shift : (d n b : ℕ) (bs : List ℕ) (x : ℕ) → pick (ltb d n) (get_or bs d 0) x ≡ pick (ltb (suc d) (suc n)) (get_or (b ∷ bs) (suc d) 0) x
shift d n b bs x = go (dec_lt d n)
  where
    go : Dec (d < n) → pick (ltb d n) (get_or bs d 0) x ≡ pick (ltb (suc d) (suc n)) (get_or (b ∷ bs) (suc d) 0) x
    go (yes h) = rw (lt-ltb d n h, lt-ltb (suc d) (suc n) (omega arith))
    go (no h) = let l : n ≤ d = omega arith in rw (le-ltb d n l, le-ltb (suc d) (suc n) (omega arith))

pub stores_exactly : StoresExactly
unfolding store_all
stores_exactly m start [] a whole in_start short in_a_lem = rw (le-ltb (minus_w a start) 0 (omega arith))
stores_exactly m start (b ∷ bs) a whole in_start short in_a_lem =
    let fewer : length bs ≤ 9 = omega arith in
    let later = stores_exactly (set m start b) (plus_w start 1) bs a (simp length-set whole) (omega arith) fewer in_a_lem in
    later ∙ go (ℕ_discrete a start)
  where
    go :
        Dec (a ≡ start) →
        pick (ltb (minus_w a (plus_w start 1)) (length bs)) (get_or bs (minus_w a (plus_w start 1)) 0) (byte_at (set m start b) a)
        ≡ pick (ltb (minus_w a start) (suc (length bs))) (get_or (b ∷ bs) (minus_w a start) 0) (byte_at m a)
    go (yes e) =
        let far : length bs ≤ minus_w a (plus_w start 1) = omega arith in
        let here : minus_w a start ≡ 0 = omega arith in
        rw (le-ltb _ _ far, here, lt-ltb 0 (suc (length bs)) (omega arith), e) (get_or-set_same m start b 0 (omega arith))
    go (no n) =
        let next : minus_w a start ≡ suc (minus_w a (plus_w start 1)) = omega arith in
        rw (next, get_or-set_other m start a b 0 n) (shift (minus_w a (plus_w start 1)) (length bs) b bs (byte_at m a))

-- the eight bytes of the number that they make
eight :
    (b7 b6 b5 b4 b3 b2 b1 b0 : ℕ) →
    b7 < 256 → b6 < 256 → b5 < 256 → b4 < 256 → b3 < 256 → b2 < 256 → b1 < 256 → b0 < 256 →
    lowest_bytes 8 (long_of (word_of b7 b6) (word_of b5 b4) * 4294967296 + long_of (word_of b3 b2) (word_of b1 b0))
    ≡ b7 ∷ b6 ∷ b5 ∷ b4 ∷ b3 ∷ b2 ∷ b1 ∷ b0 ∷ []
unfolding lowest_bytes
eight b7 b6 b5 b4 b3 b2 b1 b0 h7 h6 h5 h4 h3 h2 h1 h0 =
    let n = long_of (word_of b7 b6) (word_of b5 b4) * 4294967296 + long_of (word_of b3 b2) (word_of b1 b0) in
    let is7 : nth_byte 7 n ≡ b7 = omega arith in
    let is6 : nth_byte 6 n ≡ b6 = omega arith in
    let is5 : nth_byte 5 n ≡ b5 = omega arith in
    let is4 : nth_byte 4 n ≡ b4 = omega arith in
    let is3 : nth_byte 3 n ≡ b3 = omega arith in
    let is2 : nth_byte 2 n ≡ b2 = omega arith in
    let is1 : nth_byte 1 n ≡ b1 = omega arith in
    let is0 : nth_byte 0 n ≡ b0 = omega arith in
    λ i. is7 i ∷ is6 i ∷ is5 i ∷ is4 i ∷ is3 i ∷ is2 i ∷ is1 i ∷ is0 i ∷ []

-- a list of nine, number by number
nine_listed :
    (bs : List ℕ) → length bs ≡ 9 →
    byte_at bs 0 ∷ byte_at bs 1 ∷ byte_at bs 2 ∷ byte_at bs 3 ∷ byte_at bs 4 ∷ byte_at bs 5 ∷ byte_at bs 6 ∷ byte_at bs 7 ∷ byte_at bs 8 ∷ []
    ≡ bs
nine_listed bs nine = ext_get_or 0 _ bs (sym nine) each
  where
    each :
        (i : ℕ) → i < 9 →
        get_or
        (byte_at bs 0 ∷ byte_at bs 1 ∷ byte_at bs 2 ∷ byte_at bs 3 ∷ byte_at bs 4 ∷ byte_at bs 5 ∷ byte_at bs 6 ∷ byte_at bs 7 ∷ byte_at bs 8 ∷ [])
        i 0
        ≡ get_or bs i 0
    each zero h = refl
    each (suc zero) h = refl
    each (suc (suc zero)) h = refl
    each (suc (suc (suc zero))) h = refl
    each (suc (suc (suc (suc zero)))) h = refl
    each (suc (suc (suc (suc (suc zero))))) h = refl
    each (suc (suc (suc (suc (suc (suc zero)))))) h = refl
    each (suc (suc (suc (suc (suc (suc (suc zero))))))) h = refl
    each (suc (suc (suc (suc (suc (suc (suc (suc zero)))))))) h = refl
    each (suc (suc (suc (suc (suc (suc (suc (suc (suc i))))))))) h = absurd (omega (arith, h))

pub store_by_byte : StoreByByte
unfolding lowest_bytes
store_by_byte =
    record {
      none = refl;
      byte = byte;
      word = word;
      words = words;
      nine = λ a bs nine h. ap (λ rest. byte_at bs 0 ∷ rest) (eight _ _ _ _ _ _ _ _ (h 1) (h 2) (h 3) (h 4) (h 5) (h 6) (h 7) (h 8)) ∙ nine_listed bs nine;
    }
  where
    byte : (a b : ℕ) → b < 256 → nth_byte 0 b ∷ [] ≡ b ∷ []
    byte a b h = let is : nth_byte 0 b ≡ b = omega (arith, h) in λ i. is i ∷ []

    word : (a w : ℕ) → w < 65536 → nth_byte 1 w ∷ nth_byte 0 w ∷ [] ≡ high_of w ∷ low_of w ∷ []
    word a w h =
        let is1 : nth_byte 1 w ≡ high_of w = omega (arith, h) in
        let is0 : nth_byte 0 w ≡ low_of w = omega arith in
        λ i. is1 i ∷ is0 i ∷ []

    words :
        (a w u : ℕ) → w < 65536 → u < 65536 →
        lowest_bytes 4 (long_of w u) ≡ high_of w ∷ low_of w ∷ high_of u ∷ low_of u ∷ []
    words a w u h k =
        let is3 : nth_byte 3 (long_of w u) ≡ high_of w = omega (arith, h, k) in
        let is2 : nth_byte 2 (long_of w u) ≡ low_of w = omega (arith, h, k) in
        let is1 : nth_byte 1 (long_of w u) ≡ high_of u = omega (arith, h, k) in
        let is0 : nth_byte 0 (long_of w u) ≡ low_of u = omega (arith, h, k) in
        λ i. is3 i ∷ is2 i ∷ is1 i ∷ is0 i ∷ []
