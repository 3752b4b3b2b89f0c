-- The memory: 65,536 bytes, each at its address (source document 002, section 2.3, p. 2-5; docs/MACHINE.md, "Addresses").
use Rattle.std.specs.Prelude.{ℕ, zero, suc, ◌+◌, ◌*◌, ◌/◌, ◌%◌, ◌^◌, ◌<◌, ◌≤◌, min, ◌≡◌, List, [], ◌∷◌, length, get_or, set, ltb}
use Rattle.word.specs.Word.{pick, word_of, high_of, low_of, long_of, plus_w, minus_w}
use Rattle.memory.specs.declared.Store.{Store}

-- the byte at an address
abbrev pub byte_at : List ℕ → ℕ → ℕ
byte_at m a = get_or m a 0

-- the word at an address: its high byte there, its low byte at the next address, modulo 65,536
abbrev pub word_at : List ℕ → ℕ → ℕ
word_at m a = word_of (byte_at m a) (byte_at m (plus_w a 1))

-- the memory after a run of bytes is stored from an address upward, modulo 65,536
unfoldable pub store_all : List ℕ → ℕ → List ℕ → List ℕ
store_all m a [] = m
store_all m a (b ∷ bs) = store_all (set m a b) (plus_w a 1) bs

-- byte k of a number, byte 0 the lowest
abbrev pub nth_byte : ℕ → ℕ → ℕ
nth_byte k n = n / 2 ^ (8 * k) % 256

-- the k lowest bytes of a number, the highest of them first, as a number stands in the memory
unfoldable pub lowest_bytes : ℕ → ℕ → List ℕ
lowest_bytes zero n = []
lowest_bytes (suc k) n = nth_byte k n ∷ lowest_bytes k n

-- the bytes of a store: the lowest of its number, as many as it counts; of more than eight the first stands apart
abbrev pub bytes_stored : Store → List ℕ
bytes_stored w = pick (ltb 8 w.count) (w.first ∷ lowest_bytes 8 w.number) (lowest_bytes w.count w.number)

-- a store cuts nothing off: its number has no more bytes than are stored
abbrev pub IsWhole : Store → Type 0
IsWhole w = w.number < 2 ^ (8 * min w.count 8)

-- the memory after a store
abbrev pub committed : List ℕ → Store → List ℕ
committed m w = store_all m w.at (bytes_stored w)

-- a memory, or any run of numbers, holds bytes
abbrev pub AreBytes : List ℕ → Type 0
AreBytes m = (a : ℕ) → byte_at m a < 256

-- The law of a store, at every address a. Where a is less than the run's length past the start, modulo 65,536, the byte of
-- the run at that distance; at any other address the byte that was there.
abbrev pub StoresExactly : Type 0
StoresExactly =
    (m : List ℕ) (start : ℕ) (run : List ℕ) (a : ℕ) →
    length m ≡ 65536 → start < 65536 → length run ≤ 9 → a < 65536 →
    byte_at (store_all m start run) a
    ≡ pick (ltb (minus_w a start) (length run)) (get_or run (minus_w a start) 0) (byte_at m a)

abbrev pub store_is : ℕ → ℕ → ℕ → ℕ → Store
store_is a count first n = record { at = a; count = count; first = first; number = n }

-- the stores that instructions make: none, a byte, a word, two words, and the nine bytes of a frame
abbrev pub no_store : Store
no_store = store_is 0 0 0 0

abbrev pub store_byte : ℕ → ℕ → Store
store_byte a b = store_is a 1 0 b

abbrev pub store_word : ℕ → ℕ → Store
store_word a w = store_is a 2 0 w

abbrev pub store_words : ℕ → ℕ → ℕ → Store
store_words a w u = store_is a 4 0 (long_of w u)

abbrev pub store_nine : ℕ → List ℕ → Store
store_nine a bs =
    store_is a 9 (byte_at bs 0) (long_of (word_at bs 1) (word_at bs 3) * 4294967296 + long_of (word_at bs 5) (word_at bs 7))

-- What each of them stores, byte by byte, where it is given a byte, words, and nine bytes. Both laws are proved under the same names in
-- proofs/Laws.antt.
pub record StoreByByte : Type 0 where
  pub none : bytes_stored no_store ≡ []
  pub byte : (a b : ℕ) → b < 256 → bytes_stored (store_byte a b) ≡ b ∷ []
  pub word : (a w : ℕ) → w < 65536 → bytes_stored (store_word a w) ≡ high_of w ∷ low_of w ∷ []
  pub words :
      (a w u : ℕ) → w < 65536 → u < 65536 →
      bytes_stored (store_words a w u) ≡ high_of w ∷ low_of w ∷ high_of u ∷ low_of u ∷ []
  pub nine : (a : ℕ) (bs : List ℕ) → length bs ≡ 9 → AreBytes bs → bytes_stored (store_nine a bs) ≡ bs
