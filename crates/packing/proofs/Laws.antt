-- The laws of the state record and of the packed schedule, on the definitions alone. Assumes nothing.
use Prim.Native.Nat.{ℕ, zero, suc, ◌+◌, ◌*◌, ◌/◌, ◌%◌, ◌<◌}
use native.Mathlib.Omega.{arith}
use mathlib.Core.Path.{◌≡◌, refl, ◌∙◌, ap}
use mathlib.Core.Bool.{Bool, true, false}
use mathlib.Core.List.{List, ◌∷◌}
use lib.ListN.{take, drop}
use mir.Val.{bool_byte}
use Rattle.std.specs.Prelude.{map}
use Rattle.std.proofs.lemmas.List.{get_or-take, get_or-drop, drop-drop}
use Rattle.std.specs.Simd.{first_chunks}
use Rattle.word.specs.Word.{high_of, low_of, word_of, high_word, low_word, long_of}
use Rattle.state.specs.Ccr.{weight_of}
use Rattle.table.specs.declared.Record.{Record}
use Rattle.packing.specs.Bytes.{byte_in, packed_size, record_at, records_from}

-- the number of 32 bits of four bytes, each for what it is worth
pub long_from : (a b c d : ℕ) → a * 16777216 + b * 65536 + c * 256 + d ≡ long_of (word_of a b) (word_of c d)
long_from a b c d = omega arith

-- the bytes of a word and of 32 bits
pub second_byte : (n : ℕ) → n / 256 % 256 ≡ high_of (low_word n)
second_byte n = omega arith

pub first_byte : (n : ℕ) → n % 256 ≡ low_of (low_word n)
first_byte n = omega arith

pub high_byte : (n : ℕ) → n < 65536 → n / 256 % 256 ≡ high_of n
high_byte n below = omega (arith, below)

pub highest_byte : (n : ℕ) → n < 4294967296 → n / 16777216 % 256 ≡ high_of (high_word n)
highest_byte n below = omega (arith, below)

pub flag_weight : (t : Bool) → bool_byte t ≡ weight_of t 1
flag_weight true = refl
flag_weight false = refl

-- a packed record of bytes that are cut out
abbrev pub chunk_record : List ℕ → Record
chunk_record chunk = record_at chunk 0

-- a byte of what is cut out
cut : (bytes : List ℕ) (i j : ℕ) → j < packed_size → byte_in (take packed_size (drop i bytes)) j ≡ byte_in bytes (i + j)
cut bytes i j within = get_or-take packed_size (drop i bytes) j 0 within ∙ get_or-drop i bytes j 0

-- the packed records are those of the chunks
pub cut_records : (bytes : List ℕ) (n i : ℕ) → map chunk_record (first_chunks packed_size n (drop i bytes)) ≡ records_from bytes n i
unfolding records_from
cut_records bytes zero i = refl
cut_records bytes (suc n) i =
    let here : i + 0 ≡ i = omega arith in
    let after : i + 2 + 1 ≡ i + 3 = omega arith in
    rw (
      cut bytes i 0 (omega arith),
      cut bytes i 1 (omega arith),
      cut bytes i 2 (omega arith),
      cut bytes i 3 (omega arith),
      cut bytes i 4 (omega arith),
      here,
      ← after,
      drop-drop packed_size i bytes,
    )
    (ap (λ (rs : List Record). record_at bytes i ∷ rs) (cut_records bytes n (i + packed_size)))
