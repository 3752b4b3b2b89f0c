-- A line of text: bytes put into its places, what is then written, and the digits of a number.
use Rattle.std.specs.Prelude.{ℕ, zero, suc, ◌+◌, ◌/◌, ◌%◌, ◌≡◌, List, [], ◌∷◌, ◌++◌, length, take, get_or, set, replicate, ltb}
use Prim.Native.String.{String, [] as end, ◌∷◌ as ◌then◌}
use Prim.Native.Char.{code}
use Rattle.word.specs.Word.{pick, high_of, low_of}
use Rattle.text.specs.declared.Text.{Text}

-- the bytes of a text in quotes
abbrev pub ascii : String → List ℕ
ascii end = []
ascii (c then s) = code c ∷ ascii s

-- a text of which nothing is written
unfoldable pub blank : Text
blank = record { bytes = replicate 80 0; len = 0 }

-- a text with a byte in the first place that is not written; where all 80 are, it is left out
abbrev pub with_byte : Text → ℕ → Text
with_byte t b = pick (ltb t.len 80) (record { bytes = set t.bytes t.len b; len = t.len + 1 }) t

-- a text with bytes put one after another
unfoldable pub with_bytes : Text → List ℕ → Text
with_bytes t [] = t
with_bytes t (b ∷ bs) = with_bytes (with_byte t b) bs

-- r is t with more bytes put
pub record Followed (t : Text) (more : List ℕ) (r : Text) : Type 0 where
  pub all : r ≡ with_bytes t more

-- what is written so far
abbrev pub written : Text → List ℕ
written t = take t.len t.bytes

-- What is written after bytes were put: what was written before, and then these, as far as the 80 places reach. Proved under the same
-- name in proofs/Laws.antt.
abbrev pub WrittenInOrder : Type 0
WrittenInOrder =
    (t : Text) (more : List ℕ) → length t.bytes ≡ 80 → written (with_bytes t more) ≡ take 80 (written t ++ more)

-- the digit of a number below 16
abbrev pub digit_of : ℕ → ℕ
digit_of n = get_or (ascii "0123456789ABCDEF") n 0

-- a byte in two hexadecimal digits
abbrev pub hex_byte : ℕ → List ℕ
hex_byte b = digit_of (b / 16) ∷ digit_of (b % 16) ∷ []

-- a word in four
abbrev pub hex_word : ℕ → List ℕ
hex_word w = hex_byte (high_of w) ++ hex_byte (low_of w)

-- the last digits of a number in a base, at most so many, and no zero in front of the first
unfoldable pub last_digits : ℕ → ℕ → ℕ → List ℕ
last_digits zero base n = []
last_digits (suc most) base n =
    pick (ltb n base) (digit_of n ∷ []) (last_digits most base (n / base) ++ (digit_of (n % base) ∷ []))

-- a number of at most 64 bits in a base: 64 digits are enough in any
abbrev pub numeral : ℕ → ℕ → List ℕ
numeral base n = last_digits 64 base n
