-- The text of a schedule (docs/MIGRATE.md): its lines, which of them are good, and the record of a good one.
use Rattle.std.specs.Prelude.{ℕ, ◌+◌, ◌-◌, ◌*◌, Bool, true, false, ◌&&◌, List, [], ◌∷◌, leb, ltb, eqb, length, get_or}
use Rattle.word.specs.Word.{pick}
use Rattle.table.specs.declared.Record.{Record}
use Rattle.table.specs.Records.{record_is}

-- a byte in front of the first of some lines; where there is none, it is one
unfoldable pub before : ℕ → List (List ℕ) → List (List ℕ)
before b [] = (b ∷ []) ∷ []
before b (l ∷ ls) = (b ∷ l) ∷ ls

-- the lines of a text: a line feed ends each, and the last may lack it
unfoldable pub text_lines : List ℕ → List (List ℕ)
text_lines [] = []
text_lines (b ∷ bs) = pick (eqb b 10) ([] ∷ text_lines bs) (before b (text_lines bs))

-- a byte from one to another, both of them too
abbrev pub within : ℕ → ℕ → ℕ → Bool
within low high b = leb low b && leb b high

-- the value of a digit, from 0 to 9, A to F and a to f; 16 where the byte is none
unfoldable pub digit_value : ℕ → ℕ
digit_value b =
    pick (within 48 57 b) (b - 48)
    (pick (within 65 70 b) (b - 55)
    (pick (within 97 102 b) (b - 87) 16))

abbrev pub is_decimal : ℕ → Bool
is_decimal b = ltb (digit_value b) 10

abbrev pub is_hex : ℕ → Bool
is_hex b = ltb (digit_value b) 16

-- the decimal digits at the front of a line, and what follows them
unfoldable pub front : List ℕ → List ℕ
front [] = []
front (b ∷ bs) = pick (is_decimal b) (b ∷ front bs) []

unfoldable pub rest : List ℕ → List ℕ
rest [] = []
rest (b ∷ bs) = pick (is_decimal b) (rest bs) (b ∷ bs)

-- the number that decimal digits spell, after those of a number before them
unfoldable pub spelled_after : ℕ → List ℕ → ℕ
spelled_after n [] = n
spelled_after n (b ∷ bs) = spelled_after (n * 10 + digit_value b) bs

-- the greatest cycle number
abbrev pub last_cycle : ℕ
last_cycle = 4294967295

abbrev pub not_empty : List ℕ → Bool
not_empty [] = false
not_empty (b ∷ bs) = true

-- three bytes, a space and two hexadecimal digits
abbrev pub is_end : List ℕ → Bool
is_end l = eqb (length l) 3 && (eqb (get_or l 0 0) 32 && (is_hex (get_or l 1 0) && is_hex (get_or l 2 0)))

-- the byte of the two digits
abbrev pub end_byte : List ℕ → ℕ
end_byte l = digit_value (get_or l 1 0) * 16 + digit_value (get_or l 2 0)

-- the cycle number and the line byte of a line
abbrev pub cycle_of : List ℕ → ℕ
cycle_of l = spelled_after 0 (front l)

abbrev pub line_of : List ℕ → ℕ
line_of l = end_byte (rest l)

-- a good line: decimal digits, a space and two hexadecimal digits, and a cycle number that is not too great
abbrev pub good_line : List ℕ → Bool
good_line l = not_empty (front l) && (is_end (rest l) && leb (cycle_of l) last_cycle)

-- its record
abbrev pub record_of : List ℕ → Record
record_of l = record_is (cycle_of l) (line_of l)

-- every line is good
unfoldable pub good_lines : List (List ℕ) → Bool
good_lines [] = true
good_lines (l ∷ ls) = good_line l && good_lines ls
