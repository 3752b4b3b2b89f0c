-- Bytes and words as numbers. A byte is below 256, a word below 65,536 (source document 002, section 2.2, p. 2-5).
use Rattle.std.specs.Prelude.{ℕ, ◌+◌, ◌-◌, ◌*◌, ◌/◌, ◌%◌, ◌^◌, Bool, true, false, ◌==◌, nat_le}

-- a where the test holds, else b
abbrev pub pick : {A : Type 0} → Bool → A → A → A
pick true a b = a
pick false a b = b

-- the high byte of a word
abbrev pub high_of : ℕ → ℕ
high_of w = w / 256

-- the low byte of a word
abbrev pub low_of : ℕ → ℕ
low_of w = w % 256

-- the word of a high and a low byte
abbrev pub word_of : ℕ → ℕ → ℕ
word_of h l = h * 256 + l

-- the high word of 32 bits
abbrev pub high_word : ℕ → ℕ
high_word n = n / 65536

-- the low word of 32 bits
abbrev pub low_word : ℕ → ℕ
low_word n = n % 65536

-- the 32 bits of a high and a low word
abbrev pub long_of : ℕ → ℕ → ℕ
long_of h l = h * 65536 + l

-- a sum of addresses, modulo 65,536
abbrev pub plus_w : ℕ → ℕ → ℕ
plus_w a b = (a + b) % 65536

-- a difference of addresses, modulo 65,536
abbrev pub minus_w : ℕ → ℕ → ℕ
minus_w a b = (a + 65536 - b) % 65536

-- 8 bits made 16, the new ones like the sign
abbrev pub extend8 : ℕ → ℕ
extend8 b = pick (nat_le 128 b) (b + 65280) b

-- 9 bits made 16: a byte and the sign above it, the new bits like the sign
abbrev pub extend9 : Bool → ℕ → ℕ
extend9 sign b = pick sign (b + 65280) b

-- 16 bits made 32, the new ones like the sign
abbrev pub extend16 : ℕ → ℕ
extend16 w = pick (nat_le 32768 w) (w + 4294901760) w

-- bit k of a number, bit 0 the lowest
abbrev pub bit_of : ℕ → ℕ → Bool
bit_of k n = n / 2 ^ k % 2 == 1
