-- The halves of a number are the number again, a difference of addresses undoes the sum, and what holds of both holds of one. Also
-- what a choice that is false says.
-- Assumes nothing.
use Rattle.std.proofs.Common.{◌≡◌, ℕ, zero, ◌+◌, ◌*◌, ◌/◌, ◌%◌, ◌<◌, Bool, true, false, ◌||◌, T, refl, subst, mod-eq_of_lt, mul_comm, arith}
use native.Mathlib.Nat.{div-eq_of_lt, mul-add-div_right, mul-add-mod_self_right, div-add-mod}
use Rattle.word.specs.Word.{pick, high_of, low_of, word_of, high_word, low_word, long_of, plus_w, minus_w}

-- neither of two is true
pub neither : (a b : Bool) → a || b ≡ false → (a ≡ false) × (b ≡ false)
neither true b e = (e, absurd (subst T e tt))
neither false b e = (refl, e)

-- what holds of both holds of the one that is picked
pub both : {A : Type 0} (P : A → Type 0) (t : Bool) (a b : A) → P a → P b → P (pick t a b)
both P true a b p q = p
both P false a b p q = q

-- A number of two halves, the lower below g: its halves are those, and the halves of a number make it again.
upper_half : (g h : ℕ) {l : ℕ} → l < g → (h * g + l) / g ≡ h
upper_half g h {l} below =
    let some : zero < g = omega arith in
    rw (mul-add-div_right some h l, div-eq_of_lt below) (omega arith)

lower_half : (g h : ℕ) {l : ℕ} → l < g → (h * g + l) % g ≡ l
lower_half g h {l} below = rw (mul-add-mod_self_right h g l, mod-eq_of_lt below)

halves_again : (g n : ℕ) → n / g * g + n % g ≡ n
halves_again g n = rw (mul_comm (n / g) g) (div-add-mod n g)

-- of a word, and of 32 bits
pub high_word_lem : (h : ℕ) {l : ℕ} → l < 256 → high_of (word_of h l) ≡ h
high_word_lem h = upper_half 256 h

pub low_word_lem : (h : ℕ) {l : ℕ} → l < 256 → low_of (word_of h l) ≡ l
low_word_lem h = lower_half 256 h

pub word_halves : (w : ℕ) → word_of (high_of w) (low_of w) ≡ w
word_halves = halves_again 256

pub high_long : (h : ℕ) {l : ℕ} → l < 65536 → high_word (long_of h l) ≡ h
high_long h = upper_half 65536 h

pub low_long : (h : ℕ) {l : ℕ} → l < 65536 → low_word (long_of h l) ≡ l
low_long h = lower_half 65536 h

pub long_halves : (n : ℕ) → long_of (high_word n) (low_word n) ≡ n
long_halves = halves_again 65536

pub word_below : {h l : ℕ} → h < 256 → l < 256 → word_of h l < 65536
word_below i k = omega arith

pub plus_minus : {a b : ℕ} → a < 65536 → b < 65536 → plus_w (minus_w a b) b ≡ a
plus_minus i k = omega arith

pub minus_plus : {a b : ℕ} → a < 65536 → b < 65536 → minus_w (plus_w a b) b ≡ a
minus_plus i k = omega arith
