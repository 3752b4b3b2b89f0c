-- DAA's table told by four comparisons, and the bounds of a table lookup. Assumes nothing.
use Rattle.std.proofs.Common.{◌≡◌, ℕ, ◌+◌, ◌-◌, ◌*◌, ◌/◌, ◌%◌, ◌<◌, ◌≤◌, max, Bool, true, false, not, ◌&&◌, ◌||◌, T, eqb, leb, refl, le_of_lt, mul-le-mul_right, arith, eqb→eq, leb-false, leb-true}
use native.Mathlib.Nat.{le-max_left, le-max_right}
use Rattle.std.specs.Int.{from_bool}
use Rattle.word.specs.Word.{pick}
use Rattle.word.proofs.Table.{same, same_is, every_below, at_number}
use Rattle.decimal.specs.Decimal.{table, factor_of, corrected_of}
use Rattle.decimal.specs.Lookup.{lookup_of, OneFraction}

-- some row is for this C, this H and this A
abbrev pub listed : Bool → Bool → ℕ → Bool
listed c h a = not (h && leb 4 (a % 16) || c && leb (3 + from_bool h) (a / 16))

-- such a row corrects the low digit; the high one
abbrev pub low_due : Bool → ℕ → Bool
low_due h a = h || leb 10 (a % 16)

abbrev pub high_due : Bool → ℕ → Bool
high_due c a = c || leb 10 (a / 16) || leb 9 (a / 16) && leb 10 (a % 16)

abbrev factor : Bool → Bool → ℕ → ℕ
factor c h a = from_bool (listed c h a && low_due h a) * 6 + from_bool (listed c h a && high_due c a) * 96

abbrev corrected : Bool → Bool → ℕ → Bool
corrected c h a = c || listed c h a && high_due c a

abbrev factor_right : Bool → Bool → ℕ → Bool
factor_right c h a = eqb (factor c h a) (factor_of table c h a)

abbrev corrected_right : Bool → Bool → ℕ → Bool
corrected_right c h a = same (corrected c h a) (corrected_of table c h a)

-- a test that passes at both values of C, both of H and every byte
everywhere :
    (right : Bool → Bool → ℕ → Bool) →
    T (every_below (right true true) 256) →
    T (every_below (right true false) 256) →
    T (every_below (right false true) 256) →
    T (every_below (right false false) 256) →
    (c h : Bool) (a : ℕ) →
    a < 256 →
    T (right c h a)
everywhere right p q s t true true a l = at_number (right true true) 256 p a l
everywhere right p q s t true false a l = at_number (right true false) 256 q a l
everywhere right p q s t false true a l = at_number (right false true) 256 s a l
everywhere right p q s t false false a l = at_number (right false false) 256 t a l

pub factor_is : (c h : Bool) (a : ℕ) → a < 256 → factor c h a ≡ factor_of table c h a
factor_is c h a l = eqb→eq _ _ (everywhere factor_right tt tt tt tt c h a l)

pub corrected_is : (c h : Bool) (a : ℕ) → a < 256 → corrected c h a ≡ corrected_of table c h a
corrected_is c h a l = same_is _ _ (everywhere corrected_right tt tt tt tt c h a l)

-- a product of a part of 256 and a number of 16 bits
pub part_below : (b y : ℕ) → b < 256 → y < 65536 → b * y < 16777216
part_below b y k l = omega (arith, mul-le-mul_right y (le_of_lt k))

-- B times Y1 is at most the 256 times Y1 from which it is taken
pub part_most : (b y : ℕ) → b < 256 → b * y ≤ y * 256
part_most b y l = omega (arith, mul-le-mul_right y (le_of_lt l))

pub one_fraction : OneFraction
one_fraction b y1 y2 l = go (leb y1 y2) refl
  where
    rises : (e : ℕ) → y1 + e ≡ y2 → y1 + b * e / 256 ≡ (y1 * 256 + b * y2 - b * y1) / 256
    rises e sum = let more : b * y2 ≡ b * y1 + b * e = rw (← sum) (omega arith) in omega arith

    falls : (e : ℕ) → y2 + e ≡ y1 → y1 - (b * e + 255) / 256 ≡ (y1 * 256 + b * y2 - b * y1) / 256
    falls e sum =
        let more : b * y1 ≡ b * y2 + b * e = rw (← sum) (omega arith) in
        let most = part_most b e l in
        omega arith

    go :
        (t : Bool) → leb y1 y2 ≡ t →
        pick t (y1 + b * (y2 - y1) / 256) (y1 - (b * (y1 - y2) + 255) / 256) ≡ (y1 * 256 + b * y2 - b * y1) / 256
    go true e = rises (y2 - y1) (omega (arith, leb-true y1 y2 e))
    go false e = falls (y1 - y2) (omega (arith, leb-false y1 y2 e))

-- a lookup stays between its two entries
pub lookup_below : (b y1 y2 : ℕ) → b < 256 → lookup_of b y1 y2 ≤ max y1 y2
lookup_below b y1 y2 l = go (leb y1 y2) refl
  where
    go : (t : Bool) → leb y1 y2 ≡ t → pick t (y1 + b * (y2 - y1) / 256) (y1 - (b * (y1 - y2) + 255) / 256) ≤ max y1 y2
    go true e = omega (arith, leb-true y1 y2 e, part_most b (y2 - y1) l, le-max_right y1 y2)
    go false e = omega (arith, le-max_left y1 y2)

-- and so does the fraction
pub fraction_below : (b y1 y2 : ℕ) → b < 256 → (y1 * 256 + b * y2 - b * y1) / 256 ≤ max y1 y2
fraction_below b y1 y2 l = rw (← one_fraction b y1 y2 l) (lookup_below b y1 y2 l)
