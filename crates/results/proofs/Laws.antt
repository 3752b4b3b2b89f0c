-- What a bit, a carry and a borrow of the manual's formulas are as comparisons of numbers: each law over the number k of the bit.
-- Assumes nothing.
use Prim.Native.Nat.{ℕ, zero, suc, ◌+◌, ◌-◌, ◌/◌, ◌%◌, ◌^◌, ◌<◌, ◌≤◌}
use native.Mathlib.Nat.{div-eq_of_lt, div-eq_of_lt-le, mod-lt, mod-eq_of_lt, mod-eq-sub-mod, mod-add-mod, add-mod}
use native.Mathlib.Omega.{arith}
use native.Mathlib.Decide.{dec_le}
use mathlib.Core.Path.{◌≡◌, refl, sym, ◌∙◌}
use mathlib.Core.Bool.{Bool, true, false, ◌&&◌, ◌||◌, not}
use lib.Dec.{leb, ltb, eqb}
use lib.Pow.{pow_pos, field}
use borrow.Author.Tests.{le-leb, lt-leb, le-ltb, lt-ltb, eq-eqb, leb-true, leb-false}
use Rattle.std.specs.Int.{from_bool}
use Rattle.word.specs.Word.{bit_of}
use Rattle.state.specs.Ccr.{weight_of}
use Rattle.results.specs.Results.{carried, borrowed}

-- a carry as a number, as `u64::from` gives it
pub carry_counts : (c : Bool) → from_bool c ≡ weight_of c 1
carry_counts true = refl
carry_counts false = refl

-- a carry counts for one at most
pub one_at_most : (c : Bool) → weight_of c 1 ≤ 1
one_at_most true = omega arith
one_at_most false = omega arith

-- the upper half of the numbers below h + h
upper : (h y : ℕ) → zero < h → y < h + h → leb h y ≡ eqb (y / h) 1
upper h y p l = go (dec_le h y)
  where
    go : Dec (h ≤ y) → leb h y ≡ eqb (y / h) 1
    go (yes u) = le-leb h y u ∙ sym (eq-eqb (y / h) 1 (div-eq_of_lt-le {k = 1} h (omega arith) (omega arith)))
    go (no n) = let u : y < h = omega arith in rw (lt-leb h y u, div-eq_of_lt u)

-- a number modulo 2 to the k + 1 is below twice 2 to the k
below : (k n : ℕ) → n % 2 ^ suc k < 2 ^ k + 2 ^ k
below k n = omega (arith, mod-lt n (pow_pos (suc k)))

cut : (k n : ℕ) → n % 2 ^ suc k < 2 ^ suc k
cut k n = mod-lt n (pow_pos (suc k))

-- bit k, told by the number modulo 2 to the k + 1
pub bit_upper : (k n : ℕ) → leb (2 ^ k) (n % 2 ^ suc k) ≡ bit_of k n
bit_upper k n =
    let next : 1 + k ≡ suc k = omega arith in
    upper (2 ^ k) (n % 2 ^ suc k) (pow_pos k) (below k n) ∙ rw (rw next at (field n 1 k))

-- the top bit of a number of k + 1 bits
pub top_upper : (k n : ℕ) → n < 2 ^ suc k → leb (2 ^ k) n ≡ bit_of k n
top_upper k n l = rw (mod-eq_of_lt l) at (bit_upper k n)

-- half of the numbers of k + 1 bits
pub half_span : (k : ℕ) → 2 ^ suc k / 2 ≡ 2 ^ k
half_span k = omega arith

-- The formula for a carry, of two numbers below g, whose upper half begins at h: their sum is r, or r + g where it holds.
carries :
    (h g x m c r : ℕ) (o : Bool) (a b d : Bool) →
    leb h x ≡ a →
    leb h m ≡ b →
    leb h r ≡ d →
    g ≡ h + h →
    x < g →
    m < g →
    r < g →
    c ≤ 1 →
    x + m + c ≡ r + weight_of o g →
    o ≡ (a && b || b && not d || not d && a)
carries h g x m c r true true true d p q s w i j k l e = refl
carries h g x m c r true true false false p q s w i j k l e = refl
carries h g x m c r true false true false p q s w i j k l e = refl
carries h g x m c r false true false true p q s w i j k l e = refl
carries h g x m c r false false true true p q s w i j k l e = refl
carries h g x m c r false false false true p q s w i j k l e = refl
carries h g x m c r false false false false p q s w i j k l e = refl
carries h g x m c r true true false true p q s w i j k l e = absurd (omega (arith, leb-true, leb-false))
carries h g x m c r true false true true p q s w i j k l e = absurd (omega (arith, leb-true, leb-false))
carries h g x m c r true false false d p q s w i j k l e = absurd (omega (arith, leb-true, leb-false))
carries h g x m c r false true true d p q s w i j k l e = absurd (omega (arith, leb-true, leb-false))
carries h g x m c r false true false false p q s w i j k l e = absurd (omega (arith, leb-true, leb-false))
carries h g x m c r false false true false p q s w i j k l e = absurd (omega (arith, leb-true, leb-false))

-- a number below twice a modulus: its remainder, and the modulus where it reaches it
wraps : (g s : ℕ) → s < g + g → s ≡ s % g + weight_of (leb g s) g
wraps g s l = go (dec_le g s)
  where
    go : Dec (g ≤ s) → s ≡ s % g + weight_of (leb g s) g
    go (yes p) =
        let less : s - g < g = omega arith in
        rw (le-leb g s p, mod-eq-sub-mod p, mod-eq_of_lt less) (omega arith)
    go (no n) = let less : s < g = omega arith in rw (lt-leb g s less, mod-eq_of_lt less) (omega arith)

-- The carry from bit k: x and m, cut to k + 1 bits, and the carry in, sum to 2 to the k + 1 or more.
-- r is the sum, as far as its lowest k + 1 bits go.
pub carry_from : (k x m c r s : ℕ) → c ≤ 1 → s ≡ x % 2 ^ suc k + m % 2 ^ suc k + c → r % 2 ^ suc k ≡ (x + m + c) % 2 ^ suc k → leb (2 ^ suc k) s ≡ carried k x m r
carry_from k x m c r s l e q =
    let g = 2 ^ suc k in
    let same : r % g ≡ s % g = q ∙ rw (← mod-add-mod (x + m) g c, add-mod x m g, mod-add-mod (x % g + m % g) g c, e) in
    rw (← bit_upper k x, ← bit_upper k m, ← bit_upper k r)
    (carries (2 ^ k) g (x % g) (m % g) c (r % g) (leb g s) _ _ _ refl refl refl (omega arith) (cut k x) (cut k m) (cut k r) l
    (sym e ∙ wraps g s (omega (arith, cut k x, cut k m)) ∙ rw same))

-- the carry from bit k, the top one of x and m: their sum has no place in k + 1 bits
pub carry_out : (k x m c : ℕ) → c ≤ 1 → x < 2 ^ suc k → m < 2 ^ suc k → leb (2 ^ suc k) (x + m + c) ≡ carried k x m ((x + m + c) % 2 ^ suc k)
carry_out k x m c l i j =
    carry_from k x m c ((x + m + c) % 2 ^ suc k) (x + m + c) l (rw (mod-eq_of_lt i, mod-eq_of_lt j)) (mod-eq_of_lt (cut k (x + m + c)))

-- a difference modulo g, and what was taken away, is the number again, and g where it was too small
undone : (g x m c : ℕ) → zero < g → c ≤ 1 → x < g → m < g → (x + g - (m + c)) % g + m + c ≡ x + weight_of (ltb x (m + c)) g
undone g x m c p l i j = go (dec_le (m + c) x)
  where
    go : Dec (m + c ≤ x) → (x + g - (m + c)) % g + m + c ≡ x + weight_of (ltb x (m + c)) g
    go (yes u) =
        let more : g ≤ x + g - (m + c) = omega arith in
        let less : x + g - (m + c) - g < g = omega arith in
        rw (le-ltb x (m + c) u, mod-eq-sub-mod more, mod-eq_of_lt less) (omega arith)
    go (no n) =
        let u : x < m + c = omega arith in
        let less : x + g - (m + c) < g = omega arith in
        rw (lt-ltb x (m + c) u, mod-eq_of_lt less) (omega arith)

-- the formula for a borrow is the one for a carry from the sum that undoes the difference
turned : (x m r : Bool) → (r && m || m && not x || not x && r) ≡ (not x && m || m && r || r && not x)
turned true true true = refl
turned true true false = refl
turned true false true = refl
turned true false false = refl
turned false true true = refl
turned false true false = refl
turned false false true = refl
turned false false false = refl

-- The borrow by bit k, the top one of x and m: x is less than m and the borrow before.
pub borrow_by : (k x m c r : ℕ) → c ≤ 1 → x < 2 ^ suc k → m < 2 ^ suc k → r ≡ (x + 2 ^ suc k - (m + c)) % 2 ^ suc k → ltb x (m + c) ≡ borrowed k x m r
borrow_by k x m c r l i j e =
    let g = 2 ^ suc k in
    let r-fits : r < g = rw e (cut k (x + g - (m + c))) in
    rw (← top_upper k x i, ← top_upper k m j, ← top_upper k r r-fits)
    (carries (2 ^ k) g r m c x (ltb x (m + c)) _ _ _ refl refl refl (omega arith) r-fits j i l
    (rw e (undone g x m c (pow_pos (suc k)) l i j))
    ∙ turned (leb (2 ^ k) x) (leb (2 ^ k) m) (leb (2 ^ k) r))
