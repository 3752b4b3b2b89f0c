-- Rules that one computed test proves: of every entry of a table, of every number below a bound, of every truth value.
-- A test is a function to Bool; antt computes it once, over everything, and the law gives the rule at each place.
-- Assumes nothing.
use Rattle.std.proofs.Common.{◌≡◌, ℕ, zero, suc, ◌+◌, ◌<◌, Bool, true, false, not, ◌&&◌, T, List, [], ◌∷◌, length, get_or, sym, refl, ◌∙◌, subst, le_of_suc-le-suc, not-suc-le-zero, add-zero, add-suc, suc-add, zero-add, arith}
use native.Mathlib.Decide.{ℕ_discrete}

pub and_left : (a b : Bool) → T (a && b) → T a
and_left true b t = tt
and_left false b t = t

pub and_right : (a b : Bool) → T (a && b) → T b
and_right true b t = t
and_right false b t = absurd t

-- two truth values are the same
abbrev pub same : Bool → Bool → Bool
same true b = b
same false b = not b

pub same_is : (a b : Bool) → T (same a b) → a ≡ b
same_is true true t = refl
same_is true false t = absurd t
same_is false true t = absurd t
same_is false false t = refl

-- every truth value of a list is true
abbrev pub all : List Bool → Bool
all [] = true
all (b ∷ bs) = b && all bs

-- each truth value of such a list; past its end there is none to be false
pub holds : (bs : List Bool) → T (all bs) → (k : ℕ) → T (get_or bs k true)
holds [] t k = tt
holds (b ∷ bs) t zero = and_left b (all bs) t
holds (b ∷ bs) t (suc k) = holds bs (and_right b (all bs) t) k

-- the test passes at each entry of a table and its place, counted from i
abbrev pub every_from : {A : Type 0} → (ℕ → A → Bool) → ℕ → List A → Bool
every_from f i [] = true
every_from f i (x ∷ xs) = f i x && every_from f (suc i) xs

from : {A : Type 0} (f : ℕ → A → Bool) (d : A) (xs : List A) (i : ℕ) → T (every_from f i xs) → (k : ℕ) → k < length xs → T (f (i + k) (get_or xs k d))
from f d [] i t k h = absurd (not-suc-le-zero h)
from f d (x ∷ xs) i t zero h = subst (λ (m : ℕ). T (f m x)) (sym (add-zero i)) (and_left (f i x) (every_from f (suc i) xs) t)
from f d (x ∷ xs) i t (suc k) h =
    subst (λ (m : ℕ). T (f m (get_or xs k d))) (suc-add i k ∙ sym (add-suc i k))
    (from f d xs (suc i) (and_right (f i x) (every_from f (suc i) xs) t) k (le_of_suc-le-suc h))

-- the rule at each entry of a table
pub at_entry : {A : Type 0} (f : ℕ → A → Bool) (d : A) (xs : List A) → T (every_from f 0 xs) → (k : ℕ) → k < length xs → T (f k (get_or xs k d))
at_entry f d xs t k h = subst (λ (m : ℕ). T (f m (get_or xs k d))) (zero-add k) (from f d xs 0 t k h)

-- the test passes at each number below n
abbrev pub every_below : (ℕ → Bool) → ℕ → Bool
every_below f zero = true
every_below f (suc n) = f n && every_below f n

-- the rule at each number below a bound
pub at_number : (f : ℕ → Bool) (n : ℕ) → T (every_below f n) → (k : ℕ) → k < n → T (f k)
at_number f zero t k h = absurd (not-suc-le-zero h)
at_number f (suc n) t k h = go (ℕ_discrete k n) (at_number f n (and_right (f n) (every_below f n) t) k)
  where
    go : Dec (k ≡ n) → (k < n → T (f k)) → T (f k)
    go (yes e) below = subst (λ (m : ℕ). T (f m)) (sym e) (and_left (f n) (every_below f n) t)
    go (no r) below = below (omega arith)

-- the test passes at each list of n truth values
abbrev pub every_bits : ℕ → (List Bool → Bool) → Bool
every_bits zero f = f []
every_bits (suc n) f = every_bits n (λ bs. f (true ∷ bs)) && every_bits n (λ bs. f (false ∷ bs))

-- the rule at each list of so many truth values
pub at_bits : (f : List Bool → Bool) (bs : List Bool) → T (every_bits (length bs) f) → T (f bs)
at_bits f [] t = t
at_bits f (b ∷ bs) t = at_bits (λ cs. f (b ∷ cs)) bs (one b)
  where
    one : (b : Bool) → T (every_bits (length bs) (λ cs. f (b ∷ cs)))
    one true = and_left (every_bits (length bs) (λ cs. f (true ∷ cs))) (every_bits (length bs) (λ cs. f (false ∷ cs))) t
    one false = and_right (every_bits (length bs) (λ cs. f (true ∷ cs))) (every_bits (length bs) (λ cs. f (false ∷ cs))) t
