-- What is so exactly when something else is: the laws of `↔`, and what a test says. Assumes nothing.
use Prim.Native.Nat.{ℕ, ◌<◌}
use mathlib.Core.Logic.{◌↔◌, ◌⊎◌, inl, inr}
use mathlib.Core.Path.{◌≡◌, refl, sym, ◌∙◌, ap}
use mathlib.Core.Bool.{Bool, true, false, ◌||◌, not, true≢false}
use lib.Dec.{ltb}
use borrow.Author.Tests.{ltb-true, lt-ltb, not-true, not-false}
use Rattle.word.specs.Word.{pick}

-- one equivalence after another
pub then : {P Q R : Type 0} → P ↔ Q → Q ↔ R → P ↔ R
then a b = (λ p. b.0 (a.0 p), λ r. a.1 (b.1 r))

-- and one on each side of a pair
pub each : {P Q P' Q' : Type 0} → P ↔ P' → Q ↔ Q' → (P × Q) ↔ (P' × Q')
each a b = (λ p. (a.0 p.0, b.0 p.1), λ p. (a.1 p.0, b.1 p.1))

-- an equation says the same as the one with its left side replaced
pub replaced : {A : Type 0} {a b c : A} → a ≡ b → (a ≡ c) ↔ (b ≡ c)
replaced e = (λ f. sym e ∙ f, λ f. e ∙ f)

-- the denial of a test, each way
pub denied : (t : Bool) {P : Type 0} → (t ≡ false) ↔ P → (not t ≡ true) ↔ P
denied t is = then (not-true t, ap not) is

pub affirmed : (t : Bool) {P : Type 0} → (t ≡ true) ↔ P → (not t ≡ false) ↔ P
affirmed t is = then (not-false t, ap not) is

-- what a test says that fails is not so where it holds
pub unless : (t : Bool) {P : Type 0} → (t ≡ false) ↔ P → (t ≡ true) ↔ (P → ⊥)
unless true is = (λ e p. true≢false (is.1 p), λ n. refl)
unless false is = (λ e. absurd (true≢false (sym e)), λ n. absurd (n (is.0 refl)))

-- and what a test says that holds is not so where it fails
pub without : (t : Bool) {P : Type 0} → (t ≡ true) ↔ P → (t ≡ false) ↔ (P → ⊥)
without true is = (λ e. absurd (true≢false e), λ n. absurd (n (is.0 refl)))
without false is = (λ e p. true≢false (sym (is.1 p)), λ n. refl)

-- one of two tests holds
pub either : (p q : Bool) {P Q : Type 0} → (p ≡ true) ↔ P → (q ≡ true) ↔ Q → (p || q ≡ true) ↔ (P ⊎ Q)
either true q is-p is-q = (λ e. inl (is-p.0 refl), λ x. refl)
either false q {P} {Q} is-p is-q = (λ e. inr (is-q.0 e), from)
  where
    from : P ⊎ Q → q ≡ true
    from (inl p) = absurd (true≢false (sym (is-p.1 p)))
    from (inr x) = is-q.1 x

-- one number is above another; what says so may say it in its own words
pub above : (a b : ℕ) {P : Type 0} → (a < b → P) → (P → a < b) → (ltb a b ≡ true) ↔ P
above a b to from = (λ e. to (ltb-true a b e), λ p. lt-ltb a b (from p))

-- Of two numbers, a test picks the first. Where the other is not k, the one that is picked is k exactly when the test holds; where the
-- first is not, exactly when the test fails and the other is; and where neither is, never.
pub here : (t : Bool) {k n : ℕ} {P : Type 0} → (n ≡ k → ⊥) → (t ≡ true) ↔ P → (pick t k n ≡ k) ↔ P
here true other is = (λ e. is.0 refl, λ p. refl)
here false other is = (λ e. absurd (other e), λ p. absurd (true≢false (sym (is.1 p))))

pub later : (t : Bool) {j k n : ℕ} {P Q : Type 0} → (j ≡ k → ⊥) → (t ≡ false) ↔ P → (n ≡ k) ↔ Q → (pick t j n ≡ k) ↔ (P × Q)
later true first is rest = (λ e. absurd (first e), λ p. absurd (true≢false (is.1 p.0)))
later false first is rest = (λ e. (is.0 refl, rest.0 e), λ p. rest.1 p.1)

pub picked : (t : Bool) {a b c : ℕ} → (a ≡ c → ⊥) → (b ≡ c → ⊥) → pick t a b ≡ c → ⊥
picked true p q = p
picked false p q = q
