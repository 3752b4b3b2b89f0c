-- What is known where a step or a run is not refused. Assumes nothing.
use Prim.Native.Nat.{ℕ, ◌+◌, ◌≤◌}
use native.Mathlib.Omega.{arith}
use mathlib.Core.Path.{◌≡◌, refl}
use mathlib.Core.Bool.{Bool, true, false, not, ◌||◌}
use mathlib.Core.List.{List}
use lib.Dec.{ltb, eqb}
use lib.ListN.{length}
use borrow.Author.Tests.{eq-eqb, eqb-true, le-ltb, ltb-false}
use Rattle.word.specs.Word.{pick}
use Rattle.state.specs.declared.State.{State}
use Rattle.schedule.specs.Schedule.{accepted, withdrawn, any_withdrawn}
use Rattle.machine.specs.Names.{memory_size, record_limit, budget_limit, clock_limit, step_limit}
use Rattle.refusals.specs.Given.{Given}
use Rattle.refusals.specs.Refusals.{refusal, run_refusal}

-- a step
pub record StepFree (s : State) (m : List ℕ) (line : ℕ) : Type 0 where
  pub whole : length m ≡ memory_size
  pub none_withdrawn : withdrawn line ≡ false
  pub near : s.clock ≤ step_limit

pub is_step_free : (s : State) (m : List ℕ) (line : ℕ) → refusal s m line ≡ 0 → StepFree s m line
is_step_free s m line = go (eqb (length m) memory_size) (withdrawn line) (ltb step_limit s.clock) refl refl refl
  where
    go :
        (whole gone far : Bool) →
        eqb (length m) memory_size ≡ whole →
        withdrawn line ≡ gone →
        ltb step_limit s.clock ≡ far →
        ◌≡◌ {A = ℕ} (pick (not whole) 1 (pick gone 15 (pick far 3 0))) 0 →
        StepFree s m line
    go false gone far e₁ e₂ e₃ none = absurd (omega (arith, none))
    go true true far e₁ e₂ e₃ none = absurd (omega (arith, none))
    go true false true e₁ e₂ e₃ none = absurd (omega (arith, none))
    go true false false e₁ e₂ e₃ none = record { whole = eqb-true _ _ e₁; none_withdrawn = e₂; near = ltb-false _ _ e₃ }

-- a run
pub record Free (s : State) (m : List ℕ) (given : Given) (budget : ℕ) : Type 0 where
  pub whole : length m ≡ memory_size
  pub good : accepted record_limit given.cycles given.lines ≡ true
  pub none_withdrawn : any_withdrawn given.lines ≡ false
  pub small : budget ≤ budget_limit
  pub near : s.clock + budget ≤ clock_limit

pub is_free : (s : State) (m : List ℕ) (given : Given) (budget : ℕ) → run_refusal s m given budget ≡ 0 → Free s m given budget
is_free s m given budget =
    go (eqb (length m) memory_size) (accepted record_limit given.cycles given.lines) (any_withdrawn given.lines)
    (ltb budget_limit budget) (ltb clock_limit (s.clock + budget)) refl refl refl refl refl
  where
    go :
        (whole good gone large far : Bool) →
        eqb (length m) memory_size ≡ whole →
        accepted record_limit given.cycles given.lines ≡ good →
        any_withdrawn given.lines ≡ gone →
        ltb budget_limit budget ≡ large →
        ltb clock_limit (s.clock + budget) ≡ far →
        ◌≡◌ {A = ℕ} (pick (not whole) 1 (pick (not good) 2 (pick gone 15 (pick (large || far) 3 0)))) 0 →
        Free s m given budget
    go false good gone large far e₁ e₂ e₃ e₄ e₅ none = absurd (omega (arith, none))
    go true false gone large far e₁ e₂ e₃ e₄ e₅ none = absurd (omega (arith, none))
    go true true true large far e₁ e₂ e₃ e₄ e₅ none = absurd (omega (arith, none))
    go true true false true far e₁ e₂ e₃ e₄ e₅ none = absurd (omega (arith, none))
    go true true false false true e₁ e₂ e₃ e₄ e₅ none = absurd (omega (arith, none))
    go true true false false false e₁ e₂ e₃ e₄ e₅ none =
        record { whole = eqb-true _ _ e₁; good = e₂; none_withdrawn = e₃; small = ltb-false _ _ e₄; near = ltb-false _ _ e₅ }

-- and it is enough
pub free_enough : {s : State} {m : List ℕ} {given : Given} {budget : ℕ} → Free s m given budget → run_refusal s m given budget ≡ 0
free_enough f = rw (eq-eqb _ _ f.whole, f.good, f.none_withdrawn, le-ltb _ _ f.small, le-ltb _ _ f.near)
