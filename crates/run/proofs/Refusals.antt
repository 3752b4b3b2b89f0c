-- What a step and a run are where they are refused, and where they are not. Assumes nothing.
use Prim.Native.Nat.{ℕ, suc}
use native.Mathlib.Omega.{arith}
use mathlib.Core.Path.{◌≡◌}
use mathlib.Core.List.{List}
use borrow.Author.Tests.{eq-eqb, ne_eqb}
use Rattle.state.specs.declared.State.{State}
use Rattle.refusals.specs.Given.{Given}
use Rattle.refusals.specs.declared.Refusal.{Refusal}
use Rattle.refusals.specs.declared.Refusal.TheVariants.{WrongMemory, WrongSchedule, WrongLine, PastLimit}
use Rattle.refusals.specs.Refusals.{refusal, refusal_number, run_refusal}
use Rattle.refusals.proofs.Laws.{Free, free_enough}
use Rattle.steps.specs.End.{ends_here}
use Rattle.steps.specs.Steps.{turn_end}
use Rattle.run.specs.Step.{step_of}
use Rattle.steps.specs.Steps.{goes_on}
use Rattle.run.specs.Run.{run_of}

-- no refusal is 0
pub refused_some : (r : Refusal) → refusal_number r ≡ 0 → ⊥
refused_some WrongMemory e = omega (arith, e)
refused_some WrongSchedule e = omega (arith, e)
refused_some WrongLine e = omega (arith, e)
refused_some PastLimit e = omega (arith, e)

-- a step
pub step_refused : (s : State) (m : List ℕ) (line : ℕ) → (refusal s m line ≡ 0 → ⊥) → step_of s m line ≡ ends_here (refusal s m line) s m
unfolding step_of
step_refused s m line other = rw (ne_eqb _ _ other)

pub step_taken : (s : State) (m : List ℕ) (line : ℕ) → refusal s m line ≡ 0 → step_of s m line ≡ turn_end s m line
unfolding step_of
step_taken s m line free = rw (eq-eqb _ _ free)

-- a run
pub run_refused :
    (s : State) (m : List ℕ) (given : Given) (budget : ℕ) →
    (run_refusal s m given budget ≡ 0 → ⊥) →
    run_of s m given budget ≡ ends_here (run_refusal s m given budget) s m
unfolding run_of
run_refused s m given budget other = rw (ne_eqb _ _ other)

pub run_taken :
    (s : State) (m : List ℕ) (given : Given) (budget : ℕ) →
    run_refusal s m given budget ≡ 0 →
    run_of s m given budget ≡ goes_on (suc budget) given s m budget
unfolding run_of
run_taken s m given budget free = rw (eq-eqb _ _ free)

-- and what is known where it is not refused is enough
pub run_free :
    {s : State} {m : List ℕ} {given : Given} {budget : ℕ} →
    Free s m given budget →
    run_of s m given budget ≡ goes_on (suc budget) given s m budget
run_free {s} {m} {given} {budget} f = run_taken s m given budget (free_enough f)
