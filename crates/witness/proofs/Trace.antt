-- Steps one after another, computed once each, and that they are the steps of the theorems. Assumes nothing.
use Prim.Native.Nat.{ℕ, zero, suc, ◌<◌}
use native.Mathlib.Omega.{arith}
use mathlib.Core.Path.{◌≡◌, refl}
use mathlib.Core.Bool.{Bool, false}
use mathlib.Core.List.{List, [], ◌∷◌}
use lib.ListN.{get_or}
use Rattle.state.specs.declared.State.{State}
use Rattle.machine.specs.Names.{number_of}
use Rattle.refusals.specs.Given.{Given}
use Rattle.steps.specs.Steps.{turn_at, next_state, next_memory}
use Rattle.promises.specs.Steps.{after_steps}

-- what is seen of a step: the number of its reply; and PC, SP, the clock and X after it
pub record Seen : Type 0 where
  pub reply : ℕ
  pub pc : ℕ
  pub sp : ℕ
  pub clock : ℕ
  pub x : Bool

abbrev pub nothing : Seen
nothing = record { reply = 0; pc = 0; sp = 0; clock = 0; x = false }

module _ (given : Given) where
  -- steps one after another, each from where the one before it led, so that none is computed twice
  unfoldable pub trace : ℕ → State → List ℕ → List Seen
  trace zero s m = []
  trace (suc k) s m =
      let next = next_state given s m in
      record { reply = number_of (turn_at given s m).reply; pc = next.pc; sp = next.sp; clock = next.clock; x = next.flags.x }
      ∷ trace k next (next_memory given s m)

  -- the same step where the theorems have it
  abbrev pub seen : ℕ → State → List ℕ → Seen
  seen n s m =
      let here = after_steps n given s m in
      let next = (after_steps (suc n) given s m).state in
      record {
        reply = number_of (turn_at given here.state here.memory).reply;
        pc = next.pc;
        sp = next.sp;
        clock = next.clock;
        x = next.flags.x;
      }

  pub seen_in : (n k : ℕ) (s : State) (m : List ℕ) → n < k → seen n s m ≡ get_or (trace k s m) n nothing
  unfolding trace after_steps
  seen_in n zero s m h = absurd (omega (arith, h))
  seen_in zero (suc k) s m h = refl
  seen_in (suc n) (suc k) s m h = seen_in n k (next_state given s m) (next_memory given s m) (omega (arith, h))
