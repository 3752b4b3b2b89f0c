-- A single step is the loop with one boundary. Assumes nothing.
use Prim.Native.Nat.{ℕ, ◌+◌, ◌≤◌}
use native.Mathlib.Omega.{arith}
use native.Mathlib.Decide.{ℕ_discrete}
use mathlib.Core.Path.{◌≡◌, sym, ◌∙◌, ap}
use mathlib.Core.List.{List, [], ◌∷◌}
use borrow.Author.Tests.{le-leb}
use Rattle.memory.specs.Memory.{committed, AreBytes}
use Rattle.memory.proofs.Laws.{store_none}
use Rattle.state.specs.declared.State.{State}
use Rattle.state.specs.State.{with_clock}
use Rattle.schedule.specs.Schedule.{in_force, line_at}
use Rattle.effect.specs.declared.Effect.{Effect}
use Rattle.machine.specs.Names.{number_of}
use Rattle.machine.proofs.Laws.{number_zero}
use Rattle.turn.specs.Turn.{Turn, turn_of}
use Rattle.walk.proofs.Turns.{turn_idle}
use Rattle.walk.proofs.Bounds.{every_step_costs}
use Rattle.refusals.specs.Given.{Given, given_is}
use Rattle.steps.specs.End.{end_is, ends_here, after}
use Rattle.effect.specs.Effect.{acted}
use Rattle.steps.specs.Steps.{turn_end, turn_state, turn_memory, turn_cost, turn_at, goes_on}
use Rattle.steps.proofs.Loop.{run_stops, run_steps, run_over}

-- a step that is done costs at least one cycle
pub costs_one :
    (s : State) (m : List ℕ) (line : ℕ) →
    AreBytes m →
    number_of (turn_of s m line).reply ≡ 0 →
    1 ≤ (turn_of s m line).effect.cost
costs_one s m line bytes done = (every_step_costs s m line bytes (number_zero _ done)).0

-- the state with its own clock, and no cycle more
same_clock : (s : State) → with_clock s (s.clock + 0) ≡ s
same_clock s = ap (λ (c : ℕ). with_clock s c) (omega arith)

-- a turn that is not done leaves all as it was
pub turn_rests :
    (s : State) (m : List ℕ) (line : ℕ) →
    (number_of (turn_of s m line).reply ≡ 0 → ⊥) →
    turn_end s m line ≡ ends_here (number_of (turn_of s m line).reply) s m
turn_rests s m line other =
    let idle = turn_idle s m line other in
    λ i. end_is (number_of (turn_of s m line).reply) ((ap (acted s) idle ∙ same_clock s) i)
    ((ap (λ (e : Effect). committed m e.store) idle ∙ store_none m) i) (idle i).cost

-- the schedule of one record, in force from the start
abbrev pub always : ℕ → Given
always line = given_is (0 ∷ []) (line ∷ [])

always_in_force : (line clock : ℕ) → line_at (0 ∷ []) (line ∷ []) clock ≡ line
unfolding in_force
always_in_force line clock = rw (le-leb 0 clock (omega arith))

turn_then : (s : State) (m : List ℕ) (line : ℕ) → turn_at (always line) s m ≡ turn_of s m line
turn_then s m line = ap (turn_of s m) (always_in_force line s.clock)

-- one boundary, and more to spend than any step costs
pub one_step : (s : State) (m : List ℕ) (line : ℕ) → AreBytes m → goes_on 1 (always line) s m 13 ≡ turn_end s m line
one_step s m line bytes = go (ℕ_discrete (number_of (turn_of s m line).reply) 0)
  where
    is : turn_at (always line) s m ≡ turn_of s m line
    is = turn_then s m line

    go : Dec (number_of (turn_of s m line).reply ≡ 0) → goes_on 1 (always line) s m 13 ≡ turn_end s m line
    go (no other) =
        run_stops 0 (always line) s m 13 (rw is other)
        ∙ ap (λ (t : Turn). ends_here (number_of t.reply) s m) is
        ∙ sym (turn_rests s m line other)
    go (yes done) =
        let most = (every_step_costs s m line bytes (number_zero _ done)).1 in
        run_steps 0 (always line) s m 13 (rw is done) (rw is most)
        ∙ ap (after (turn_at (always line) s m).effect.cost) (run_over (always line) _ _ _)
        ∙ ap (λ (t : Turn). end_is 0 (acted s t.effect) (committed m t.effect.store) (t.effect.cost + 0)) is
        ∙ ap (λ (n : ℕ). end_is n (turn_state s m line) (turn_memory s m line) (turn_cost s m line + 0)) (sym done)
        ∙ ap (λ (n : ℕ). end_is (number_of (turn_of s m line).reply) (turn_state s m line) (turn_memory s m line) n) (omega arith)
