-- Every step costs what is tabled for it, on the definitions alone. Assumes nothing.
use Prim.Native.Nat.{ℕ, zero, suc, ◌+◌, ◌<◌}
use native.Mathlib.Omega.{arith}
use Rattle.std.proofs.Common.{Ok, Err}
use mathlib.Core.Path.{◌≡◌, refl, ◌∙◌}
use mathlib.Core.Bool.{Bool, true, false, ◌&&◌, ◌||◌}
use mathlib.Core.List.{List}
use lib.Dec.{ltb, eqb}
use borrow.Author.Tests.{eqb-false}
use Rattle.word.specs.Word.{pick}
use Rattle.state.specs.declared.State.{State}
use Rattle.opcodes.specs.declared.kind.ControlOp.TheVariants.{Rti}
use Rattle.opcodes.specs.Kind.{RTI, group_of, member_of, same, SHORT_BRANCHES, LONG_BRANCHES}
use Rattle.opcodes.specs.Rules.{stops_of}
use Rattle.codes.specs.Conditions.{condition_of}
use Rattle.decode.specs.declared.Decoded.{Decoded}
use Rattle.decode.specs.declared.Halt.TheVariants.{Stopped, Reserved}
use Rattle.decode.specs.Decode.{cell_at, after_opcode, reserved_at, fetched_of}
use Rattle.effect.specs.declared.Effect.{Effect}
use Rattle.effect.specs.Effect.{quiet}
use Rattle.frames.specs.Frames.{interrupt_effect, wait_effect, pulled_frame}
use Rattle.flow.specs.Branches.{short_effect, long_effect}
use Rattle.machine.specs.declared.Reply.TheVariants.{Done}
use Rattle.machine.specs.Names.{number_of, no_line, idle_cost}
use Rattle.machine.proofs.Laws.{number_zero}
use Rattle.requests.specs.Requests.{allowed_line, entry_effect, wake_effect, line_after_pull, rti_effect}
use Rattle.turn.specs.Turn.{controlled, executed, turn_is, instructed, turn_of}
use Rattle.walk.specs.Walk.{Before, IsBranch, Gives}
use Rattle.walk.specs.Walk.IsBranch.{short, long}
use Rattle.walk.specs.Walk.Gives.{stores, untaken, waits, takes}
use Rattle.walk.specs.Turns.{instruction_at}
use Rattle.walk.proofs.Bounds.{refused}
use Rattle.walk.proofs.Control.{same_control, not_control}
use Rattle.walk.proofs.Walk.{every_instruction_gives}
use Rattle.refusals.specs.Given.{Given}
use Rattle.refusals.specs.Refusals.{refusal}
use Rattle.steps.specs.End.{ends_here}
use Rattle.steps.specs.Steps.{turn_end, turn_at}
use Rattle.run.specs.Step.{step_of}
use Rattle.promises.specs.Steps.{after_steps}
use Rattle.promises.specs.Costs.{branch_of, figure_of, takes_a_request, tabled_instruction, step_cost, tabled_cost, tabled_sum, AStepCostsWhatIsTabled, ASingleStepUsesWhatIsTabled, ARunUsesWhatIsTabled}
use Rattle.promises.proofs.Boundaries.{one_on}

-- an instruction that is no branch and not RTI costs what was decoded
gives_cost :
    {b : Before} {e : Effect} →
    Gives b e →
    (IsBranch b.decoded → ⊥) →
    (b.decoded.kind ≡ RTI → ⊥) →
    e.cost ≡ b.decoded.cost
unfolding wait_effect
gives_cost (stores w run) other no-rti = refl
gives_cost (untaken w is) other no-rti = absurd (other is)
gives_cost (waits w run) other no-rti = refl
gives_cost (takes w is) other no-rti = absurd (no-rti is)

-- a group is not that of a test that failed
not_branch : (d : Decoded) → (group_of d.kind ≡ SHORT_BRANCHES → ⊥) → (group_of d.kind ≡ LONG_BRANCHES → ⊥) → IsBranch d → ⊥
not_branch d no_short no-long (short e) = no_short e
not_branch d no_short no-long (long e) = no-long e

-- one of two effects has the one or the other cost
picked_cost : (taken : Bool) (e e' : Effect) → (pick taken e e').cost ≡ pick taken e.cost e'.cost
picked_cost true e e' = refl
picked_cost false e e' = refl

-- an instruction that is not RTI costs what was decoded, a branch by whether it is taken
other_cost :
    (s : State) (m : List ℕ) (line : ℕ) (d : Decoded) →
    (d.kind ≡ RTI → ⊥) →
    (executed s m line d).cost ≡ figure_of (branch_of d.kind) (condition_of s.flags (member_of d.kind)) d.cost d.untaken
unfolding executed short_effect long_effect
other_cost s m line d no-rti = go (eqb (group_of d.kind) SHORT_BRANCHES) (eqb (group_of d.kind) LONG_BRANCHES) refl refl
  where
    go :
        (b c : Bool) → eqb (group_of d.kind) SHORT_BRANCHES ≡ b → eqb (group_of d.kind) LONG_BRANCHES ≡ c →
        (executed s m line d).cost ≡ figure_of (b || c) (condition_of s.flags (member_of d.kind)) d.cost d.untaken
    go true c is other = rw is (picked_cost (condition_of s.flags (member_of d.kind)) _ _)
    go false true other is = rw (other, is) (picked_cost (condition_of s.flags (member_of d.kind)) _ _)
    go false false no_short no-long =
        gives_cost (every_instruction_gives s m line d)
        (not_branch d (eqb-false (group_of d.kind) SHORT_BRANCHES no_short) (eqb-false (group_of d.kind) LONG_BRANCHES no-long))
        no-rti

-- RTI costs 10 where it takes a request, and else what was decoded
rti_cost :
    (s : State) (m : List ℕ) (line : ℕ) (d : Decoded) →
    d.kind ≡ RTI →
    (executed s m line d).cost ≡ pick (ltb (line_after_pull s m line) no_line) 10 d.cost
unfolding executed controlled rti_effect
rti_cost s m line d is = rw is (picked_cost (ltb (line_after_pull s m line) no_line) _ _)

executed_cost :
    (s : State) (m : List ℕ) (line : ℕ) (d : Decoded) →
    (executed s m line d).cost
    ≡ pick (same d.kind RTI && ltb (line_after_pull s m line) no_line) 10
    (figure_of (branch_of d.kind) (condition_of s.flags (member_of d.kind)) d.cost d.untaken)
executed_cost s m line d = go (same d.kind RTI) refl
  where
    go :
        (b : Bool) → same d.kind RTI ≡ b →
        (executed s m line d).cost
        ≡ pick (b && ltb (line_after_pull s m line) no_line) 10
        (figure_of (branch_of d.kind) (condition_of s.flags (member_of d.kind)) d.cost d.untaken)
    go true is =
        let rti : d.kind ≡ RTI = same_control d.kind Rti is in
        rti_cost s m line d rti ∙ rw rti
    go false is = other_cost s m line d (not_control d.kind Rti is)

-- what stands at PC
instructed_cost :
    (s : State) (m : List ℕ) (line : ℕ) →
    (instructed s m line (fetched_of m s.pc)).reply ≡ Done →
    (instructed s m line (fetched_of m s.pc)).effect.cost ≡ pick (takes_a_request s m line) 10 (tabled_instruction s m)
unfolding instructed fetched_of pulled_frame
instructed_cost s m line = go (stops_of (cell_at m s.pc)) (reserved_at m (cell_at m s.pc) (after_opcode m s.pc))
  where
    go :
        (st rs : Bool) →
        (instructed s m line (pick st (Err Stopped) (pick rs (Err Reserved) (Ok (instruction_at m s.pc))))).reply ≡ Done →
        (instructed s m line (pick st (Err Stopped) (pick rs (Err Reserved) (Ok (instruction_at m s.pc))))).effect.cost
        ≡ pick (takes_a_request s m line) 10 (tabled_instruction s m)
    go true rs done = absurd (refused (omega arith) done)
    go false true done = absurd (refused (omega arith) done)
    go false false done = executed_cost _ m line (instruction_at m s.pc)

pub a_step_costs_what_is_tabled : AStepCostsWhatIsTabled
unfolding turn_of wake_effect entry_effect interrupt_effect
a_step_costs_what_is_tabled s m line = go (ltb k no_line) s.standing.waiting
  where
    k : ℕ
    k = allowed_line s.flags line

    go :
        (b w : Bool) →
        (pick b (pick w (turn_is Done (wake_effect s m k)) (turn_is Done (entry_effect s m k)))
        (pick w (turn_is Done (quiet s idle_cost)) (instructed s m line (fetched_of m s.pc)))).reply ≡ Done →
        (pick b (pick w (turn_is Done (wake_effect s m k)) (turn_is Done (entry_effect s m k)))
        (pick w (turn_is Done (quiet s idle_cost)) (instructed s m line (fetched_of m s.pc)))).effect.cost
        ≡ step_cost b w (pick (takes_a_request s m line) 10 (tabled_instruction s m))
    go true true done = refl
    go true false done = refl
    go false true done = refl
    go false false done = instructed_cost s m line done

pub a_single_step_uses_what_is_tabled : ASingleStepUsesWhatIsTabled
unfolding step_of
a_single_step_uses_what_is_tabled s m line = go (eqb (refusal s m line) 0) refl
  where
    go :
        (b : Bool) → eqb (refusal s m line) 0 ≡ b →
        (pick b (turn_end s m line) (ends_here (refusal s m line) s m)).reply ≡ 0 →
        (pick b (turn_end s m line) (ends_here (refusal s m line) s m)).cycles ≡ tabled_cost s m line
    go true is done = a_step_costs_what_is_tabled s m line (number_zero _ done)
    go false is done = absurd (eqb-false _ _ is done)

-- steps that were done have used the sum of what is tabled for them
used_sum :
    (n : ℕ) (s : State) (m : List ℕ) (given : Given) →
    ((k : ℕ) → k < n → number_of (turn_at given (after_steps k given s m).state (after_steps k given s m).memory).reply ≡ 0) →
    (after_steps n given s m).cycles ≡ tabled_sum n given s m
unfolding tabled_sum after_steps
used_sum zero s m given done = refl
used_sum (suc n) s m given done =
    let before = used_sum n s m given (λ k h. done k (omega (arith, h))) in
    let last = a_step_costs_what_is_tabled _ _ _ (number_zero _ (done n (omega arith))) in
    (one_on n s m given).cycles_are ∙ (λ i. before i + last i)

pub a_run_uses_what_is_tabled : ARunUsesWhatIsTabled
a_run_uses_what_is_tabled s m given budget steps is = is.used ∙ used_sum steps s m given is.done
