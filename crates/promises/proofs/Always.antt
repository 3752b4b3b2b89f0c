-- The machine answers, ends, and changes nothing else: on the definitions alone. Assumes nothing.
use Prim.Native.Nat.{ℕ, zero, suc, ◌-◌, ◌<◌, ◌≤◌}
use native.Mathlib.Omega.{arith}
use mathlib.Core.Path.{◌≡◌, refl}
use mathlib.Core.Bool.{Bool, true, false, not}
use mathlib.Core.List.{List}
use lib.Dec.{ltb, eqb}
use lib.ListN.{length}
use Rattle.word.specs.Word.{pick}
use Rattle.state.specs.declared.State.{State}
use Rattle.word.proofs.Laws.{both}
use Rattle.opcodes.specs.Rules.{among}
use Rattle.schedule.specs.Schedule.{accepted, any_withdrawn}
use Rattle.machine.specs.declared.Reply.{Reply}
use Rattle.machine.specs.declared.Reply.TheVariants.{Done, WrongMemory, WrongSchedule, PastLimit, Stopped, ReservedPostbyte, WrongLine}
use Rattle.machine.specs.Names.{number_of, memory_size, record_limit}
use Rattle.memory.specs.Memory.{AreBytes}
use Rattle.refusals.specs.Given.{Given, line_in}
use Rattle.steps.specs.End.{End, ends_here}
use Rattle.refusals.specs.Refusals.{refusal, past_limit, run_refusal}
use Rattle.steps.specs.Steps.{turn_end}
use Rattle.run.specs.Step.{step_of}
use Rattle.steps.specs.Steps.{goes_on, turn_at, next_state, next_memory}
use Rattle.run.specs.Run.{run_of}
use Rattle.run.proofs.Refusals.{run_refused}
use Rattle.run.proofs.OneStep.{costs_one, turn_rests}
use Rattle.walk.specs.Words.{Words}
use Rattle.promises.specs.Steps.{after_steps}
use Rattle.promises.specs.Always.{replies, EveryRunReplies, EveryRunEnds, AStepNotDoneChangesNothing, ARefusedRunChangesNothing}
use Rattle.promises.proofs.Words.{every_boundary_has_words}

-- an end whose reply is one of the numbers
abbrev Replies : End → Type 0
Replies e = among e.reply replies ≡ true

-- every reply has
numbered : (r : Reply) → among (number_of r) replies ≡ true
numbered Done = refl
numbered WrongMemory = refl
numbered WrongSchedule = refl
numbered PastLimit = refl
numbered Stopped = refl
numbered ReservedPostbyte = refl
numbered WrongLine = refl

goes_replies : (k : ℕ) (s : State) (m : List ℕ) (given : Given) (left : ℕ) → Replies (goes_on k given s m left)
unfolding goes_on
goes_replies zero s m given left = refl
goes_replies (suc k) s m given left =
    both Replies (not (eqb (number_of (turn_at given s m).reply) 0)) _ _ (numbered (turn_at given s m).reply)
    (both Replies (ltb left (turn_at given s m).effect.cost) _ _ refl
    (goes_replies k (next_state given s m) (next_memory given s m) given (left - (turn_at given s m).effect.cost)))

-- what is so of 0, 1, 2, 15 and 3 is so of what a run is refused with
pub of_refusal : (P : ℕ → Type 0) → P 0 → P 1 → P 2 → P 15 → P 3 → (s : State) (m : List ℕ) (given : Given) (budget : ℕ) → P (run_refusal s m given budget)
of_refusal P none memory schedule line limit s m given budget =
    both P (not (eqb (length m) memory_size)) _ _ memory
    (both P (not (accepted record_limit given.cycles given.lines)) _ _ schedule
    (both P (any_withdrawn given.lines) _ _ line (both P (past_limit s.clock budget) _ _ limit none)))

pub every_run_replies : EveryRunReplies
unfolding run_of
every_run_replies s m given budget =
    both Replies (eqb (run_refusal s m given budget) 0) _ _ (goes_replies (suc budget) s m given budget)
    (of_refusal (λ (n : ℕ). among n replies ≡ true) refl refl refl refl refl s m given budget)

-- steps that were done have used a cycle each
used_by :
    (n : ℕ) (s : State) (m : List ℕ) (given : Given) →
    Words s →
    AreBytes m →
    ((k : ℕ) → k < n → number_of (turn_at given (after_steps k given s m).state (after_steps k given s m).memory).reply ≡ 0) →
    n ≤ (after_steps n given s m).cycles
unfolding after_steps
used_by zero s m given w bytes done = omega arith
used_by (suc n) s m given w bytes done =
    let next = every_boundary_has_words s m (line_in given s.clock) w bytes in
    let rest = used_by n (next_state given s m) (next_memory given s m) given next.0 next.1 (λ k h. done (suc k) (omega (arith, h))) in
    let one = costs_one s m (line_in given s.clock) bytes (done 0 (omega arith)) in
    omega (arith, rest, one)

pub every_run_ends : EveryRunEnds
every_run_ends s m given budget steps w bytes is =
    let most = is.paid steps (omega arith) in
    let some = used_by steps s m given w bytes is.done in
    omega (arith, most, some)

pub a_step_not_done_changes_nothing : AStepNotDoneChangesNothing
unfolding step_of
a_step_not_done_changes_nothing s m line = go (eqb (refusal s m line) 0)
  where
    go :
        (b : Bool) →
        ((pick b (turn_end s m line) (ends_here (refusal s m line) s m)).reply ≡ 0 → ⊥) →
        pick b (turn_end s m line) (ends_here (refusal s m line) s m) ≡ ends_here (pick b (turn_end s m line) (ends_here (refusal s m line) s m)).reply s m
    go false other = refl
    go true other = turn_rests s m line other

pub a_refused_run_changes_nothing : ARefusedRunChangesNothing
a_refused_run_changes_nothing = run_refused
