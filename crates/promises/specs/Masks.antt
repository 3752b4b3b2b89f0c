-- What every step keeps of the mask X and of the waiting flag. Each law is proved under the same name in proofs/Masks.antt, and
-- `XStaysClearAlongEveryRun` in proofs/Boundaries.antt.
use Rattle.std.specs.Prelude.{ℕ, ◌<◌, ◌≤◌, ◌≡◌, true, false, List}
use Rattle.memory.specs.Memory.{no_store, store_nine}
use Rattle.state.specs.declared.State.{State}
use Rattle.frames.specs.Frames.{frame_of}
use Rattle.machine.specs.Names.{no_line}
use Rattle.requests.specs.Requests.{allowed_line, line_after_pull}
use Rattle.turn.specs.Turn.{turn_of}
use Rattle.refusals.specs.Given.{Given, line_in}
use Rattle.promises.specs.Steps.{after_steps}

-- X, once it is clear, stays clear, unless the step is an entry or the end of a wait by line 0, XIRQ
abbrev pub XStaysClear : Type 0
XStaysClear =
    (s : State) (m : List ℕ) (line : ℕ) →
    (allowed_line s.flags line ≡ 0 → ⊥) →
    s.flags.x ≡ false →
    (turn_of s m line).effect.state.flags.x ≡ false

-- RTI, which is done where no request is entered, takes XIRQ only if X was set where it began
abbrev pub RtiTakesXirqWithXSet : Type 0
RtiTakesXirqWithXSet =
    (s : State) (m : List ℕ) (line : ℕ) →
    no_line ≤ allowed_line s.flags line →
    line_after_pull s m line ≡ 0 →
    s.flags.x ≡ true

-- XIRQ is entered, or ends a wait, at boundary k of a run
abbrev pub XirqEnteredAt : ℕ → State → List ℕ → Given → Type 0
XirqEnteredAt k s m given =
    allowed_line (after_steps k given s m).state.flags (line_in given (after_steps k given s m).state.clock) ≡ 0

-- and so along every run: from boundary k, where X is clear, to boundary n, if XIRQ is entered at none between them
abbrev pub XStaysClearAlongEveryRun : Type 0
XStaysClearAlongEveryRun =
    (s : State) (m : List ℕ) (given : Given) (k n : ℕ) →
    k ≤ n →
    (after_steps k given s m).state.flags.x ≡ false →
    ((j : ℕ) → k ≤ j → j < n → XirqEnteredAt j s m given → ⊥) →
    (after_steps n given s m).state.flags.x ≡ false

-- where a step makes the machine wait, it has stored the frame of the waiting machine's registers at its SP, as WAI does
abbrev pub OnlyWaiWaits : Type 0
OnlyWaiWaits =
    (s : State) (m : List ℕ) (line : ℕ) →
    s.standing.waiting ≡ false →
    (turn_of s m line).effect.state.standing.waiting ≡ true →
    (turn_of s m line).effect.store
    ≡ store_nine (turn_of s m line).effect.state.sp (frame_of (turn_of s m line).effect.state)

-- a machine that waits and goes on waiting keeps its state and stores nothing
abbrev pub AWaitKeeps : Type 0
AWaitKeeps =
    (s : State) (m : List ℕ) (line : ℕ) →
    s.standing.waiting ≡ true →
    (turn_of s m line).effect.state.standing.waiting ≡ true →
    ((turn_of s m line).effect.state ≡ s) × ((turn_of s m line).effect.store ≡ no_store)
