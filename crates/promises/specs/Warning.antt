-- The warning is never late (the third demand). Proved under the same names in proofs/Warning.antt, and `NoBadLineInForce` in
-- proofs/BadLines.antt.
use Rattle.std.specs.Prelude.{ℕ, suc, ◌+◌, ◌<◌, ◌≤◌, ◌≡◌, true, false, List, length}
use Rattle.word.specs.Word.{bit_of}
use Rattle.memory.specs.Memory.{word_at, AreBytes}
use Rattle.state.specs.declared.State.{State}
use Rattle.machine.specs.Names.{number_of}
use Rattle.machine.specs.Reset.{reset_of}
use Rattle.requests.specs.Requests.{allowed_line}
use Rattle.refusals.specs.Given.{Given, line_in}
use Rattle.refusals.specs.Refusals.{run_refusal}
use Rattle.steps.specs.End.{End}
use Rattle.steps.specs.Steps.{turn_at}
use Rattle.run.specs.Run.{run_of}
use Rattle.promises.specs.Steps.{after_steps, IsOfSteps, OneAfterAnother}
use Rattle.promises.specs.Frame.{FrameAt}
use Rattle.promises.specs.Replies.{BadLine}

-- the state and the memory at boundary n of a run that starts from reset; boundary 0 is where it starts
abbrev pub state_at : ℕ → List ℕ → Given → State
state_at n m given = (after_steps n given (reset_of m) m).state

abbrev pub memory_at : ℕ → List ℕ → Given → List ℕ
memory_at n m given = (after_steps n given (reset_of m) m).memory

-- XIRQ, line 0, is up from cycle T through cycle T + 21
abbrev pub StaysUp : ℕ → Given → Type 0
StaysUp T given = (t : ℕ) → T ≤ t → t ≤ T + 21 → bit_of 0 (line_in given t) ≡ true

-- boundary n is the first from cycle T on
abbrev pub FirstFrom : ℕ → ℕ → List ℕ → Given → Type 0
FirstFrom T n m given =
    (T ≤ (state_at n m given).clock) × ((k : ℕ) → k < n → (state_at k m given).clock < T)

-- no boundary before boundary n stops the run by an opcode or a postbyte
abbrev pub NoStopBefore : ℕ → List ℕ → Given → Type 0
NoStopBefore n m given =
    (k : ℕ) → k < n → number_of (turn_at given (state_at k m given) (memory_at k m given)).reply ≡ 0

-- What the demand supposes of cycle T and boundary n: XIRQ rises at T and stays up, n is the first boundary from T on, the mask bit X is
-- clear there, and the machine stops before it at none. (The last is a clause of the demand, and so it is one here; it follows from the
-- second: `NoStopBeforeTheFirst`.)
pub record Rises (T n : ℕ) (m : List ℕ) (given : Given) : Type 0 where
  pub up : StaysUp T given
  pub first : FirstFrom T n m given
  pub clear : (state_at n m given).flags.x ≡ false
  pub on : NoStopBefore n m given

-- XIRQ is entered at boundary n, and the entry ends by T + 21. Then PC is the word that the XIRQ vector held just before, X and I are set,
-- and the nine bytes at SP hold the registers that were interrupted.
pub record Enters (T n : ℕ) (m : List ℕ) (given : Given) : Type 0 where
  pub entered : allowed_line (state_at n m given).flags (line_in given (state_at n m given).clock) ≡ 0
  pub by : (state_at (suc n) m given).clock ≤ T + 21
  pub pc : (state_at (suc n) m given).pc ≡ word_at (memory_at n m given) 0xFFF4
  pub x : (state_at (suc n) m given).flags.x ≡ true
  pub i : (state_at (suc n) m given).flags.i ≡ true
  pub frame : FrameAt (memory_at (suc n) m given) (state_at (suc n) m given).sp (state_at n m given)

-- Start from reset with a memory of 65,536 bytes and any schedule, and take step after step. At whatever cycle T XIRQ rises, it is
-- entered at the first boundary from T on, and in time.
abbrev pub TheWarningAtEveryCycle : Type 0
TheWarningAtEveryCycle =
    (T n : ℕ) (m : List ℕ) (given : Given) →
    AreBytes m →
    length m ≡ 65536 →
    Rises T n m given →
    Enters T n m given

-- and the run, or the runs, that end so take that step, however many steps they take (`ARunIsItsSteps`, `RunsGoOn`: there is such a
-- number)
pub record Warned (T n : ℕ) (m : List ℕ) (given : Given) (room : ℕ) (e : End) : Type 0 where
  pub enters : Enters T n m given
  pub taken : (steps : ℕ) → IsOfSteps steps (reset_of m) m given room e → n < steps

-- Start from reset with any accepted memory and schedule. Let XIRQ be up from cycle T through cycle T + 21. If the mask bit X is clear
-- at the first step boundary from T on, the run does not stop before it, and the clock may reach T + 21, then the machine is warned.
abbrev pub TheWarningIsNeverLate : Type 0
TheWarningIsNeverLate =
    (T n : ℕ) (m : List ℕ) (given : Given) (budget : ℕ) →
    AreBytes m →
    run_refusal (reset_of m) m given budget ≡ 0 →
    Rises T n m given →
    T + 21 ≤ budget →
    Warned T n m given budget (run_of (reset_of m) m given budget)

-- The same of runs one after another, budgets as the caller likes: so of every cycle that a machine's clock can come to.
abbrev pub TheWarningAcrossRuns : Type 0
TheWarningAcrossRuns =
    (T n : ℕ) (m : List ℕ) (given : Given) (room : ℕ) (e : End) →
    AreBytes m →
    OneAfterAnother (reset_of m) m given room e →
    Rises T n m given →
    T + 21 ≤ room →
    Warned T n m given room e

-- The runs of these two theorems are not refused, so no line byte that is ever in force in them has bit 6 or 7: that the demand is said of
-- schedules without these bits is what `run_refusal` says, and no clause of its own.
abbrev pub NoBadLineInForce : Type 0
NoBadLineInForce =
    (s : State) (m : List ℕ) (given : Given) (budget : ℕ) →
    run_refusal s m given budget ≡ 0 →
    (clock : ℕ) →
    BadLine (line_in given clock) →
    ⊥

-- a machine that has stopped stays where it is, and so comes to no later cycle
abbrev pub NoStopBeforeTheFirst : Type 0
NoStopBeforeTheFirst = (T n : ℕ) (m : List ℕ) (given : Given) → FirstFrom T n m given → NoStopBefore n m given

-- A first boundary from T on is there for every T that the runs may go 12 cycles past, where they end with 0, and not by a stop. So none
-- of these theorems is empty for a given T.
abbrev pub ThereIsAFirst : Type 0
ThereIsAFirst =
    (T : ℕ) (m : List ℕ) (given : Given) (room : ℕ) (e : End) →
    AreBytes m →
    OneAfterAnother (reset_of m) m given room e →
    e.reply ≡ 0 →
    T + 12 ≤ room →
    (n : ℕ) × FirstFrom T n m given
