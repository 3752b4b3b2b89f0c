-- An RTI that takes a request, beside RTI and an ordinary entry: 10 cycles for 17 (docs/MACHINE.md, "Requests"; 002, 7.4.5, p. 7-5). Each
-- theorem is proved under the same name in proofs/BackToBack.antt.
use Rattle.std.specs.Prelude.{ℕ, ◌+◌, ◌/◌, ◌%◌, ◌<◌, ◌≤◌, ◌≡◌, false, List, length}
use Rattle.memory.specs.Memory.{byte_at, AreBytes}
use Rattle.state.specs.declared.State.{State}
use Rattle.state.specs.State.{with_clock}
use Rattle.machine.specs.declared.Reply.TheVariants.{Done}
use Rattle.machine.specs.Names.{no_line}
use Rattle.requests.specs.Requests.{allowed_line, line_after_pull, entry_effect}
use Rattle.turn.specs.Turn.{turn_is, turn_of}
use Rattle.refusals.specs.Given.{Given, line_in}
use Rattle.steps.specs.Steps.{turn_state, turn_memory, turn_at, next_state, next_memory}
use Rattle.walk.specs.Words.{Words}
use Rattle.promises.specs.Plain.{At}

-- RTI, 0B, is what is done at a boundary, and under this line byte it takes a request: none is entered before it
pub record RtiTakes (s : State) (m : List ℕ) (line : ℕ) : Type 0 where
  pub at : At s m 0x0B
  pub before : no_line ≤ allowed_line s.flags line
  pub after : line_after_pull s m line < no_line

-- RTI with no line up, and the step that follows it under the line byte: the state and the memory of the boundary between them, and what
-- the second step leaves
abbrev pub between : State → List ℕ → State
between s m = turn_state s m 0

abbrev pub memory_between : State → List ℕ → List ℕ
memory_between s m = turn_memory s m 0

abbrev pub by_two : State → List ℕ → ℕ → State
by_two s m line = turn_state (between s m) (memory_between s m) line

abbrev pub memory_by_two : State → List ℕ → ℕ → List ℕ
memory_by_two s m line = turn_memory (between s m) (memory_between s m) line

-- What the one step leaves is what the two leave. Every register, SP, PC and every code; only the clock is another, 10 later and not 17.
-- The one step stores nothing. The two push the frame again over the one that was pulled: byte for byte the same, but for the byte of the
-- codes where the rule for X held back the X that was stacked.
pub record OneForTwo (s : State) (m : List ℕ) (line : ℕ) : Type 0 where
  pub once : (turn_of s m line).effect.cost ≡ 10
  pub first : (turn_of s m 0).effect.cost ≡ 8
  pub second : (turn_of (between s m) (memory_between s m) line).effect.cost ≡ 9
  pub entered :
      turn_of (between s m) (memory_between s m) line
      ≡ turn_is Done (entry_effect (between s m) (memory_between s m) (line_after_pull s m line))
  pub state : (clock : ℕ) → with_clock (turn_state s m line) clock ≡ with_clock (by_two s m line) clock
  pub memory : turn_memory s m line ≡ m
  pub elsewhere : (a : ℕ) → a < 65536 → (a ≡ s.sp → ⊥) → byte_at (memory_by_two s m line) a ≡ byte_at m a
  pub same_codes :
      (s.flags.x ≡ false → byte_at m s.sp / 64 % 2 ≡ 0) →
      byte_at (memory_by_two s m line) s.sp ≡ byte_at m s.sp
  pub less_x :
      s.flags.x ≡ false →
      byte_at m s.sp / 64 % 2 ≡ 1 →
      byte_at (memory_by_two s m line) s.sp + 64 ≡ byte_at m s.sp

abbrev pub BackToBack : Type 0
BackToBack =
    (s : State) (m : List ℕ) (line : ℕ) →
    Words s →
    AreBytes m →
    length m ≡ 65536 →
    RtiTakes s m line →
    OneForTwo s m line

-- In a run it is the line byte in force where RTI begins that counts. Where that allows no request after the pull, RTI is of 8; and a
-- request that is up where it ends is an ordinary entry.
pub record RtiInARun (s : State) (m : List ℕ) (given : Given) : Type 0 where
  pub taken : line_after_pull s m (line_in given s.clock) < no_line → (turn_at given s m).effect.cost ≡ 10
  pub plain : no_line ≤ line_after_pull s m (line_in given s.clock) → (turn_at given s m).effect.cost ≡ 8
  pub later :
      no_line ≤ line_after_pull s m (line_in given s.clock) →
      line_after_pull s m (line_in given (s.clock + 8)) < no_line →
      turn_at given (next_state given s m) (next_memory given s m)
      ≡ turn_is Done
      (entry_effect (next_state given s m) (next_memory given s m) (line_after_pull s m (line_in given (s.clock + 8))))

abbrev pub TheLinesWhereRtiBegins : Type 0
TheLinesWhereRtiBegins =
    (s : State) (m : List ℕ) (given : Given) →
    At s m 0x0B →
    no_line ≤ allowed_line s.flags (line_in given s.clock) →
    RtiInARun s m given
