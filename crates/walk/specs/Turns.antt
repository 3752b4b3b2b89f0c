-- The ways that a turn can go: six, and one of them is an instruction. A law of every turn is proved by cases on them, and of an
-- instruction it is asked of the effects that one can give (specs/Walk.antt).
use Rattle.std.specs.Prelude.{ℕ, ◌<◌, ◌≤◌, ◌≡◌, true, false, List}
use Rattle.state.specs.declared.State.{State}
use Rattle.state.specs.State.{with_pc}
use Rattle.opcodes.specs.Rules.{stops_of}
use Rattle.decode.specs.declared.Decoded.{Decoded}
use Rattle.decode.specs.Decode.{cell_at, after_opcode, reserved_at, decoded_of}
use Rattle.effect.specs.declared.Effect.{Effect}
use Rattle.effect.specs.Effect.{quiet}
use Rattle.machine.specs.declared.Reply.TheVariants.{Done, Stopped, ReservedPostbyte}
use Rattle.machine.specs.Names.{no_line, idle_cost}
use Rattle.requests.specs.Requests.{allowed_line, entry_effect, wake_effect}
use Rattle.turn.specs.Turn.{Turn, turn_is, turn_of}
use Rattle.walk.specs.Walk.{Before, before, Gives}

-- the instruction at an address
abbrev pub instruction_at : List ℕ → ℕ → Decoded
instruction_at m pc = decoded_of m pc (cell_at m pc) (after_opcode m pc)

-- it neither stops the machine nor has a reserved postbyte
pub record Runs (m : List ℕ) (pc : ℕ) : Type 0 where
  pub on : stops_of (cell_at m pc) ≡ false
  pub free : reserved_at m (cell_at m pc) (after_opcode m pc) ≡ false

-- what the instruction at PC begins with: PC goes past the whole of it first
abbrev pub at_pc : State → List ℕ → ℕ → Before
at_pc s m line = before (with_pc s (instruction_at m s.pc).next) m line (instruction_at m s.pc)

-- a line is to be entered, or none is
abbrev pub AnyUp : State → ℕ → Type 0
AnyUp s line = allowed_line s.flags line < no_line

abbrev pub NoneUp : State → ℕ → Type 0
NoneUp s line = no_line ≤ allowed_line s.flags line

-- Where a line is to be entered, a machine that waits ends its wait, and one that does not enters. Where none is, a machine that waits
-- idles; and else what stands at PC stops it, has a reserved postbyte, or is an instruction, which leaves one of its effects.
pub data Ways (s : State) (m : List ℕ) (line : ℕ) : Turn → Type 0 where
  wakes : AnyUp s line → s.standing.waiting ≡ true → Ways s m line (turn_is Done (wake_effect s m (allowed_line s.flags line)))
  enters : AnyUp s line → s.standing.waiting ≡ false → Ways s m line (turn_is Done (entry_effect s m (allowed_line s.flags line)))
  idles : NoneUp s line → s.standing.waiting ≡ true → Ways s m line (turn_is Done (quiet s idle_cost))
  stops : NoneUp s line → s.standing.waiting ≡ false → Ways s m line (turn_is Stopped (quiet s 0))
  reserves : NoneUp s line → s.standing.waiting ≡ false → Ways s m line (turn_is ReservedPostbyte (quiet s 0))
  runs :
      {e : Effect} → NoneUp s line → s.standing.waiting ≡ false → Runs m s.pc → Gives (at_pc s m line) e →
      Ways s m line (turn_is Done e)

-- the law, proved under the same name in proofs/Turns.antt: every turn goes one of these ways
abbrev pub EveryTurnGoes : Type 0
EveryTurnGoes = (s : State) (m : List ℕ) (line : ℕ) → Ways s m line (turn_of s m line)
