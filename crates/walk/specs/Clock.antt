-- The clock and a turn: no turn moves it, and none reads it. The laws are proved under the same names in proofs/Clock.antt.
use Rattle.std.specs.Prelude.{ℕ, ◌≡◌, List}
use Rattle.state.specs.declared.State.{State}
use Rattle.state.specs.State.{with_clock}
use Rattle.decode.specs.declared.Decoded.{Decoded}
use Rattle.effect.specs.declared.Effect.{Effect}
use Rattle.effect.specs.Effect.{writes}
use Rattle.turn.specs.Turn.{turn_is, executed, turn_of}

-- No turn moves the clock: its effect has the clock of the boundary. Only the act that follows moves it, by the turn's cost.
abbrev pub NoTurnMovesTheClock : Type 0
NoTurnMovesTheClock = (s : State) (m : List ℕ) (line : ℕ) → (turn_of s m line).effect.state.clock ≡ s.clock

-- an effect with another clock in its state
abbrev pub at_clock : Effect → ℕ → Effect
at_clock e c = writes (with_clock e.state c) e.cost e.store

-- No instruction reads the clock: with another clock it has the same effect, but for that clock.
abbrev pub NoInstructionReadsTheClock : Type 0
NoInstructionReadsTheClock =
    (s : State) (m : List ℕ) (line : ℕ) (d : Decoded) (c : ℕ) →
    executed (with_clock s c) m line d ≡ at_clock (executed s m line d) c

-- Nor does any turn: what comes next at a boundary is the same at every clock, under the same line byte. The schedule alone asks for the
-- clock.
abbrev pub NoTurnReadsTheClock : Type 0
NoTurnReadsTheClock =
    (s : State) (m : List ℕ) (line c : ℕ) →
    turn_of (with_clock s c) m line ≡ turn_is (turn_of s m line).reply (at_clock (turn_of s m line).effect c)
