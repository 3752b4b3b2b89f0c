-- Steps taken one after another, each under the line byte in force at its boundary's clock (docs/MACHINE.md, "Numbered replies",
-- "Requests").
use Rattle.std.specs.Prelude.{ℕ, zero, suc, ◌-◌, not, List, ltb, eqb}
use Rattle.word.specs.Word.{pick}
use Rattle.memory.specs.Memory.{committed}
use Rattle.state.specs.declared.State.{State}
use Rattle.effect.specs.Effect.{acted}
use Rattle.machine.specs.Names.{number_of}
use Rattle.refusals.specs.Given.{Given, line_in}
use Rattle.turn.specs.Turn.{Turn, turn_of}
use Rattle.steps.specs.End.{End, end_is, ends_here, after}

-- what a turn leaves: its effect is acted on, and its store is made
abbrev pub turn_cost : State → List ℕ → ℕ → ℕ
turn_cost s m line = (turn_of s m line).effect.cost

abbrev pub turn_state : State → List ℕ → ℕ → State
turn_state s m line = acted s (turn_of s m line).effect

abbrev pub turn_memory : State → List ℕ → ℕ → List ℕ
turn_memory s m line = committed m (turn_of s m line).effect.store

abbrev pub turn_end : State → List ℕ → ℕ → End
turn_end s m line = end_is (number_of (turn_of s m line).reply) (turn_state s m line) (turn_memory s m line) (turn_cost s m line)

-- the turn at a boundary, under the line byte in force at its clock, and the next boundary's state and memory
abbrev pub turn_at : Given → State → List ℕ → Turn
turn_at given s m = turn_of s m (line_in given s.clock)

abbrev pub next_state : Given → State → List ℕ → State
next_state given s m = turn_state s m (line_in given s.clock)

abbrev pub next_memory : Given → State → List ℕ → List ℕ
next_memory given s m = turn_memory s m (line_in given s.clock)

-- The run from a boundary on, with so many cycles left to spend. 4 and 5 end it, and then a step that costs more than is left; else
-- the step is taken whole. The first number bounds the boundaries: a step costs at least 1, so one more than the cycles left will do.
unfoldable pub goes_on : ℕ → Given → State → List ℕ → ℕ → End
goes_on zero given s m left = ends_here 0 s m
goes_on (suc boundaries) given s m left =
    let reply = number_of (turn_at given s m).reply in
    let cost = (turn_at given s m).effect.cost in
    pick (not (eqb reply 0)) (ends_here reply s m)
    (pick (ltb left cost) (ends_here 0 s m)
    (after cost (goes_on boundaries given (next_state given s m) (next_memory given s m) (left - cost))))
