-- What a step does: the state after it, its cost, and the one run of bytes that it stores.
use Rattle.std.specs.Prelude.{ℕ, ◌+◌}
use Rattle.memory.specs.declared.Store.{Store}
use Rattle.memory.specs.Memory.{no_store}
use Rattle.state.specs.declared.State.{State}
use Rattle.state.specs.State.{with_clock}
use Rattle.effect.specs.declared.Effect.{Effect}

-- a step that stores
abbrev pub writes : State → ℕ → Store → Effect
writes s cost w = record { state = s; cost = cost; store = w }

-- a step that stores nothing
abbrev pub quiet : State → ℕ → Effect
quiet s cost = writes s cost no_store

-- the state after an effect: the clock has grown by its cost
abbrev pub acted : State → Effect → State
acted s e = with_clock e.state (s.clock + e.cost)
