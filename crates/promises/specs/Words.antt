-- What every step keeps: the registers hold what they have room for, and the memory holds bytes. Each law is proved under the same
-- name in proofs/Words.antt.
use Rattle.std.specs.Prelude.{ℕ, ◌<◌, List}
use Rattle.memory.specs.Memory.{bytes_stored, AreBytes}
use Rattle.state.specs.declared.State.{State}
use Rattle.effect.specs.declared.Effect.{Effect}
use Rattle.turn.specs.Turn.{turn_of}
use Rattle.steps.specs.Steps.{turn_state, turn_memory}
use Rattle.walk.specs.Words.{Words}

-- an effect leaves bytes and words in the registers, and stores bytes from an address on
pub record LeavesWords (e : Effect) : Type 0 where
  pub registers : Words e.state
  pub address : e.store.at < 65536
  pub bytes : AreBytes (bytes_stored e.store)

-- from such registers and a memory of bytes every step does
abbrev pub EveryStepKeepsWords : Type 0
EveryStepKeepsWords = (s : State) (m : List ℕ) (line : ℕ) → Words s → AreBytes m → LeavesWords (turn_of s m line).effect

-- and so the next boundary has such registers and such a memory
abbrev pub EveryBoundaryHasWords : Type 0
EveryBoundaryHasWords =
    (s : State) (m : List ℕ) (line : ℕ) → Words s → AreBytes m → Words (turn_state s m line) × AreBytes (turn_memory s m line)
