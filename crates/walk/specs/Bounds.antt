-- What every step keeps to: it costs 1 to 13 cycles, and its store is short and whole. Each law is proved under the same name in
-- proofs/Bounds.antt.
use Rattle.std.specs.Prelude.{ℕ, ◌≤◌, ◌≡◌, List, length}
use Rattle.memory.specs.Memory.{AreBytes, IsWhole, bytes_stored}
use Rattle.state.specs.declared.State.{State}
use Rattle.machine.specs.declared.Reply.TheVariants.{Done}
use Rattle.turn.specs.Turn.{turn_of}
use Rattle.walk.specs.Words.{Words}

-- a step that is done costs 1 to 13 cycles
abbrev pub EveryStepCosts : Type 0
EveryStepCosts =
    (s : State) (m : List ℕ) (line : ℕ) →
    AreBytes m →
    (turn_of s m line).reply ≡ Done →
    (1 ≤ (turn_of s m line).effect.cost) × ((turn_of s m line).effect.cost ≤ 13)

-- the store of a step is a run of at most nine bytes
abbrev pub EveryStoreIsShort : Type 0
EveryStoreIsShort = (s : State) (m : List ℕ) (line : ℕ) → AreBytes m → length (bytes_stored (turn_of s m line).effect.store) ≤ 9

-- and none of its number is cut off, where the registers and the memory hold what they have room for
abbrev pub EveryStoreIsWhole : Type 0
EveryStoreIsWhole = (s : State) (m : List ℕ) (line : ℕ) → Words s → AreBytes m → IsWhole (turn_of s m line).effect.store
