-- A state and its record say the same. Each law is proved under the same name in proofs/Again.antt.
use Rattle.std.specs.Prelude.{ℕ, ◌≤◌, ◌≡◌, List, ◌++◌, length, take, drop}
use Rattle.state.specs.declared.State.{State}
use Rattle.memory.specs.Memory.{AreBytes}
use Rattle.packing.specs.Bytes.{byte_in, record_size, waiting_place, reserved_place, reserved_bytes, state_of, bytes_of}

-- a state, taken to its record and back
abbrev pub StateAgain : Type 0
StateAgain = (s : State) (cycles : ℕ) → state_of (bytes_of s cycles) ≡ s

-- bytes that are a state record: so many, the waiting flag is 0 or 1, and the reserved bytes are 0
pub record IsRecord (r : List ℕ) : Type 0 where
  pub whole : length r ≡ record_size
  pub flag : byte_in r waiting_place ≤ 1
  pub reserved : drop reserved_place r ≡ reserved_bytes

-- the state's bytes of a record: all but the cycles used
abbrev pub state_bytes : List ℕ → List ℕ
state_bytes r = take 16 r ++ drop reserved_place r

-- the state's bytes of a record, taken to the state and back
abbrev pub BytesAgain : Type 0
BytesAgain = (r : List ℕ) (cycles : ℕ) → AreBytes r → IsRecord r → state_bytes (bytes_of (state_of r) cycles) ≡ state_bytes r
