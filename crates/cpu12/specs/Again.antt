-- A record that is not refused says what its state says, and a refusal changes neither the record nor the memory. Each law is proved
-- under the same name in proofs/Again.antt.
use Rattle.std.specs.Prelude.{ℕ, ◌≡◌, List}
use Rattle.memory.specs.Memory.{AreBytes}
use Rattle.refusals.specs.Refusals.{refusal, run_refusal}
use Rattle.refusals.specs.Given.{given_is}
use Rattle.table.specs.Records.{cycles_of, lines_of}
use Rattle.packing.specs.Bytes.{state_of, bytes_of, records_of}
use Rattle.packing.specs.Again.{state_bytes}
use Rattle.lent.specs.Lent.{record_refusal}
use Rattle.cpu12.specs.Doors.{Left, step_leaves, run_leaves}

-- the state's bytes of a record that is not refused, taken to the state and back
abbrev pub RecordAgain : Type 0
RecordAgain =
    (r : List ℕ) (cycles : ℕ) → AreBytes r → record_refusal r ≡ 0 → state_bytes (bytes_of (state_of r) cycles) ≡ state_bytes r

-- the state's bytes and the memory are left as they were lent
abbrev pub AsLent : Left → List ℕ → List ℕ → Type 0
AsLent l r m = (state_bytes l.state ≡ state_bytes r) × (l.memory ≡ m)

-- a step that the machine refuses leaves them so, and so does a run
abbrev pub RefusedStepKeeps : Type 0
RefusedStepKeeps = (r m : List ℕ) (line : ℕ) → AreBytes r → (refusal (state_of r) m line ≡ 0 → ⊥) → AsLent (step_leaves r m line) r m

abbrev pub RefusedRunKeeps : Type 0
RefusedRunKeeps =
    (r m schedule : List ℕ) (budget : ℕ) →
    AreBytes r →
    (run_refusal (state_of r) m (given_is (cycles_of (records_of schedule)) (lines_of (records_of schedule))) budget ≡ 0 → ⊥) →
    AsLent (run_leaves r m schedule budget) r m
