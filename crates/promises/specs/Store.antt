-- A step changes no byte but those of its one store. Proved under the same name in proofs/Store.antt.
use Rattle.std.specs.Prelude.{ℕ, ◌<◌, ◌≡◌, List, ltb, length, get_or}
use Rattle.word.specs.Word.{pick, minus_w}
use Rattle.memory.specs.Memory.{byte_at, bytes_stored, AreBytes}
use Rattle.state.specs.declared.State.{State}
use Rattle.turn.specs.Turn.{turn_of}
use Rattle.refusals.specs.Refusals.{refusal}
use Rattle.run.specs.Step.{step_of}
use Rattle.walk.specs.Words.{Words}

-- At every address the memory after a step has the byte of the step's store, where the address is in it, and else the byte that was
-- there.
abbrev pub OnlyTheStore : Type 0
OnlyTheStore =
    (s : State) (m : List ℕ) (line a : ℕ) →
    Words s →
    AreBytes m →
    length m ≡ 65536 →
    refusal s m line ≡ 0 →
    a < 65536 →
    byte_at (step_of s m line).memory a
    ≡ pick (ltb (minus_w a (turn_of s m line).effect.store.at) (length (bytes_stored (turn_of s m line).effect.store)))
    (get_or (bytes_stored (turn_of s m line).effect.store) (minus_w a (turn_of s m line).effect.store.at) 0)
    (byte_at m a)
