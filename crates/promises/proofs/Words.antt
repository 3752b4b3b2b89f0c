-- Every step leaves bytes and words in the registers and stores bytes, on the definitions alone. Assumes nothing.
use Prim.Native.Nat.{ℕ, zero, suc, ◌<◌}
use native.Mathlib.Omega.{arith}
use mathlib.Core.List.{List, [], ◌∷◌}
use lib.ListN.{set}
use Rattle.word.specs.Word.{plus_w}
use Rattle.memory.specs.Memory.{lowest_bytes, store_all, AreBytes}
use Rattle.memory.proofs.Laws.{stored_bytes}
use Rattle.state.specs.declared.State.{State}
use Rattle.state.proofs.Laws.{ccr_below}
use Rattle.effect.specs.declared.Effect.{Effect}
use Rattle.effect.specs.Effect.{quiet}
use Rattle.frames.specs.Frames.{frame_store, interrupt_effect, wait_effect}
use Rattle.requests.specs.Requests.{entry_effect, wake_effect}
use Rattle.turn.specs.Turn.{Turn}
use Rattle.walk.specs.Words.{Words}
use Rattle.walk.specs.Walk.{Before, Fits, Gives}
use Rattle.walk.specs.Walk.Gives.{stores, untaken, waits, takes}
use Rattle.walk.specs.Turns.{Ways}
use Rattle.walk.specs.Turns.Ways.{wakes, enters, idles, stops, reserves, runs}
use Rattle.walk.proofs.Registers.{Below, word_at_lem, set_sp, set_pc, set_flags, set_waiting_lem, set_clock}
use Rattle.walk.proofs.Settings.{held, word_in}
use Rattle.walk.proofs.Turns.{every_turn_goes, fits_at_pc}
use Rattle.promises.specs.Words.{LeavesWords, EveryStepKeepsWords, EveryBoundaryHasWords}

quiet_leaves : {s : State} {cost : ℕ} → Words s → LeavesWords (quiet s cost)
unfolding lowest_bytes
quiet_leaves w = record { registers = w; address = omega arith; bytes = λ a. omega arith }

-- an instruction leaves what it has set, and stores what it says
instruction_leaves : {b : Before} {e : Effect} → Fits b → Gives b e → LeavesWords e
unfolding wait_effect
instruction_leaves k (stores w run) = record { registers = held w k; address = run.address k; bytes = run.bytes k }
instruction_leaves k (untaken w is) = quiet_leaves (held w k)
instruction_leaves k (waits w run) =
    record {
      registers = set_waiting_lem (set_sp (held w k) (omega arith));
      address = run.address k;
      bytes = run.bytes k;
    }
instruction_leaves k (takes w is) = quiet_leaves (set_pc (set_flags (held w k)) (word_in k _))

turn_leaves : {s : State} {m : List ℕ} {line : ℕ} {t : Turn} → Words s → Below 256 m → Ways s m line t → LeavesWords t.effect
unfolding wake_effect entry_effect interrupt_effect
turn_leaves w bytes (wakes up waiting) = quiet_leaves (set_waiting_lem (set_pc (set_flags w) (word_at_lem bytes _)))
turn_leaves {s} w bytes (enters up awake) =
    record {
      registers = set_flags (set_pc (set_sp w (omega arith)) (word_at_lem bytes _));
      address = omega arith;
      bytes = stored_bytes (frame_store s) (ccr_below s.flags);
    }
turn_leaves w bytes (idles none waiting) = quiet_leaves w
turn_leaves w bytes (stops none awake) = quiet_leaves w
turn_leaves w bytes (reserves none awake) = quiet_leaves w
turn_leaves w bytes (runs none awake there gives) = instruction_leaves (fits_at_pc w bytes) gives

pub every_step_keeps_words : EveryStepKeepsWords
every_step_keeps_words s m line w bytes = turn_leaves w (record { at = bytes }) (every_turn_goes s m line)

-- a byte set in a memory of bytes, and a run of them stored

set_byte : (m : List ℕ) (a : ℕ) {b : ℕ} → b < 256 → AreBytes m → AreBytes (set m a b)
set_byte [] a h bytes i = bytes i
set_byte (c ∷ m) zero h bytes zero = h
set_byte (c ∷ m) zero h bytes (suc i) = bytes (suc i)
set_byte (c ∷ m) (suc a) h bytes zero = bytes zero
set_byte (c ∷ m) (suc a) h bytes (suc i) = set_byte m a h (λ j. bytes (suc j)) i

store_bytes : (m : List ℕ) (a : ℕ) (run : List ℕ) → AreBytes run → AreBytes m → AreBytes (store_all m a run)
unfolding store_all
store_bytes m a [] run bytes = bytes
store_bytes m a (b ∷ bs) run bytes = store_bytes (set m a b) (plus_w a 1) bs (λ i. run (suc i)) (set_byte m a (run zero) bytes)

pub every_boundary_has_words : EveryBoundaryHasWords
every_boundary_has_words s m line w bytes =
    let left = every_step_keeps_words s m line w bytes in
    (set_clock left.registers, store_bytes m _ _ left.bytes bytes)
