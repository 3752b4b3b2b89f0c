-- What every step keeps to, on the definitions alone. Assumes nothing.
use Prim.Native.Nat.{ℕ, ◌+◌, ◌<◌, ◌≤◌}
use native.Mathlib.Omega.{arith}
use mathlib.Core.Path.{◌≡◌, refl, sym, ◌∙◌, ap}
use mathlib.Core.Bool.{Bool, true, false}
use mathlib.Core.List.{List}
use lib.Dec.{eqb}
use borrow.Author.Tests.{eq-eqb, ne_eqb}
use Rattle.word.specs.Word.{pick, plus_w}
use Rattle.word.proofs.Laws.{neither}
use Rattle.memory.specs.Memory.{byte_at, AreBytes, IsWhole}
use Rattle.memory.proofs.Laws.{stored_short}
use Rattle.state.specs.declared.State.{State}
use Rattle.opcodes.specs.Kind.{group_of, SHORT_BRANCHES}
use Rattle.opcodes.specs.Map.{cell_number}
use Rattle.opcodes.specs.Postbyte.{reserved_of, untaken_of}
use Rattle.opcodes.specs.Rules.{prebyte_cell, runs as runs_at, Bounded}
use Rattle.opcodes.proofs.Cells.{cell_number_below, every_cell, every_instruction}
use Rattle.decode.specs.Decode.{on_page_two, cell_at, after_opcode}
use Rattle.effect.specs.declared.Effect.{Effect}
use Rattle.frames.specs.Frames.{interrupt_effect, wait_effect}
use Rattle.machine.specs.declared.Reply.{Reply}
use Rattle.machine.specs.declared.Reply.TheVariants.{Done}
use Rattle.machine.specs.Names.{number_of}
use Rattle.requests.specs.Requests.{entry_effect, wake_effect}
use Rattle.turn.specs.Turn.{Turn, turn_of}
use Rattle.walk.specs.Bounds.{EveryStepCosts, EveryStoreIsShort, EveryStoreIsWhole}
use Rattle.walk.specs.Words.{Words}
use Rattle.walk.specs.Walk.{Before, Fits, IsBranch, Gives}
use Rattle.walk.specs.Walk.IsBranch.{short, long}
use Rattle.walk.specs.Walk.Gives.{stores, untaken, waits, takes}
use Rattle.walk.specs.Turns.{instruction_at, Runs, at_pc, Ways}
use Rattle.walk.specs.Turns.Ways.{wakes, enters, idles, stops, reserves, runs}
use Rattle.walk.proofs.Registers.{frame_whole}
use Rattle.walk.proofs.Turns.{every_turn_goes, fits_at_pc}

-- the number of the cell at PC
abbrev number_at : List ℕ → ℕ → ℕ
number_at m pc = cell_number (on_page_two m pc) (pick (on_page_two m pc) (byte_at m (plus_w pc 1)) (byte_at m pc))

number_below : (m : List ℕ) (pc : ℕ) → AreBytes m → number_at m pc < 512
number_below m pc bytes = cell_number_below (on_page_two m pc) (opcode (on_page_two m pc))
  where
    opcode : (b : Bool) → pick b (byte_at m (plus_w pc 1)) (byte_at m pc) < 256
    opcode true = bytes (plus_w pc 1)
    opcode false = bytes pc

-- the prebyte is no opcode: on page 1 it would say that there is another
not_prebyte : (m : List ℕ) (pc : ℕ) → prebyte_cell (number_at m pc) ≡ false
not_prebyte m pc = go (on_page_two m pc) refl
  where
    go : (b : Bool) → on_page_two m pc ≡ b → eqb (cell_number b (pick b (byte_at m (plus_w pc 1)) (byte_at m pc))) 0x18 ≡ false
    go true e = ne_eqb (256 + byte_at m (plus_w pc 1)) 0x18 (λ q. omega (arith, q))
    go false e = e

-- a cell that does not stop, and is not the prebyte, runs
runs_on : (m : List ℕ) (pc : ℕ) → AreBytes m → Runs m pc → runs_at (number_at m pc) ≡ true
runs_on m pc bytes there =
    rw (sym (every_cell (number_at m pc) (number_below m pc bytes)).stops ∙ there.on, not_prebyte m pc)

-- the instruction at PC costs what the map and the grid say
bounded : (m : List ℕ) (pc : ℕ) → AreBytes m → Runs m pc → Bounded (number_at m pc) (byte_at m (after_opcode m pc))
bounded m pc bytes there =
    let at = after_opcode m pc in
    let free = (neither (reserved_of (cell_at m pc) (byte_at m at)) _ there.free).0 in
    every_instruction (number_at m pc) (byte_at m at) (number_below m pc bytes) (bytes at) (runs_on m pc bytes there) free

-- a branch that is not taken costs 1 or 3
untaken_low : (m : List ℕ) (pc : ℕ) → IsBranch (instruction_at m pc) → 1 ≤ untaken_of (cell_at m pc)
unfolding untaken_of
untaken_low m pc (short e) = rw (eq-eqb (group_of (cell_at m pc).kind) SHORT_BRANCHES e) (omega arith)
untaken_low m pc (long e) = rw e (omega arith)

-- an effect whose cost is 1 to 13
record Good (e : Effect) : Type 0 where
  low : 1 ≤ e.cost
  high : e.cost ≤ 13

instruction_good : {s : State} {m : List ℕ} {line : ℕ} {e : Effect} → AreBytes m → Runs m s.pc → Gives (at_pc s m line) e → Good e
unfolding wait_effect
instruction_good {s} {m} bytes there (stores w run) =
    let cell = bounded m s.pc bytes there in
    record { low = cell.cost_low; high = cell.cost_high }
instruction_good {s} {m} bytes there (untaken w is) =
    record { low = untaken_low m s.pc is; high = (bounded m s.pc bytes there).untaken_high }
instruction_good {s} {m} bytes there (waits w run) =
    let cell = bounded m s.pc bytes there in
    record { low = cell.cost_low; high = cell.cost_high }
instruction_good bytes there (takes w is) = record { low = omega arith; high = omega arith }

-- a reply that is not 0
pub refused : {reply : Reply} → 1 ≤ number_of reply → reply ≡ Done → ⊥
refused h e = let z = ap number_of e in omega (arith, h, z)

-- a turn that is done has such an effect
turn_good : {s : State} {m : List ℕ} {line : ℕ} {t : Turn} → AreBytes m → Ways s m line t → t.reply ≡ Done → Good t.effect
unfolding wake_effect entry_effect interrupt_effect
turn_good bytes (wakes up waiting) done = record { low = omega arith; high = omega arith }
turn_good bytes (enters up awake) done = record { low = omega arith; high = omega arith }
turn_good bytes (idles none waiting) done = record { low = omega arith; high = omega arith }
turn_good bytes (stops none awake) done = absurd (refused (omega arith) done)
turn_good bytes (reserves none awake) done = absurd (refused (omega arith) done)
turn_good bytes (runs none awake there gives) done = instruction_good bytes there gives

pub every_step_costs : EveryStepCosts
every_step_costs s m line bytes done =
    let good = turn_good bytes (every_turn_goes s m line) done in
    (good.low, good.high)

pub every_store_is_short : EveryStoreIsShort
every_store_is_short s m line bytes = stored_short (turn_of s m line).effect.store

-- an instruction stores what it says, and no store is whole
instruction_whole : {b : Before} {e : Effect} → Fits b → Gives b e → IsWhole e.store
unfolding wait_effect
instruction_whole k (stores w run) = run.whole k
instruction_whole k (untaken w is) = omega arith
instruction_whole k (waits w run) = run.whole k
instruction_whole k (takes w is) = omega arith

turn_whole : {s : State} {m : List ℕ} {line : ℕ} {t : Turn} → Words s → AreBytes m → Ways s m line t → IsWhole t.effect.store
unfolding wake_effect entry_effect interrupt_effect
turn_whole w bytes (wakes up waiting) = omega arith
turn_whole w bytes (enters up awake) = frame_whole w
turn_whole w bytes (idles none waiting) = omega arith
turn_whole w bytes (stops none awake) = omega arith
turn_whole w bytes (reserves none awake) = omega arith
turn_whole w bytes (runs none awake there gives) = instruction_whole (fits_at_pc w (record { at = bytes })) gives

pub every_store_is_whole : EveryStoreIsWhole
every_store_is_whole s m line w bytes = turn_whole w bytes (every_turn_goes s m line)
