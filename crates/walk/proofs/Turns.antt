-- Every turn goes one of six ways. On the definitions alone. Assumes nothing.
use Prim.Native.Nat.{ℕ, ◌<◌}
use native.Mathlib.Omega.{arith}
use Rattle.std.proofs.Common.{Ok, Err}
use mathlib.Core.Path.{◌≡◌, refl}
use mathlib.Core.Bool.{Bool, true, false}
use mathlib.Core.List.{List}
use lib.Dec.{ltb}
use borrow.Author.Tests.{ltb-true, ltb-false}
use Rattle.word.specs.Word.{pick}
use Rattle.state.specs.declared.State.{State}
use Rattle.word.proofs.Laws.{both}
use Rattle.opcodes.specs.Rules.{stops_of}
use Rattle.decode.specs.declared.Halt.TheVariants.{Stopped, Reserved}
use Rattle.decode.specs.Decode.{on_page_two, cell_at, after_opcode, reserved_at, fetched_of}
use Rattle.effect.specs.Effect.{quiet}
use Rattle.machine.specs.declared.Reply.TheVariants.{Done}
use Rattle.machine.specs.Names.{number_of, no_line, idle_cost}
use Rattle.requests.specs.Requests.{allowed_line, entry_effect, wake_effect}
use Rattle.turn.specs.Turn.{Turn, turn_is, instructed, turn_of}
use Rattle.walk.specs.Words.{Words}
use Rattle.walk.specs.Walk.{Fits}
use Rattle.walk.specs.Turns.{instruction_at, at_pc, NoneUp, Ways, EveryTurnGoes}
use Rattle.walk.specs.Turns.Ways.{wakes, enters, idles, stops, reserves, runs}
use Rattle.walk.proofs.Registers.{Below, set_pc}
use Rattle.walk.proofs.Walk.{every_instruction_gives}

-- what stands at PC
at_pc_lem :
    (s : State) (m : List ℕ) (line : ℕ) → NoneUp s line → s.standing.waiting ≡ false →
    Ways s m line (instructed s m line (fetched_of m s.pc))
unfolding instructed fetched_of
at_pc_lem s m line none awake =
    go (stops_of (cell_at m s.pc)) (reserved_at m (cell_at m s.pc) (after_opcode m s.pc)) refl refl
  where
    go :
        (st rs : Bool) → stops_of (cell_at m s.pc) ≡ st → reserved_at m (cell_at m s.pc) (after_opcode m s.pc) ≡ rs →
        Ways s m line (instructed s m line (pick st (Err Stopped) (pick rs (Err Reserved) (Ok (instruction_at m s.pc)))))
    go true rs e f = stops none awake
    go false true e f = reserves none awake
    go false false e f = runs none awake (record { on = e; free = f }) (every_instruction_gives _ m line (instruction_at m s.pc))

pub every_turn_goes : EveryTurnGoes
unfolding turn_of
every_turn_goes s m line = go (ltb k no_line) s.standing.waiting refl refl
  where
    k : ℕ
    k = allowed_line s.flags line

    go :
        (b w : Bool) → ltb k no_line ≡ b → s.standing.waiting ≡ w →
        Ways s m line
        (pick b (pick w (turn_is Done (wake_effect s m k)) (turn_is Done (entry_effect s m k)))
        (pick w (turn_is Done (quiet s idle_cost)) (instructed s m line (fetched_of m s.pc))))
    go true true up e = wakes (ltb-true k no_line up) e
    go true false up e = enters (ltb-true k no_line up) e
    go false true none e = idles (ltb-false k no_line none) e
    go false false none e = at_pc_lem s m line (ltb-false k no_line none) e

-- an instruction begins with what fits, where the registers and the memory do
pub fits_at_pc : {s : State} {m : List ℕ} {line : ℕ} → Words s → Below 256 m → Fits (at_pc s m line)
fits_at_pc {s} {m} w bytes = record { registers = set_pc w (omega arith); bytes = bytes.at; at = after_opcode_lem }
  where
    after_opcode_lem : after_opcode m s.pc < 65536
    after_opcode_lem = both (λ (n : ℕ). n < 65536) (on_page_two m s.pc) _ _ (omega arith) (omega arith)

-- a turn that is not done has done nothing
way_idle : {s : State} {m : List ℕ} {line : ℕ} {t : Turn} → Ways s m line t → (number_of t.reply ≡ 0 → ⊥) → t.effect ≡ quiet s 0
way_idle (wakes up waiting) other = absurd (other refl)
way_idle (enters up awake) other = absurd (other refl)
way_idle (idles none waiting) other = absurd (other refl)
way_idle (stops none awake) other = refl
way_idle (reserves none awake) other = refl
way_idle (runs none awake there gives) other = absurd (other refl)

pub turn_idle :
    (s : State) (m : List ℕ) (line : ℕ) → (number_of (turn_of s m line).reply ≡ 0 → ⊥) → (turn_of s m line).effect ≡ quiet s 0
turn_idle s m line = way_idle (every_turn_goes s m line)
