-- The lines of request: which is entered, what an entry and the end of a wait do, and RTI, which may take a request itself
-- (docs/MACHINE.md, "Requests").
use Rattle.std.specs.Prelude.{ℕ, ◌/◌, ◌%◌, ◌≡◌, true, false, ◌&&◌, not, List, Option, None, Some, ltb, eqb}
use Rattle.word.specs.Word.{pick, bit_of}
use Rattle.memory.specs.Memory.{word_at}
use Rattle.state.specs.declared.Flags.{Flags}
use Rattle.state.specs.declared.State.{State}
use Rattle.state.specs.Ccr.{set_x, set_i}
use Rattle.state.specs.State.{with_sp, with_pc, with_flags, with_waiting}
use Rattle.effect.specs.declared.Effect.{Effect}
use Rattle.effect.specs.Effect.{quiet}
use Rattle.frames.specs.Frames.{interrupt_effect, pulled_frame}
use Rattle.machine.specs.Names.{line_vector, no_line, entry_cost, wake_cost, return_and_entry_cost}

-- The lowest line from 1 to 5 whose bit is set.
abbrev pub lowest_line : ℕ → ℕ
lowest_line line =
    pick (bit_of 1 line) 1
    (pick (bit_of 2 line) 2
    (pick (bit_of 3 line) 3
    (pick (bit_of 4 line) 4 (pick (bit_of 5 line) 5 no_line))))

-- a line by its number as one that is there, or none
abbrev pub as_line : ℕ → Option ℕ
as_line k = pick (ltb k no_line) (Some k) None

-- The same by what the bits from 1 to 5 are as a number, where 6 is none, so that the order cannot be changed here and in the code
-- together. Proved as `lowest_first` in proofs/Laws.antt.
pub record LowestFirst (line : ℕ) : Type 0 where
  pub one : line / 2 % 2 ≡ 1 → lowest_line line ≡ 1
  pub two : line / 2 % 4 ≡ 2 → lowest_line line ≡ 2
  pub three : line / 2 % 8 ≡ 4 → lowest_line line ≡ 3
  pub four : line / 2 % 16 ≡ 8 → lowest_line line ≡ 4
  pub five : line / 2 % 32 ≡ 16 → lowest_line line ≡ 5
  pub none : line / 2 % 32 ≡ 0 → lowest_line line ≡ 6

-- The line that is to be entered: XIRQ, bit 0, needs X clear, the others I clear; the lowest goes first.
unfoldable pub allowed_line : Flags → ℕ → ℕ
allowed_line f line = pick (bit_of 0 line && not f.x) 0 (pick f.i no_line (lowest_line line))

-- the masks after line k is entered: I, and X too for XIRQ
abbrev pub masked : ℕ → Flags → Flags
masked k f = pick (eqb k 0) (set_x (set_i f true) true) (set_i f true)

-- an entry: the vector is read, the frame is pushed with the flags as they were, and the masks are set
unfoldable pub entry_effect : State → List ℕ → ℕ → Effect
entry_effect s m k = interrupt_effect s m (line_vector k) (masked k s.flags) entry_cost

-- line k is taken and nothing is pushed, since the frame is in place: the masks are set, and PC is the word of the line's vector
abbrev pub vectored : State → List ℕ → ℕ → State
vectored s m k = with_pc (with_flags s (masked k s.flags)) (word_at m (line_vector k))

-- the end of a wait: WAI has pushed the frame
unfoldable pub wake_effect : State → List ℕ → ℕ → Effect
wake_effect s m k = quiet (with_waiting (vectored s m k) false) wake_cost

-- the line that the masks allow which RTI pulls, X among them under its rule
abbrev pub line_after_pull : State → List ℕ → ℕ → ℕ
line_after_pull s m line = allowed_line (pulled_frame s m).flags line

-- RTI (p. 6-177) under the line byte in force where it begins (002; 7.4.5, p. 7-5, tells of both cases). The frame is pulled. Where the
-- masks that were pulled allow no request, this is all (the first access detail, uUUUUPPP). Where they allow one, it is taken in the same
-- step (the second, uUUUUVfPPP): SP points at the frame again, which is left as it is.
unfoldable pub rti_effect : State → List ℕ → ℕ → ℕ → Effect
rti_effect s m line cost =
    let t = pulled_frame s m in
    let k = line_after_pull s m line in
    pick (ltb k no_line) (quiet (vectored (with_sp t s.sp) m k) return_and_entry_cost) (quiet t cost)
