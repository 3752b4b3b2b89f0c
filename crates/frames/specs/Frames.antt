-- The frame of an interrupt: pushed by an entry and by WAI, pulled by RTI. SP points at the last byte that was pushed (002, 2.1.3, p. 2-2).
use Rattle.std.specs.Prelude.{ℕ, ◌/◌, ◌%◌, ◌≡◌, true, List, [], ◌∷◌}
use Rattle.word.specs.Word.{high_of, low_of, plus_w, minus_w}
use Rattle.memory.specs.declared.Store.{Store}
use Rattle.memory.specs.Memory.{byte_at, word_at, store_nine}
use Rattle.state.specs.declared.Flags.{Flags}
use Rattle.state.specs.declared.State.{State}
use Rattle.state.specs.Ccr.{ccr_of, take_ccr}
use Rattle.state.specs.State.{with_a, with_b, with_x, with_y, with_sp, with_pc, with_flags, with_waiting}
use Rattle.effect.specs.declared.Effect.{Effect}
use Rattle.effect.specs.Effect.{writes}

-- The frame, from the new SP upward: CCR, B, A, X, Y, PC, each high byte first (docs/MACHINE.md, "Requests"; 002, p. 6-196).
abbrev pub frame_of : State → List ℕ
frame_of s =
    ccr_of s.flags ∷ s.b ∷ s.a ∷ high_of s.x ∷ low_of s.x ∷ high_of s.y ∷ low_of s.y ∷ high_of s.pc ∷ low_of s.pc ∷ []

abbrev pub frame_store : State → Store
frame_store s = store_nine (minus_w s.sp 9) (frame_of s)

-- An entry by a vector, as SWI (p. 6-196) and TRAP (6-205): the vector's word is read from the memory before the frame is pushed. The
-- frame has the condition codes as they were; the entry leaves those that are given, in which I is set.
unfoldable pub interrupt_effect : State → List ℕ → ℕ → Flags → ℕ → Effect
interrupt_effect s m vector after cost =
    writes (with_pc (with_flags (with_sp s (minus_w s.sp 9)) after) (word_at m vector)) cost (frame_store s)

-- WAI (p. 6-213): the same frame, and the machine waits
unfoldable pub wait_effect : State → ℕ → Effect
wait_effect s cost = writes (with_waiting (with_sp s (minus_w s.sp 9)) true) cost (frame_store s)

-- RTI (p. 6-177): the frame is pulled, CCR under the rule for X
unfoldable pub pulled_frame : State → List ℕ → State
pulled_frame s m =
    with_pc
    (with_y
    (with_x
    (with_a (with_b (with_flags (with_sp s (plus_w s.sp 9)) (take_ccr s.flags (byte_at m s.sp))) (byte_at m (plus_w s.sp 1)))
    (byte_at m (plus_w s.sp 2)))
    (word_at m (plus_w s.sp 3)))
    (word_at m (plus_w s.sp 5)))
    (word_at m (plus_w s.sp 7))

-- The frame by its places, pushed and pulled, so that it cannot be changed here and in the code together (docs/MACHINE.md, "Requests",
-- "Traps for the hasty": B lies below A). Proved as `by_places` in proofs/Laws.antt.
pub record ByPlaces (s : State) (m : List ℕ) : Type 0 where
  pub b : byte_at (frame_of s) 1 ≡ s.b
  pub a : byte_at (frame_of s) 2 ≡ s.a
  pub x : (byte_at (frame_of s) 3 ≡ s.x / 256) × (byte_at (frame_of s) 4 ≡ s.x % 256)
  pub y : (byte_at (frame_of s) 5 ≡ s.y / 256) × (byte_at (frame_of s) 6 ≡ s.y % 256)
  pub pc : (byte_at (frame_of s) 7 ≡ s.pc / 256) × (byte_at (frame_of s) 8 ≡ s.pc % 256)
  pub b_again : (pulled_frame s m).b ≡ byte_at m (plus_w s.sp 1)
  pub a_again : (pulled_frame s m).a ≡ byte_at m (plus_w s.sp 2)
