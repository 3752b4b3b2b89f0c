-- The nine bytes of a frame, each by its place (docs/MACHINE.md, "Requests"): from the address upward CCR, B, A, X, Y, PC, each word high
-- byte first. B lies below A.
use Rattle.std.specs.Prelude.{ℕ, ◌+◌, ◌/◌, ◌%◌, ◌≡◌, List}
use Rattle.word.specs.Word.{pick, plus_w}
use Rattle.memory.specs.Memory.{byte_at}
use Rattle.state.specs.declared.Flags.{Flags}
use Rattle.state.specs.declared.State.{State}

-- the condition codes as a byte: S 128, X 64, H 32, I 16, N 8, Z 4, V 2, C 1
abbrev pub codes_byte : Flags → ℕ
codes_byte f =
    pick f.s 128 0 + pick f.x 64 0 + pick f.h 32 0 + pick f.i 16 0 + pick f.n 8 0 + pick f.z 4 0 + pick f.v 2 0 + pick f.c 1 0

-- the memory m holds the registers of the state s from an address on, modulo 65,536
pub record FrameAt (m : List ℕ) (at : ℕ) (s : State) : Type 0 where
  pub ccr : byte_at m at ≡ codes_byte s.flags
  pub b : byte_at m (plus_w at 1) ≡ s.b
  pub a : byte_at m (plus_w at 2) ≡ s.a
  pub x_high : byte_at m (plus_w at 3) ≡ s.x / 256
  pub x_low : byte_at m (plus_w at 4) ≡ s.x % 256
  pub y_high : byte_at m (plus_w at 5) ≡ s.y / 256
  pub y_low : byte_at m (plus_w at 6) ≡ s.y % 256
  pub pc_high : byte_at m (plus_w at 7) ≡ s.pc / 256
  pub pc_low : byte_at m (plus_w at 8) ≡ s.pc % 256
