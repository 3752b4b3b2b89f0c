-- The nine bytes at an address, where each is that of a frame, are the frame by places. Assumes nothing.
use Prim.Native.Nat.{ℕ, ◌<◌}
use native.Mathlib.Omega.{arith}
use mathlib.Core.Path.{◌≡◌, refl, sym, ◌∙◌, ap}
use mathlib.Core.Bool.{Bool, true, false}
use mathlib.Core.List.{List}
use lib.ListN.{get_or}
use Rattle.word.specs.Word.{pick, plus_w}
use Rattle.memory.specs.Memory.{byte_at}
use Rattle.state.specs.declared.Flags.{Flags}
use Rattle.state.specs.declared.State.{State}
use Rattle.state.specs.Ccr.{weight_of, ccr_of}
use Rattle.frames.specs.Frames.{frame_of}
use Rattle.promises.specs.Frame.{codes_byte, FrameAt}

weight_is : (b : Bool) (w : ℕ) → weight_of b w ≡ pick b w 0
weight_is true w = refl
weight_is false w = refl

-- the byte of the codes, spelled out
pub codes_byte_lem : (f : Flags) → ccr_of f ≡ codes_byte f
codes_byte_lem f =
    rw (
      weight_is f.s 128,
      weight_is f.x 64,
      weight_is f.h 32,
      weight_is f.i 16,
      weight_is f.n 8,
      weight_is f.z 4,
      weight_is f.v 2,
      weight_is f.c 1,
    )

pub frame_at :
    (m : List ℕ) (at : ℕ) (s : State) →
    at < 65536 →
    ((j : ℕ) → j < 9 → byte_at m (plus_w at j) ≡ get_or (frame_of s) j 0) →
    FrameAt m at s
frame_at m at s inside each =
    let here : plus_w at 0 ≡ at = omega (arith, inside) in
    record {
      ccr = ap (byte_at m) (sym here) ∙ each 0 (omega arith) ∙ codes_byte_lem s.flags;
      b = each 1 (omega arith);
      a = each 2 (omega arith);
      x_high = each 3 (omega arith);
      x_low = each 4 (omega arith);
      y_high = each 5 (omega arith);
      y_low = each 6 (omega arith);
      pc_high = each 7 (omega arith);
      pc_low = each 8 (omega arith);
    }
