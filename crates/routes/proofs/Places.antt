-- The places that the postbytes of a move name, as they were decoded. Assumes nothing.
use Prim.Native.Nat.{ℕ, ◌<◌}
use mathlib.Core.Path.{◌≡◌, ◌∙◌, ap}
use mathlib.Core.List.{List}
use Rattle.word.specs.Word.{plus_w}
use Rattle.memory.specs.Memory.{byte_at}
use Rattle.state.specs.declared.State.{State}
use Rattle.opcodes.specs.Mode.{mode_number, ID, ID_ID}
use Rattle.decode.specs.declared.Decoded.{Decoded}
use Rattle.decode.specs.Decode.{Faithful}
use Rattle.operand.specs.Indexed.{plain_place, indexed_place}
use Rattle.operand.proofs.Forms.{plain_by_its_form}

-- the first postbyte was decoded
pub first :
    (s : State) (m : List ℕ) (d : Decoded) (pc : ℕ) → Faithful m d → mode_number ID < mode_number d.mode →
    plain_place s pc d.postbyte ≡ indexed_place s m d.at pc
first s m d pc read past = ap (plain_place s pc) read.postbyte ∙ plain_by_its_form s m d.at pc (read.first past)

-- the second stands right after it
pub second :
    (s : State) (m : List ℕ) (d : Decoded) (pc : ℕ) → Faithful m d → d.mode ≡ ID_ID →
    plain_place s pc (byte_at m (plus_w d.at 1)) ≡ indexed_place s m (plus_w d.at 1) pc
second s m d pc read two = plain_by_its_form s m (plus_w d.at 1) pc (read.second two)
