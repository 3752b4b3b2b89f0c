-- Bits of memory, changed or tested for a branch. The glossary of 002 (section 6.6), on the page that is named beside the instruction. PC
-- of the state is the address after the whole instruction, and the mask is its last byte, or the last but one before an offset of 8 bits.
use Rattle.std.specs.Prelude.{ℕ, Bool, true, false, List}
use Rattle.word.specs.Word.{pick, minus_w, extend8}
use Rattle.memory.specs.Memory.{byte_at, store_byte}
use Rattle.state.specs.declared.State.{State}
use Rattle.state.specs.State.{with_flags}
use Rattle.logic.specs.Logic.{or_byte, bclr_byte, all_clear, all_set}
use Rattle.opcodes.specs.declared.kind.Kind.{Kind}
use Rattle.opcodes.specs.Kind.{same, BSET, BCLR, BRSET}
use Rattle.operand.specs.Operand.{operand_place}
use Rattle.decode.specs.declared.Decoded.{Decoded}
use Rattle.effect.specs.declared.Effect.{Effect}
use Rattle.effect.specs.Effect.{writes}
use Rattle.flow.specs.Branches.{branched}

-- BSET (p. 6-48), and else BCLR (6-27), of the byte v at the address a
unfoldable pub bits_changed : State → Bool → ℕ → ℕ → ℕ → ℕ → Effect
bits_changed s set mask v a cost =
    let r = pick set (or_byte s.flags v mask) (bclr_byte s.flags v mask) in
    writes (with_flags s r.flags) cost (store_byte a r.value)

-- BRSET (p. 6-47), and else BRCLR (6-45), of the byte v; n is the offset, and the cost is the same either way
abbrev pub bits_branched : State → Bool → ℕ → ℕ → ℕ → ℕ → Effect
bits_branched s set mask n v cost = branched s (pick set (all_set v mask) (all_clear v mask)) (extend8 n) cost cost

-- the four, the last BRCLR, with the operand's address a
unfoldable pub bitted : State → List ℕ → Kind → ℕ → ℕ → Effect
bitted s m kind a cost =
    let last = byte_at m (minus_w s.pc 1) in
    let before = byte_at m (minus_w s.pc 2) in
    pick (same kind BSET) (bits_changed s true last (byte_at m a) a cost)
    (pick (same kind BCLR) (bits_changed s false last (byte_at m a) a cost)
    (pick (same kind BRSET) (bits_branched s true before last (byte_at m a) cost)
    (bits_branched s false before last (byte_at m a) cost)))

unfoldable pub bits_effect : State → List ℕ → Decoded → Effect
bits_effect s m d =
    let place = operand_place s m d.mode d.at in
    bitted place.state m d.kind place.address d.cost
