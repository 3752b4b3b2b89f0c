-- Branches: short and long, and the loop primitives. PC of the state is the address after the whole instruction,
-- from which every offset counts (002, section 3.7, p. 3-4). An offset is signed.
use Rattle.std.specs.Prelude.{ℕ, ◌/◌, ◌%◌, Bool, List, eqb}
use Rattle.word.specs.Word.{pick, plus_w, extend8, extend9, bit_of}
use Rattle.memory.specs.Memory.{byte_at, word_at}
use Rattle.state.specs.declared.State.{State}
use Rattle.state.specs.State.{with_a, with_b, with_d, with_x, with_y, with_sp, with_pc, d_of}
use Rattle.opcodes.specs.declared.kind.Kind.{Kind}
use Rattle.opcodes.specs.Kind.{member_of}
use Rattle.codes.specs.Conditions.{condition_of}
use Rattle.codes.specs.Loops.{Count8, Count16, count_byte, count_word}
use Rattle.decode.specs.declared.Decoded.{Decoded}
use Rattle.effect.specs.declared.Effect.{Effect}
use Rattle.effect.specs.Effect.{quiet}

-- taken, PC plus the offset; else PC as it is; each at its own cost
abbrev pub branched : State → Bool → ℕ → ℕ → ℕ → Effect
branched s taken offset cost untaken = pick taken (quiet (with_pc s (plus_w s.pc offset)) cost) (quiet s untaken)

-- BRA (p. 6-44) to BLE (6-37), by the conditions of crate codes: n is an offset of 8 bits
abbrev pub short_branched : State → Kind → ℕ → ℕ → ℕ → Effect
short_branched s kind n cost untaken = branched s (condition_of s.flags (member_of kind)) (extend8 n) cost untaken

unfoldable pub short_effect : State → List ℕ → Decoded → Effect
short_effect s m d = short_branched s d.kind (byte_at m d.at) d.cost d.untaken

-- LBRA (p. 6-118) to LBLE (6-111), by the same conditions: an offset of 16 bits
abbrev pub long_branched : State → Kind → ℕ → ℕ → ℕ → Effect
long_branched s kind offset cost untaken = branched s (condition_of s.flags (member_of kind)) offset cost untaken

unfoldable pub long_effect : State → List ℕ → Decoded → Effect
long_effect s m d = long_branched s d.kind (word_at m d.at) d.cost d.untaken

-- The loop primitives: bits 7 to 5 of the postbyte are the kind, bit 4 the sign of the 9-bit offset, bits 2 to 0 the counter:
-- A, B, D, X, Y, SP for 0, 1, 4, 5, 6, 7.
abbrev pub byte_looped : State → ℕ → ℕ → Count8 → Effect
byte_looped s offset cost t = branched s t.taken offset cost cost

abbrev pub word_looped : State → ℕ → ℕ → Count16 → Effect
word_looped s offset cost t = branched s t.taken offset cost cost

-- DBEQ (p. 6-70), DBNE (6-71), TBEQ (6-200), TBNE (6-202), IBEQ (6-92), IBNE (6-93) on a counter; the cost is the same either way
unfoldable pub looped : ℕ → State → ℕ → ℕ → ℕ → Effect
looped counter s kind offset cost =
    pick (eqb counter 0) (byte_looped (with_a s (count_byte kind s.a).counter) offset cost (count_byte kind s.a))
    (pick (eqb counter 1) (byte_looped (with_b s (count_byte kind s.b).counter) offset cost (count_byte kind s.b))
    (pick (eqb counter 4) (word_looped (with_d s (count_word kind (d_of s)).counter) offset cost (count_word kind (d_of s)))
    (pick (eqb counter 5) (word_looped (with_x s (count_word kind s.x).counter) offset cost (count_word kind s.x))
    (pick (eqb counter 6) (word_looped (with_y s (count_word kind s.y).counter) offset cost (count_word kind s.y))
    (word_looped (with_sp s (count_word kind s.sp).counter) offset cost (count_word kind s.sp))))))

-- the postbyte p, and the low byte b of the offset
unfoldable pub loop_done : State → ℕ → ℕ → ℕ → Effect
loop_done s p b cost = looped (p % 8) s (p / 32) (extend9 (bit_of 4 p) b) cost
