-- What works on registers and condition codes alone, the transfers among it. Each costs what its cell says and stores nothing. The
-- glossary of 002 (section 6.6), on the page that is named beside the instruction.
use Rattle.std.specs.Prelude.{ℕ, false, List, ltb}
use Rattle.word.specs.Word.{pick}
use Rattle.memory.specs.Memory.{byte_at}
use Rattle.state.specs.declared.State.{State}
use Rattle.state.specs.State.{with_flags, d_of}
use Rattle.opcodes.specs.declared.kind.Kind.{Kind}
use Rattle.opcodes.specs.Kind.{kind_number, same, LSRD, ASLD, INX, INY, DEX, DEY, ABA, CBA, DAA, TAB, TBA, ANDCC, ORCC, TFR/EXG}
use Rattle.alu.specs.Alu.{add_byte, sub_byte, inx_word, dex_word}
use Rattle.shift.specs.Shift.{lsrd_word, asld_word}
use Rattle.decimal.specs.Decimal.{daa_byte}
use Rattle.codes.specs.Conditions.{andcc_of, orcc_of}
use Rattle.transfers.specs.Registers.{transferred}
use Rattle.decode.specs.declared.Decoded.{Decoded}
use Rattle.effect.specs.declared.Effect.{Effect}
use Rattle.effect.specs.Effect.{quiet}
use Rattle.execute8.specs.Bytes.{loaded_byte, a_result, b_result}
use Rattle.execute16.specs.Words.{d_result, x_result, y_result}

-- LSRD (p. 6-138), ASLD (6-22), INX (6-100), INY (6-101), DEX (6-76), DEY (6-77), ABA (6-8), and the last SBA (6-179)
unfoldable pub first_registers : Kind → State → State
first_registers kind s =
    pick (same kind LSRD) (d_result s (lsrd_word s.flags (d_of s)))
    (pick (same kind ASLD) (d_result s (asld_word s.flags (d_of s)))
    (pick (same kind INX) (x_result s (inx_word s.flags s.x))
    (pick (same kind INY) (y_result s (inx_word s.flags s.y))
    (pick (same kind DEX) (x_result s (dex_word s.flags s.x))
    (pick (same kind DEY) (y_result s (dex_word s.flags s.y))
    (pick (same kind ABA) (a_result s (add_byte s.flags s.a s.b false))
    (a_result s (sub_byte s.flags s.a s.b false))))))))

-- CBA (p. 6-53), DAA (6-69), TAB (6-197), TBA (6-199), ANDCC (6-18), ORCC (6-153), TFR (6-203) with EXG (6-90), and the last NOP (6-150),
-- which changes nothing; n is the byte after the opcode, a mask or a postbyte
unfoldable pub second_registers : Kind → State → ℕ → State
second_registers kind s n =
    pick (same kind CBA) (with_flags s (sub_byte s.flags s.a s.b false).flags)
    (pick (same kind DAA) (a_result s (daa_byte s.flags s.a))
    (pick (same kind TAB) (b_result s (loaded_byte s.flags s.a))
    (pick (same kind TBA) (a_result s (loaded_byte s.flags s.b))
    (pick (same kind ANDCC) (with_flags s (andcc_of s.flags n))
    (pick (same kind ORCC) (with_flags s (orcc_of s.flags n))
    (pick (same kind TFR/EXG) (transferred s n) s))))))

-- kinds before CBA are of the first half
unfoldable pub registered : State → Kind → ℕ → ℕ → Effect
registered s kind n cost = quiet (pick (ltb (kind_number kind) (kind_number CBA)) (first_registers kind s) (second_registers kind s n)) cost

unfoldable pub registers_effect : State → List ℕ → Decoded → Effect
registers_effect s m d = registered s d.kind (byte_at m d.at) d.cost
