-- Table lookup, from the glossary of 002 (section 6.6).
use Rattle.std.specs.Prelude.{ℕ, List}
use Rattle.word.specs.Word.{pick, plus_w}
use Rattle.memory.specs.Memory.{byte_at, word_at}
use Rattle.state.specs.declared.State.{State}
use Rattle.opcodes.specs.declared.kind.Kind.{Kind}
use Rattle.opcodes.specs.Kind.{same, TBL}
use Rattle.decimal.specs.Lookup.{tbl_byte, etbl_word}
use Rattle.operand.specs.Operand.{operand_place}
use Rattle.decode.specs.declared.Decoded.{Decoded}
use Rattle.effect.specs.declared.Effect.{Effect}
use Rattle.effect.specs.Effect.{quiet}
use Rattle.execute8.specs.Bytes.{a_result}
use Rattle.execute16.specs.Words.{d_result}

-- TBL (p. 6-201), and else ETBL (6-89): two entries of a table, from the operand's address a on, and B
unfoldable pub looked_up : Kind → State → List ℕ → ℕ → State
looked_up kind s m a =
    pick (same kind TBL) (a_result s (tbl_byte s.flags s.b (byte_at m a) (byte_at m (plus_w a 1))))
    (d_result s (etbl_word s.flags s.b (word_at m a) (word_at m (plus_w a 2))))

unfoldable pub lookup_effect : State → List ℕ → Decoded → Effect
lookup_effect s m d =
    let place = operand_place s m d.mode d.at in
    quiet (looked_up d.kind place.state m place.address) d.cost
