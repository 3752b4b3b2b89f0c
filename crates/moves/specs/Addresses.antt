-- What takes the operand's address alone. The glossary of 002 (section 6.6), on the page that is named beside the instruction. No code is
-- affected.
use Rattle.std.specs.Prelude.{ℕ, List}
use Rattle.word.specs.Word.{pick}
use Rattle.state.specs.declared.State.{State}
use Rattle.state.specs.State.{with_x, with_y, with_sp, with_pc}
use Rattle.opcodes.specs.declared.kind.Kind.{Kind}
use Rattle.opcodes.specs.Kind.{same, LEAY, LEAX, LEAS, JMP}
use Rattle.operand.specs.Operand.{operand_place}
use Rattle.decode.specs.declared.Decoded.{Decoded}
use Rattle.effect.specs.declared.Effect.{Effect}
use Rattle.effect.specs.Effect.{quiet}
use Rattle.stack.specs.Stack.{subroutine_effect}

-- LEAY (p. 6-130), LEAX (6-129), LEAS (6-128): the address a goes to the register after the base register's update; ABX (6-9),
-- ABY (6-10), DES (6-75), INS (6-99) are LEAX B,X, LEAY B,Y, LEAS -1,SP and LEAS 1,SP. JMP (6-102): PC is the address. JSR (6-103), the
-- last: the address and the base register's update come first, and the push goes by the updated SP.
unfoldable pub addressed : State → Kind → ℕ → ℕ → Effect
addressed s kind a cost =
    pick (same kind LEAY) (quiet (with_y s a) cost)
    (pick (same kind LEAX) (quiet (with_x s a) cost)
    (pick (same kind LEAS) (quiet (with_sp s a) cost)
    (pick (same kind JMP) (quiet (with_pc s a) cost) (subroutine_effect s cost a))))

unfoldable pub address_effect : State → List ℕ → Decoded → Effect
address_effect s m d =
    let place = operand_place s m d.mode d.at in
    addressed place.state d.kind place.address d.cost
