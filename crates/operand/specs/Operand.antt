-- Where an operand lies, by the addressing mode. The program counter of the state is the address after the whole instruction.
use Rattle.std.specs.Prelude.{ℕ, List, eqb, ◌&&◌, Option, None, Some}
use Rattle.word.specs.Word.{pick, plus_w}
use Rattle.memory.specs.Memory.{byte_at, word_at}
use Rattle.state.specs.declared.State.{State}
use Rattle.state.specs.State.{with_pc}
use Rattle.opcodes.specs.declared.Cell.{Cell}
use Rattle.opcodes.specs.declared.mode.Mode.{Mode}
use Rattle.opcodes.specs.Mode.{mode_number, IM, DI, EX}
use Rattle.opcodes.specs.Postbyte.{indexed_of, form_reserved, length_in, form_of, cost_of}
use Rattle.operand.specs.declared.Place.{Place}
use Rattle.operand.specs.declared.Found.{Found}
use Rattle.operand.specs.Indexed.{place_is, indexed_place}

-- IM: the operand is the byte or word after the opcode itself (002, section 3.4, p. 3-2). DI: the byte there is the low byte of
-- its address, the high one being $00 (3.5, p. 3-3). EX: the word there is its address (3.6, p. 3-3). Else a postbyte stands there.
unfoldable pub operand_place : State → List ℕ → Mode → ℕ → Place
operand_place s m mode at =
    pick (eqb (mode_number mode) (mode_number IM)) (place_is at s)
    (pick (eqb (mode_number mode) (mode_number DI)) (place_is (byte_at m at) s)
    (pick (eqb (mode_number mode) (mode_number EX)) (place_is (word_at m at) s) (indexed_place s m at s.pc)))

-- what is found of an instruction before its operand is worked on: where that lies, once PC is past the instruction, and the cost
abbrev pub found_is : Place → ℕ → Found
found_is place cost = record { place = place; cost = cost }

-- or none, where its postbyte is reserved
unfoldable pub located_of : State → List ℕ → Cell → ℕ → Option Found
located_of s m c at =
    pick (indexed_of c && form_reserved c (byte_at m at)) None
    (Some (found_is
    (operand_place (with_pc s (plus_w s.pc (length_in c (form_of (byte_at m at))))) m c.mode at)
    (cost_of c (byte_at m at))))
