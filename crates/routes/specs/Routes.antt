-- Where a move takes its operand from and to. The program counter of the state is the address after the whole instruction.
use Rattle.std.specs.Prelude.{ℕ, List, eqb}
use Rattle.word.specs.Word.{pick, plus_w, minus_w}
use Rattle.memory.specs.Memory.{word_at}
use Rattle.state.specs.declared.State.{State}
use Rattle.opcodes.specs.declared.mode.Mode.{Mode}
use Rattle.opcodes.specs.Mode.{mode_number, IM_EX, EX_EX, IM_ID, EX_ID, ID_EX}
use Rattle.routes.specs.declared.Route.{Route}
use Rattle.operand.specs.Indexed.{indexed_place}

-- a move's source and destination, and the state after the updates of both base registers
abbrev pub route_is : ℕ → ℕ → State → Route
route_is source target state = record { source = source; target = target; state = state }

-- The moves, by the codings on the pages of MOVB (p. 6-144) and MOVW (6-145). PC as a base is corrected by table 3-3 (002, p. 3-11). `size` is
-- the bytes of immediate data, which are as many as the move moves: 1 for MOVB and 2 for MOVW.

-- data and then the destination's address
abbrev pub immediate_to_extended : State → List ℕ → ℕ → ℕ → Route
immediate_to_extended s m at size = route_is at (word_at m (plus_w at size)) s

-- the source's address and then the destination's
abbrev pub extended_to_extended : State → List ℕ → ℕ → Route
extended_to_extended s m at = route_is (word_at m at) (word_at m (plus_w at 2)) s

-- the destination's postbyte and then the data; PC + 1 for a byte, PC + 2 for a word
unfoldable pub immediate_to_indexed : State → List ℕ → ℕ → ℕ → Route
immediate_to_indexed s m at size =
    let to = indexed_place s m at (plus_w s.pc size) in
    route_is (plus_w at 1) to.address to.state

-- the destination's postbyte and then the source's address; PC + 2
unfoldable pub extended_to_indexed : State → List ℕ → ℕ → Route
extended_to_indexed s m at =
    let to = indexed_place s m at (plus_w s.pc 2) in
    route_is (word_at m (plus_w at 1)) to.address to.state

-- the source's postbyte and then the destination's address; PC - 2
unfoldable pub indexed_to_extended : State → List ℕ → ℕ → Route
indexed_to_extended s m at =
    let from = indexed_place s m at (minus_w s.pc 2) in
    route_is from.address (word_at m (plus_w at 1)) from.state

-- The source's postbyte, PC - 1, and then the destination's, PC + 1. The source's address and update come first, and the
-- destination starts from the updated register (docs/MACHINE.md, "Addresses").
unfoldable pub indexed_to_indexed : State → List ℕ → ℕ → Route
indexed_to_indexed s m at =
    let from = indexed_place s m at (minus_w s.pc 1) in
    let to = indexed_place from.state m (plus_w at 1) (plus_w s.pc 1) in
    route_is from.address to.address to.state

unfoldable pub route_of : State → List ℕ → Mode → ℕ → ℕ → Route
route_of s m mode at size =
    pick (eqb (mode_number mode) (mode_number IM_EX)) (immediate_to_extended s m at size)
    (pick (eqb (mode_number mode) (mode_number EX_EX)) (extended_to_extended s m at)
    (pick (eqb (mode_number mode) (mode_number IM_ID)) (immediate_to_indexed s m at size)
    (pick (eqb (mode_number mode) (mode_number EX_ID)) (extended_to_indexed s m at)
    (pick (eqb (mode_number mode) (mode_number ID_EX)) (indexed_to_extended s m at) (indexed_to_indexed s m at)))))
