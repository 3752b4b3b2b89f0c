-- Subroutines, waiting and loops: what changes the flow and has no operand in memory, without SWI, TRAP and RTI, whose vectors are the
-- machine's. The glossary of 002 (section 6.6), on the page that is named beside the instruction.
use Rattle.std.specs.Prelude.{ℕ, ◌≡◌, List}
use Rattle.word.specs.Word.{pick, plus_w, extend8}
use Rattle.memory.specs.Memory.{byte_at}
use Rattle.state.specs.declared.State.{State}
use Rattle.opcodes.specs.declared.kind.Kind.{Kind}
use Rattle.opcodes.specs.Kind.{same, BSR, RTS, WAI}
use Rattle.decode.specs.declared.Decoded.{Decoded}
use Rattle.effect.specs.declared.Effect.{Effect}
use Rattle.stack.specs.Stack.{subroutine_effect, return_effect}
use Rattle.frames.specs.Frames.{wait_effect}
use Rattle.flow.specs.Branches.{loop_done}

-- BSR (p. 6-49), RTS (6-178), WAI (6-213), and the last LOOP, the six loop primitives
unfoldable pub control_effect : State → List ℕ → Decoded → Effect
control_effect s m d =
    pick (same d.kind BSR) (subroutine_effect s d.cost (plus_w s.pc (extend8 (byte_at m d.at))))
    (pick (same d.kind RTS) (return_effect s m d.cost)
    (pick (same d.kind WAI) (wait_effect s d.cost) (loop_done s (byte_at m d.at) (byte_at m (plus_w d.at 1)) d.cost)))

-- the same by the address after the opcode and the cost, as the code has them
unfoldable pub control_done : Kind → State → List ℕ → ℕ → ℕ → Effect
control_done kind s m at cost =
    pick (same kind BSR) (subroutine_effect s cost (plus_w s.pc (extend8 (byte_at m at))))
    (pick (same kind RTS) (return_effect s m cost)
    (pick (same kind WAI) (wait_effect s cost) (loop_done s (byte_at m at) (byte_at m (plus_w at 1)) cost)))

-- Proved under the same name in proofs/Laws.antt.
abbrev pub DoneAsDecoded : Type 0
DoneAsDecoded = (s : State) (m : List ℕ) (d : Decoded) → control_done d.kind s m d.at d.cost ≡ control_effect s m d
