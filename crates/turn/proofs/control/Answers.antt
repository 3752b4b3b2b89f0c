use Rattle.flow.specs.Control.{control_done, control_effect}
use Rattle.turn.specs.Turn.{executed, controlled, control_by, instructed}
use Rattle.turn.proofs.Laws.{control_free}
use Rattle.turn.proofs.control.Goals as goal

pub returns-then-is_loop-loop_reserved : goal.returns-then-is_loop-loop_reserved
unfolding instructed
returns-then-is_loop-loop_reserved c =
    rw (control_free c.args.m.now c.args.s.pc c.requires.opcode_value (rw c.requires.kind_value) c.read_byte-postbyte.ensures c.is_loop.ensures c.loop_reserved.ensures c.if-is_loop-loop_reserved.true)

pub returns : goal.returns
unfolding instructed executed controlled control_by control_done control_effect
returns c =
    rw (
      control_free c.args.m.now c.args.s.pc c.requires.opcode_value (rw c.requires.kind_value) c.read_byte-postbyte.ensures c.is_loop.ensures c.loop_reserved.ensures c.if-is_loop-loop_reserved.false,
      c.controlled.ensures,
      c.past.ensures,
      c.requires.kind_value,
    )
