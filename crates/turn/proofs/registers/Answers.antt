use Rattle.execute16.specs.Registers.{registers_effect}
use Rattle.turn.specs.Turn.{executed, instructed}
use Rattle.turn.proofs.Laws.{registers_free}
use Rattle.turn.proofs.registers.Goals as goal

pub returns-then-is_transfer-transfer_reserved : goal.returns-then-is_transfer-transfer_reserved
unfolding instructed
returns-then-is_transfer-transfer_reserved c line =
    rw (registers_free c.args.m.now c.args.s.pc c.requires.opcode_value (rw c.requires.kind_value) c.read_byte-postbyte.ensures c.is_transfer.ensures c.transfer_reserved.ensures c.if-is_transfer-transfer_reserved.true)

pub returns : goal.returns
unfolding instructed executed registers_effect
returns c line =
    rw (
      registers_free c.args.m.now c.args.s.pc c.requires.opcode_value (rw c.requires.kind_value) c.read_byte-postbyte.ensures c.is_transfer.ensures c.transfer_reserved.ensures c.if-is_transfer-transfer_reserved.false,
      c.registers.ensures,
      c.past.ensures,
      c.requires.kind_value,
      c.read_byte-postbyte.ensures,
    )
