use mathlib.Core.Path.{sym, ◌∙◌}
use Rattle.turn.proofs.Laws.{operand_reserved, operand_done}
use Rattle.turn.proofs.operands.Goals as goal

pub returns-in_default : goal.returns-in_default
returns-in_default c line =
    rw (operand_reserved _ _ line c.requires.opcode_value c.requires.unplaced_group (sym c.in_default.is ∙ c.located.ensures))

pub returns : goal.returns
returns c line =
    rw (c.with_operand.ensures, operand_done _ _ line c.requires.opcode_value c.requires.unplaced_group (sym c.in-Some.is ∙ c.located.ensures))
