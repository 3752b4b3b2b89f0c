-- As equations, so that another place of the second postbyte is refused by its difference (must-fail/second_postbyte_forgotten.edit).
use borrow.Author.Tests.{eq-eqb}
use mathlib.Core.Path.{ap}
use Rattle.opcodes.specs.Mode.{mode_number}
use Rattle.decode.proofs.second_reserved.Goals as goal
use Rattle.decode.proofs.second_reserved.Goals.{in-IdId, in_default}

pub returns-then-matches : goal.returns-then-matches
returns-then-matches c =
    elim c.match-matches.branch [
      | in-IdId w ↦ rw (c.reserved.ensures, eq-eqb _ _ (ap mode_number w.in-IdId.is), c.read_byte-postbyte.ensures, c.plus.ensures)
      | in_default w ↦ cc
    ]
