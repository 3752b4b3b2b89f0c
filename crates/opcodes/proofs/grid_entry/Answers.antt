use Rattle.opcodes.specs.Grid.{grid, grid_at}
use mathlib.Core.Path.{refl, sym}
use Rattle.opcodes.proofs.Cells.{past_rows, past_columns}
use Rattle.opcodes.proofs.grid_entry.Goals as goal

pub returns : goal.returns
unfolding grid_at grid
returns c = rw (c.from.ensures, c.from-2.ensures) refl

pub returns-then-family-ge18 : goal.returns-then-family-ge18
returns-then-family-ge18 c = sym (past_rows _ _ c.if-family-ge18.true)

pub returns-then-column-ge8 : goal.returns-then-column-ge8
returns-then-column-ge8 c = sym (past_columns _ _ c.if-column-ge8.true)
