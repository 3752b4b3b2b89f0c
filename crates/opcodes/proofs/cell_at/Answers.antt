use Rattle.opcodes.specs.Grid.{families, family_of}
use Rattle.opcodes.specs.Map.{page_one, page_two, cell_of, opcode_map}
use Rattle.opcodes.proofs.Cells.{cell_number_below, map_at}
use Rattle.opcodes.proofs.cell_at.Goals as goal

-- the table is the map, cell by cell, as antt computes
pub returns : goal.returns
unfolding opcode_map cell_of page_one page_two family_of families
returns c =
    rw (c.from.ensures, c.cell_number.ensures)
    (map_at _ _ (cell_number_below c.args.second c.ranges.opcode.fits))
