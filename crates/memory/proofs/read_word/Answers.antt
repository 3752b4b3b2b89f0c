use Rattle.memory.proofs.read_word.Goals as goal

-- As equations, so that another order of the bytes is refused by its difference (must-fail/low_byte_first.edit).
pub returns : goal.returns
returns c = rw (c.word.ensures, c.read_byte-low.ensures, c.next.ensures, c.read_byte-high.ensures)
