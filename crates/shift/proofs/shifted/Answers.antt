use Rattle.shift.proofs.shifted.Goals as goal

-- As equations, so that another V is refused by its difference (must-fail/overflow_without_the_exclusive_or.edit).
pub returns : goal.returns
returns g c = rw (c.codes-flags.ensures, c.exclusive_or-v.ensures, c.top_bit.ensures)
