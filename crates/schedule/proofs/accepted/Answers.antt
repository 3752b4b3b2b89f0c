use Rattle.schedule.proofs.accepted.Goals as goal

-- As an equation, so that another test of the lengths is refused by its difference (must-fail/lines_and_cycles_of_other_lengths.edit).
pub returns : goal.returns
returns c = rw c.rising.ensures
