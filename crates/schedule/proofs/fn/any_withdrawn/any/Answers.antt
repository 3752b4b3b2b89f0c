use Rattle.schedule.proofs.fn.any_withdrawn.any.Goals as goal

-- As an equation, so that a test of another record is refused by its difference (must-fail/only_the_first_record_tested.edit).
pub returns : goal.returns
returns c = c.withdrawn.ensures
