use Rattle.std.proofs.Common.{◌≡◌}
use Rattle.schedule.specs.Schedule.{withdrawn}
use Rattle.schedule.proofs.fn.any_withdrawn.any.Given as goal

-- what it says of a record, which is about this record's byte
abbrev pub ensures : goal.ensures
ensures l r = r ≡ withdrawn l.line.entry.now
