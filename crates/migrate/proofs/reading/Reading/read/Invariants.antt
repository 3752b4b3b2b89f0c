use mathlib.Core.Path.{◌≡◌}
use lib.ListN.{drop}
use Rattle.migrate.specs.Reading.{reading_is, read_on}
use Rattle.migrate.proofs.reading.Reading.read.Given as goal

abbrev pub invariant-loop-b : goal.invariant-loop-b
invariant-loop-b l = read_on (reading_is l.done l.part) (drop l.b-index l.text) ≡ read_on l.fn.self l.text
