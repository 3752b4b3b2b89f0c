use mathlib.Core.Path.{◌∙◌}
use Rattle.migrate.specs.Reading.{reading_is}
use Rattle.migrate.proofs.Bytes.{line_ends, line_goes_on, one_read, all_read}
use Rattle.migrate.proofs.reading.Reading.read.Goals as goal
use Rattle.migrate.proofs.reading.Reading.read.Goals.{then-b-eq10, else-b-eq10}

pub loop-b-preserved : goal.loop-b-preserved
loop-b-preserved c =
    let turn = c.loop-b in
    let next = reading_is c.if-b-eq10.done c.if-b-eq10.part in
    one_read (reading_is turn.done turn.part) next _ _ turn.b-index c.loop-b-test.true turn.invariant
    (elim c.if-b-eq10.branch [
      | then-b-eq10 w ↦ line_ends turn.done turn.part _ _ _ w.if-b-eq10.true (w.done-is ∙ w.with_line-done.ensures) w.part-is
      | else-b-eq10 w ↦ line_goes_on turn.done turn.part _ _ _ w.if-b-eq10.false w.done-is (w.part-is ∙ w.grown-part.ensures)
    ])

pub returns : goal.returns
returns c =
    let end = c.loop-b in
    all_read (reading_is end.done end.part) _ _ end.b-index c.loop-b-test.false end.invariant
