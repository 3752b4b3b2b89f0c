use Rattle.refusals.specs.Given.{given_is}
use Rattle.steps.proofs.Loop.{Going}
use Rattle.steps.proofs.go.Given as goal

abbrev pub invariant-loop-more : goal.invariant-loop-more
invariant-loop-more l =
    Going (given_is l.schedule.cycles.now l.schedule.lines.now) l.initial.m l.initial.s l.budget l.boundaries l.m l.s l.watch l.more

abbrev pub decreases-loop-more : goal.decreases-loop-more
decreases-loop-more l = l.more
