use native.Mathlib.Omega.{arith}
use native.Mathlib.Numerals.{add-one}
use Rattle.schedule.proofs.Laws.{passed_inside, passed_here, passed_on}
use Rattle.schedule.proofs.passed.Goals as goal

pub returns-then-cycles-place : goal.returns-then-cycles-place
returns-then-cycles-place c = passed_here _ _ _ c.loop-place.invariant c.loop-place-test.true c.if-cycles-place.true

pub loop-place-preserved : goal.loop-place-preserved
loop-place-preserved c =
    rw (add-one c.loop-place.place)
    (passed_on _ _ _ c.loop-place.invariant c.loop-place-test.true c.if-cycles-place.false)

pub returns : goal.returns
returns c =
    let inside = passed_inside c.args.cycles.now c.args.clock in
    omega (arith, c.loop-place.invariant, c.loop-place-test.false, inside)
