use native.Mathlib.Omega.{arith}
use borrow.Author.Rules.{rules}
use mathlib.Core.Path.{refl, sym, ◌∙◌, ap}
use Rattle.turn.specs.Turn.{turn_of, turn_from}
use Rattle.refusals.specs.Given.{given_is}
use Rattle.steps.proofs.Loop.{in_force_here, turned, ends_over, ends_halted, ends_spent}
use Rattle.steps.proofs.Idle.{due_later, idled}
use Rattle.steps.proofs.go.Goals as goal

pub idle_cycles-idle-requires : goal.idle_cycles-idle-requires
idle_cycles-idle-requires c =
    let later = due_later (given_is _ _) _ _ c.next_watch-watch.ensures (omega (arith, c.requires.budget_bound, c.loop-more.invariant.until)) in
    omega (arith, later)

pub loop-more-preserved-then-idle-gt0 : goal.loop-more-preserved-then-idle-gt0
loop-more-preserved-then-idle-gt0 c =
    idled c.loop-more.invariant c.requires.cycles_value c.requires.cycles_len c.requires.budget_bound _ c.next_watch-watch.ensures _ c.idle_cycles-idle.ensures
    c.if-idle-gt0.true _ (search rules)

pub loop-more-preserved : goal.loop-more-preserved
loop-more-preserved c =
    let given = given_is c.args.schedule.cycles.now c.args.schedule.lines.now in
    let line = in_force_here given _ _ c.requires.cycles_value c.requires.cycles_len c.next_watch-watch.ensures in
    let found = ap (turn_from c.loop-more.s) (sym c.in-Ok.is) ∙ c.turn_at.ensures ∙ ap (turn_of c.loop-more.s c.loop-more.m) line in
    turned c.loop-more.invariant _ c.next_watch-watch.ensures c.if-more-eq0.false _ _ _ found refl
    (search rules) c.act-s.ensures.0 c.act-s.ensures.1

pub returns-then-more-eq0 : goal.returns-then-more-eq0
returns-then-more-eq0 c =
    ends_over c.loop-more.invariant c.if-more-eq0.true _ c.answered.ensures.0 c.answered.ensures.1.0 c.answered.ensures.1.1

pub returns-in-Err : goal.returns-in-Err
returns-in-Err c =
    let given = given_is c.args.schedule.cycles.now c.args.schedule.lines.now in
    let line = in_force_here given _ _ c.requires.cycles_value c.requires.cycles_len c.next_watch-watch.ensures in
    let found = ap (turn_from c.loop-more.s) (sym c.in-Err.is) ∙ c.turn_at.ensures ∙ ap (turn_of c.loop-more.s c.loop-more.m) line in
    ends_halted _ c.loop-more.invariant c.if-more-eq0.false c.in-Err.halt found
    _ (c.answered-in-Err.ensures.0 ∙ c.from.ensures) c.answered-in-Err.ensures.1.0 c.answered-in-Err.ensures.1.1

pub returns-then-left-from : goal.returns-then-left-from
returns-then-left-from c =
    let given = given_is c.args.schedule.cycles.now c.args.schedule.lines.now in
    let line = in_force_here given _ _ c.requires.cycles_value c.requires.cycles_len c.next_watch-watch.ensures in
    let found = ap (turn_from c.loop-more.s) (sym c.in-Ok.is) ∙ c.turn_at.ensures ∙ ap (turn_of c.loop-more.s c.loop-more.m) line in
    ends_spent _ c.loop-more.invariant c.if-more-eq0.false _ found refl (search rules)
    _ c.answered-then-left-from.ensures.0 c.answered-then-left-from.ensures.1.0 c.answered-then-left-from.ensures.1.1
