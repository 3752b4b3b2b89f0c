use mathlib.Core.Logic.{inl, inr}
use mathlib.Core.Path.{refl}
use Rattle.migrate.proofs.Pages.{put_kept, left_out, one_kept, all_kept}
use Rattle.migrate.proofs.page.kept.Goals as goal

-- As equations, so that another byte before the first is refused by its difference (must-fail/first_record_always_kept.edit).
pub loop-cycle-init : goal.loop-cycle-init
loop-cycle-init c =
    let items = c.zip-cycle-items.ensures in
    rw (c.empty-page.ensures, c.into_iter-cycle-iterator.ensures.into_iter_gives, items.first, items.second.0, c.iter.ensures.rest)

pub loop-cycle-preserved-then-line-last : goal.loop-cycle-preserved-then-line-last
loop-cycle-preserved-then-line-last c =
    let turn = c.loop-cycle in
    let line = c.cleared-line in
    let both = c.in-Some.ensures.steps in
    one_kept turn.page c.put-page.result _ turn.last line.result _ _ _ _ _ _ both.0 both.1 line.ensures turn.invariant
    (put_kept turn.page c.put-page.result _ turn.last _ line.result c.if-line-last.true c.record_text.ensures c.put-page.ensures)

pub loop-cycle-preserved : goal.loop-cycle-preserved
loop-cycle-preserved c =
    let turn = c.loop-cycle in
    let line = c.cleared-line in
    let both = c.in-Some.ensures.steps in
    one_kept turn.page turn.page _ turn.last line.result _ _ _ _ _ _ both.0 both.1 line.ensures turn.invariant
    (left_out turn.page turn.page turn.last _ line.result c.if-line-last.false refl)

pub returns : goal.returns
returns c =
    all_kept c.loop-cycle.page _ c.loop-cycle.last _ _
    (elim c.in-None.ensures.steps [ inl w ↦ inl w.1.0 | inr w ↦ inr w.1.0 ]) c.loop-cycle.invariant
