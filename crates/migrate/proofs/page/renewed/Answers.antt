use Rattle.migrate.proofs.Renewed.{page_within, renewed_page}
use Rattle.migrate.proofs.page.renewed.Goals as goal

pub overflow_sub-removed : goal.overflow_sub-removed
overflow_sub-removed c =
    rw c.len.ensures.value (page_within c.args.cycles.now c.args.lines.now c.requires.0 c.requires.1 _ c.kept-page.ensures)

pub returns : goal.returns
returns c =
    renewed_page c.args.cycles.now c.args.lines.now c.requires.0 c.requires.1 c.kept-page.result _ _ _ c.kept-page.ensures
    c.altered.ensures (rw c.len.ensures.value at c.counts_text.ensures) c.put.ensures
