use mathlib.Core.Path.{◌≡◌}
use Rattle.migrate.specs.Page.{empty_page, paired, with_kept}
use Rattle.migrate.proofs.page.kept.Given as goal

abbrev pub invariant-loop-cycle : goal.invariant-loop-cycle
invariant-loop-cycle l =
    with_kept l.page l.last (paired l.cycle-iterator.a.rest.now l.cycle-iterator.b.rest.now) ≡ with_kept empty_page 0 (paired l.cycles l.lines)
