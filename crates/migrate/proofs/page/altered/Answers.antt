use Rattle.migrate.proofs.Pages.{altered_counted}
use Rattle.migrate.proofs.page.altered.Goals as goal
use Rattle.std.proofs.Common.{rules}

pub returns : goal.returns
returns c = rw (altered_counted c.args.lines.now) (search rules)
