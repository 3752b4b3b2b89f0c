use Rattle.schedule.proofs.Laws.{watch_still, watch_reached}
use Rattle.schedule.proofs.next_watch.Goals as goal

pub returns-then-clock-w : goal.returns-then-clock-w
returns-then-clock-w c = watch_still _ _ _ _ c.requires c.if-clock-w.true

pub watch_from-requires : goal.watch_from-requires
watch_from-requires c = watch_reached _ _ _ _ c.requires
