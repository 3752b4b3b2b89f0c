use Rattle.std.proofs.Common.{ltb, rules}
use Rattle.std.proofs.lemmas.List.Sorted.{answers_always}
use Rattle.schedule.proofs.Laws.{rising_tested}
use Rattle.schedule.proofs.rising.Goals as goal

pub returns : goal.returns
returns c = rising_tested _ _ (c.is_sorted_by.ensures.cases ltb (answers_always _ _ _ (λ f a r f' call. search rules)))
