use Rattle.text.proofs.Laws.{one_more}
use Rattle.text.proofs.Text.put_all.Goals as goal

pub loop-byte-preserved : goal.loop-byte-preserved
loop-byte-preserved c = one_more _ _ c.loop-byte-test.true c.loop-byte.invariant c.put-self.ensures
