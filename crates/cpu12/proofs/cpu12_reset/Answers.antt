use mathlib.Core.Path.{refl}
use Rattle.cpu12.proofs.Laws.{error_refuses, passes_opens}
use Rattle.cpu12.proofs.cpu12_reset.Goals as goal

pub returns-in-Err : goal.returns-in-Err
returns-in-Err c = error_refuses _ _ _ _ _ c.number.ensures c.in-Err.ensures.number

pub returns : goal.returns
returns c =
    passes_opens _ _ _ _ c.in_default.ensures.number (record {
      reply_is = rw (c.told.ensures.0, c.answered.ensures.0) c.reset-started.ensures.0;
      state_is = rw (c.told.ensures.1, c.answered.ensures.1.0, c.answered.ensures.1.1, c.reset-started.ensures.1);
      memory_is = refl;
    })
