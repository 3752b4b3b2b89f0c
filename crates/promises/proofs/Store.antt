-- Nothing else changes, on the definitions alone. Assumes nothing.
use Rattle.memory.specs.Memory.{bytes_stored}
use Rattle.memory.proofs.Laws.{stores_exactly}
use Rattle.turn.specs.Turn.{turn_of}
use Rattle.walk.proofs.Bounds.{every_store_is_short}
use Rattle.run.specs.Step.{step_of}
use Rattle.promises.specs.Store.{OnlyTheStore}
use Rattle.promises.proofs.Words.{every_step_keeps_words}

pub only_the_store : OnlyTheStore
unfolding step_of
only_the_store s m line a words bytes whole free inside =
    let in-at = (every_step_keeps_words s m line words bytes).address in
    rw free (stores_exactly m _ (bytes_stored (turn_of s m line).effect.store) a whole in-at (every_store_is_short s m line bytes) inside)
