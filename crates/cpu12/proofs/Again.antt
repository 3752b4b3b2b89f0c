-- A record that is not refused says what its state says, and a refusal changes neither the record nor the memory. Assumes nothing.
use Prim.Native.Nat.{ℕ}
use mathlib.Core.Path.{◌≡◌, refl}
use mathlib.Core.Bool.{Bool, true, false}
use mathlib.Core.List.{List}
use lib.Dec.{eqb}
use borrow.Author.Tests.{ne_eqb, eqb-true}
use Rattle.word.specs.Word.{pick}
use Rattle.run.specs.Step.{step_of}
use Rattle.run.specs.Run.{run_of}
use Rattle.packing.proofs.Again.{bytes_again}
use Rattle.lent.specs.Lent.{record_refusal, lent_refusal}
use Rattle.cpu12.specs.Doors.{Left, left_is, unless}
use Rattle.cpu12.specs.Again.{RecordAgain, AsLent, RefusedStepKeeps, RefusedRunKeeps}
use Rattle.lent.proofs.Laws.{none_first, accepted}

pub record_again : RecordAgain
record_again r cycles bytes z = bytes_again r cycles bytes (accepted r z)

-- the door's own refusal leaves all as it was lent
door_keeps : (n : ℕ) (r m : List ℕ) (l : Left) → (n ≡ 0 → AsLent l r m) → AsLent (unless n r m l) r m
unfolding unless
door_keeps n r m l done = go (eqb n 0) refl
  where
    go : (t : Bool) → eqb n 0 ≡ t → AsLent (pick t l (left_is n r m)) r m
    go true same = done (eqb-true _ _ same)
    go false other = (refl, refl)

pub refused_step_keeps : RefusedStepKeeps
unfolding step_of
refused_step_keeps r m line bytes refuses =
    door_keeps (record_refusal r) r m _ (λ z. rw (ne_eqb _ _ refuses) (record_again r 0 bytes z, refl))

pub refused_run_keeps : RefusedRunKeeps
unfolding run_of
refused_run_keeps r m schedule budget bytes refuses =
    door_keeps (lent_refusal r schedule) r m _
    (λ z. rw (ne_eqb _ _ refuses) (record_again r 0 bytes (none_first _ _ z), refl))
