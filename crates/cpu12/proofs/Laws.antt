-- The laws of what a door leaves, on the definitions alone. Assumes nothing.
use Prim.Native.Nat.{ℕ}
use mathlib.Core.Path.{◌≡◌, refl, sym, ◌∙◌}
use mathlib.Core.Bool.{true, false}
use mathlib.Core.List.{List}
use lib.Dec.{eqb}
use borrow.Author.Tests.{eq-eqb, ne_eqb}
use Rattle.steps.specs.declared.Answer.{Answer}
use Rattle.machine.specs.Names.{number_of}
use Rattle.steps.specs.End.{End, Ends}
use Rattle.lent.specs.declared.LentError.{LentError}
use Rattle.lent.specs.Lent.{error_number}
use Rattle.lent.proofs.Laws.{error_counts}
use Rattle.packing.specs.Bytes.{bytes_of}
use Rattle.cpu12.specs.Doors.{unless, told, Left, Leaves, OneOutcome}

-- a door that refuses, and one that does not
pub door_refuses : (n : ℕ) (r m : List ℕ) (l : Left) {v : ℕ} → v ≡ n → (v ≡ 0 → ⊥) → Leaves (unless n r m l) v r m
unfolding unless
door_refuses n r m l {v} e h =
    let other : eqb n 0 ≡ false = rw (← e) (ne_eqb v 0 h) in
    record { reply_is = rw other e; state_is = rw other; memory_is = rw other }

pub door_opens : (n : ℕ) (r m : List ℕ) (l : Left) {v reply : ℕ} {r' m' : List ℕ}
    → v ≡ n → v ≡ 0 → Leaves l reply r' m' → Leaves (unless n r m l) reply r' m'
unfolding unless
door_opens n r m l e z done =
    let same : eqb n 0 ≡ true = rw (← e) (eq-eqb _ 0 z) in
    record { reply_is = rw same done.reply_is; state_is = rw same done.state_is; memory_is = rw same done.memory_is }

-- the machine's end, told in bytes
pub told_leaves : {e : End} {a : Answer} {reply : ℕ} {r' m' : List ℕ}
    → Ends e a m' → (reply ≡ number_of a.reply) × (r' ≡ bytes_of a.machine.state a.cycles) → Leaves (told e) reply r' m'
told_leaves ends said = record {
  reply_is = said.0 ∙ ends.reply;
  state_is = said.1 ∙ rw (ends.state, ends.cycles);
  memory_is = ends.memory;
}

pub one_outcome : OneOutcome
one_outcome l reply reply' r r' m m' a b = (
  a.reply_is ∙ sym b.reply_is,
  (a.state_is ∙ sym b.state_is, a.memory_is ∙ sym b.memory_is),
)

-- an error has a number that is not 0, and so its door refuses
pub error_refuses : (e : LentError) (n : ℕ) (r m : List ℕ) (l : Left) {v : ℕ} → v ≡ error_number e → error_number e ≡ n → Leaves (unless n r m l) v r m
error_refuses e n r m l told is = door_refuses n r m l (told ∙ is) (λ z. error_counts e (sym told ∙ z))

pub passes_opens : (n : ℕ) (r m : List ℕ) (l : Left) {reply : ℕ} {r' m' : List ℕ} → 0 ≡ n → Leaves l reply r' m' → Leaves (unless n r m l) reply r' m'
passes_opens n r m l is done = door_opens n r m l is refl done
