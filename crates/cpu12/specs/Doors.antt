-- What each door leaves, for every input: reply, state record and memory. The refusals of what is lent come before the machine's replies.
use Rattle.std.specs.Prelude.{ℕ, ◌≡◌, List, eqb}
use Rattle.word.specs.Word.{pick}
use Rattle.machine.specs.Reset.{reset_reply, reset_of}
use Rattle.refusals.specs.Given.{given_is}
use Rattle.steps.specs.End.{End}
use Rattle.run.specs.Step.{step_of}
use Rattle.run.specs.Run.{run_of}
use Rattle.table.specs.Records.{cycles_of, lines_of}
use Rattle.packing.specs.Bytes.{state_of, bytes_of, records_of}
use Rattle.lent.specs.Lent.{length_refusal, record_refusal, lent_refusal}

-- the version of the boundary (docs/GUIDE-ABI.md says what a change of it means)
abbrev pub version : ℕ
version = 2

-- what a door leaves: the reply's number, the bytes of the state record, and the memory
pub record Left : Type 0 where
  pub reply : ℕ
  pub state : List ℕ
  pub memory : List ℕ

abbrev pub left_is : ℕ → List ℕ → List ℕ → Left
left_is reply r m = record { reply = reply; state = r; memory = m }

-- an end of the machine, in bytes
abbrev pub told : End → Left
told e = left_is e.reply (bytes_of e.state e.cycles) e.memory

-- what is left where nothing is refused; a refusal of the door's own leaves all as it was lent
unfoldable pub unless : ℕ → List ℕ → List ℕ → Left → Left
unless refusal r m l = pick (eqb refusal 0) l (left_is refusal r m)

-- a reset needs no state: of the record it asks the length alone
abbrev pub reset_leaves : List ℕ → List ℕ → Left
reset_leaves r m = unless (length_refusal r) r m (left_is (reset_reply m) (bytes_of (reset_of m) 0) m)

-- a step of the state in the record
abbrev pub step_leaves : List ℕ → List ℕ → ℕ → Left
step_leaves r m line = unless (record_refusal r) r m (told (step_of (state_of r) m line))

-- a run of the state in the record, over the records of a packed schedule
abbrev pub run_leaves : List ℕ → List ℕ → List ℕ → ℕ → Left
run_leaves r m schedule budget =
    unless (lent_refusal r schedule) r m
    (told (run_of (state_of r) m (given_is (cycles_of (records_of schedule)) (lines_of (records_of schedule))) budget))

-- What is promised of a door's reply, and of the record r' and the memory m' at exit: they are what is left.
pub record Leaves (l : Left) (reply : ℕ) (r' m' : List ℕ) : Type 0 where
  pub reply_is : reply ≡ l.reply
  pub state_is : r' ≡ l.state
  pub memory_is : m' ≡ l.memory

-- No second outcome satisfies a door's promise; proved under the same name in proofs/Laws.antt.
abbrev pub OneOutcome : Type 0
OneOutcome =
    (l : Left) (reply reply' : ℕ) (r r' m m' : List ℕ) →
    Leaves l reply r m →
    Leaves l reply' r' m' →
    (reply ≡ reply') × ((r ≡ r') × (m ≡ m'))
