-- No second outcome satisfies the promise of a public operation: two answers that both meet it are the same, and so are the memories that
-- they leave. These are the public operations, and here is one theorem for each, proved under the same name in proofs/Outcome.antt:
--     Reply::number        OneNumber
--     Machine::new         OneNew
--     Machine::reset       OneReset
--     run::step            OneStep
--     run::run             OneRun
--     records::run         OneRunOverRecords
--     records::run_table   OneRunOverATable
-- The three functions of the static library have theirs, `OneOutcome`, in crates/cpu12/specs/Doors.antt.
use Rattle.std.specs.Prelude.{ℕ, ◌≡◌, List}
use Rattle.state.specs.declared.State.{State}
use Rattle.machine.specs.declared.Reply.{Reply}
use Rattle.machine.specs.declared.Machine.{Machine}
use Rattle.machine.specs.declared.Started.{Started}
use Rattle.machine.specs.Names.{number_of}
use Rattle.machine.specs.Reset.{reset_state, reset_reply, reset_of}
use Rattle.steps.specs.declared.Answer.{Answer}
use Rattle.refusals.specs.Given.{Given, given_is}
use Rattle.steps.specs.End.{End, Ends}
use Rattle.run.specs.Step.{step_of}
use Rattle.run.specs.Run.{run_of}
use Rattle.table.specs.declared.Record.{Record}
use Rattle.table.specs.declared.Table.{Table}
use Rattle.table.specs.Records.{cycles_of, lines_of, table_cycles, table_lines}

abbrev pub OneNumber : Type 0
OneNumber = (reply : Reply) (r r' : ℕ) → r ≡ number_of reply → r' ≡ number_of reply → r ≡ r'

abbrev pub OneNew : Type 0
OneNew = (pc : ℕ) (r r' : Machine) → r.state ≡ reset_state pc → r'.state ≡ reset_state pc → r ≡ r'

abbrev pub OneReset : Type 0
OneReset =
    (m : List ℕ) (r r' : Started) →
    (number_of r.reply ≡ reset_reply m) × (r.machine.state ≡ reset_of m) →
    (number_of r'.reply ≡ reset_reply m) × (r'.machine.state ≡ reset_of m) →
    r ≡ r'

-- an end has one answer and one memory
abbrev pub OneAnswer : End → Type 0
OneAnswer e = (r r' : Answer) (n n' : List ℕ) → Ends e r n → Ends e r' n' → (r ≡ r') × (n ≡ n')

abbrev pub OneStep : Type 0
OneStep = (s : State) (m : List ℕ) (line : ℕ) → OneAnswer (step_of s m line)

abbrev pub OneRun : Type 0
OneRun = (s : State) (m : List ℕ) (given : Given) (budget : ℕ) → OneAnswer (run_of s m given budget)

abbrev pub OneRunOverRecords : Type 0
OneRunOverRecords = (s : State) (m : List ℕ) (rs : List Record) (budget : ℕ) → OneAnswer (run_of s m (given_is (cycles_of rs) (lines_of rs)) budget)

abbrev pub OneRunOverATable : Type 0
OneRunOverATable = (s : State) (m : List ℕ) (t : Table) (budget : ℕ) → OneAnswer (run_of s m (given_is (table_cycles t) (table_lines t)) budget)
