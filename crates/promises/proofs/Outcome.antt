-- The answer of every public operation is determined by its promise. Assumes nothing.
use mathlib.Core.Path.{sym, ◌∙◌}
use Rattle.machine.proofs.Laws.{same_reply}
use Rattle.steps.specs.End.{End}
use Rattle.promises.specs.Outcome.{OneNumber, OneNew, OneAnswer, OneStep, OneRun, OneRunOverRecords, OneRunOverATable, OneReset}

one_answer : (e : End) → OneAnswer e
one_answer e r r' n n' a b = (
  λ i. record {
    reply = same_reply r.reply r'.reply (a.reply ∙ sym b.reply) i;
    machine = record { state = (a.state ∙ sym b.state) i };
    cycles = (a.cycles ∙ sym b.cycles) i;
  },
  a.memory ∙ sym b.memory,
)

pub one_step : OneStep
one_step s m line = one_answer _

pub one_run : OneRun
one_run s m given budget = one_answer _

pub one_run_over_records : OneRunOverRecords
one_run_over_records s m rs budget = one_answer _

pub one_run_over_a_table : OneRunOverATable
one_run_over_a_table s m t budget = one_answer _

pub one_number : OneNumber
one_number reply r r' a b = a ∙ sym b

pub one_new : OneNew
one_new pc r r' a b = λ i. record { state = (a ∙ sym b) i }

pub one_reset : OneReset
one_reset m r r' a b = λ i. record {
  reply = same_reply r.reply r'.reply (a.0 ∙ sym b.0) i;
  machine = record { state = (a.1 ∙ sym b.1) i };
}
