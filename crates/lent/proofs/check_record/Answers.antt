use borrow.Author.Tests.{lt-ltb, le-ltb}
use mathlib.Core.Path.{◌≡◌, sym, ◌∙◌, ap}
use lib.ListN.{length}
use Rattle.packing.specs.Bytes.{record_size}
use Rattle.lent.specs.Lent.{first_of, all_zero}
use Rattle.lent.proofs.Laws.{error_again, error_first, first_passes, other_length, reserved_rest}
use Rattle.lent.proofs.check_record.Goals as goal

pub returns-in_err-record-clause-number : goal.returns-in_err-record-clause-number
returns-in_err-record-clause-number c = error_again _ _ c.from_residual.ensures.1 ∙ error_first _ _ _ c.in_err-record.ensures.number

pub returns-then-record-gt1-clause-number : goal.returns-then-record-gt1-clause-number
unfolding first_of
returns-then-record-gt1-clause-number c =
    rw (first_passes _ _ c.in_ok-record.ensures.number, ← c.in_ok-record.ensures.record, lt-ltb _ _ c.if-record-gt1.true)

pub returns-then-not-all_zero-clause-number : goal.returns-then-not-all_zero-clause-number
unfolding first_of
returns-then-not-all_zero-clause-number c =
    let passes = c.in_ok-record.ensures in
    let long : length c.in_ok-record.record.now ≡ record_size = rw passes.record (other_length c.args.r.now (sym passes.number)) in
    let some = c.if-not-all_zero.ensures ∙ ap all_zero (reserved_rest c.in_ok-record.record.now long) in
    rw (first_passes _ _ passes.number, ← passes.record, le-ltb _ _ c.if-record-gt1.false, ← some)

pub returns-clause-number : goal.returns-clause-number
unfolding first_of
returns-clause-number c =
    let passes = c.in_ok-record.ensures in
    let long : length c.in_ok-record.record.now ≡ record_size = rw passes.record (other_length c.args.r.now (sym passes.number)) in
    let none = c.if-not-all_zero.ensures ∙ ap all_zero (reserved_rest c.in_ok-record.record.now long) in
    rw (first_passes _ _ passes.number, ← passes.record, le-ltb _ _ c.if-record-gt1.false, ← none)
