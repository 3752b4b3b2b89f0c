-- The laws of the line, on the definitions alone. Assumes nothing.
use Prim.Native.Nat.{ℕ, ◌<◌, ◌≤◌, ◌^◌}
use native.Mathlib.Omega.{arith}
use mathlib.Core.List.{List, ◌++◌}
use borrow.Author.Tests.{ne_eqb}
use lib.ListN.{length, length-append}
use Rattle.state.specs.declared.State.{State}
use Rattle.machine.specs.Names.{memory_size}
use Rattle.run.specs.Run.{run_of}
use Rattle.text.specs.declared.Text.{Text}
use Rattle.text.specs.Text.{Followed, numeral, last_digits}
use Rattle.text.proofs.Laws.{and_then}
use Rattle.text.proofs.Digits.{digits_at_most}
use Rattle.signbench.specs.Bench.{line_of, WrongImage}

-- a name put, and then a value
pub named : {t r s u : Text} {before name value : List ℕ} → Followed t before r → Followed r name s → Followed s value u
    → Followed t (before ++ name ++ value) u
named before name value = and_then (and_then before name) value

-- 74 bytes at most: a reply has three digits at most, and cycles ten
pub line_fits : (reply cycles : ℕ) (s : State) → reply < 10 ^ 3 → cycles < 10 ^ 10 → length (line_of reply cycles s) ≤ 80
unfolding line_of
line_fits reply cycles s small few =
    let three : length (numeral 10 reply) ≤ 3 = digits_at_most 64 2 10 reply (omega arith) small in
    let ten : length (numeral 10 cycles) ≤ 10 = digits_at_most 64 9 10 cycles (omega arith) few in
    simp length-append (omega arith)

pub wrong_image : WrongImage
unfolding run_of line_of last_digits
wrong_image m other = rw (ne_eqb (length m) memory_size other)
