-- The two formulas of NEG as comparisons, each tested at every byte, and two rows and a trap of docs/MACHINE.md. Assumes nothing.
use Rattle.std.proofs.Common.{◌≡◌, ℕ, ◌<◌, not, eqb, refl}
use Rattle.word.proofs.Table.{same, same_is, at_number}
use Rattle.alu.specs.Alu.{neg_overflow, neg_borrow, RowTwo, RowSix, CountingKeepsC}

pub neg_overflow_lem : {r : ℕ} → r < 256 → eqb r 128 ≡ neg_overflow r
neg_overflow_lem {r} l = same_is _ _ (at_number (λ n. same (eqb n 128) (neg_overflow n)) 256 tt r l)

pub neg_borrow_lem : {r : ℕ} → r < 256 → not (eqb r 0) ≡ neg_borrow r
neg_borrow_lem {r} l = same_is _ _ (at_number (λ n. same (not (eqb n 0)) (neg_borrow n)) 256 tt r l)

pub row_two : RowTwo
row_two = (refl, refl)

pub row_six : RowSix
row_six f = refl

pub counting_keeps_c : CountingKeepsC
counting_keeps_c f m = (refl, refl)
