-- The laws of the codes, on the definitions alone. Assumes nothing.
use Rattle.std.proofs.Common.{◌≡◌, ℕ, zero, suc, ◌≤◌, refl, arith}
use lib.Bits.{bit_and, bit_or}
use Rattle.state.specs.Ccr.{ccr_of}
use Rattle.state.proofs.Laws.{never_sets_x}
use Rattle.codes.specs.Conditions.{AndccKeepsX, OrccKeepsX, RowSeven}

-- what the last arm of a `match` whose arms are 0 to k - 1 knows of its number
abbrev pub Past : ℕ → ℕ → Type 0
Past zero n = Unit {0}
Past (suc k) n = Past k n × (n ≡ k → ⊥)

pub past : (k n : ℕ) → Past k n → k ≤ n
past zero n r = omega arith
past (suc k) n r =
    let least = past k n r.0 in
    let other = r.1 in
    omega arith

pub andcc_keeps_x : AndccKeepsX
andcc_keeps_x f mask = never_sets_x f (bit_and (ccr_of f) mask)

pub orcc_keeps_x : OrccKeepsX
orcc_keeps_x f mask = never_sets_x f (bit_or (ccr_of f) mask)

pub row_seven : RowSeven
row_seven = refl
