-- What the pages of LSR and LSRD print of N and V is what the shift gives; and a shift to the right is a halving of one bit more.
-- Assumes nothing.
use Prim.Native.Nat.{ℕ, suc, ◌+◌, ◌*◌, ◌/◌, ◌%◌, ◌^◌, ◌<◌}
use native.Mathlib.Nat.{add-zero, div-eq_of_lt, mod-eq_of_lt}
use native.Mathlib.Omega.{arith}
use mathlib.Core.Path.{◌≡◌, refl}
use mathlib.Core.Bool.{Bool, true, false}
use Rattle.std.specs.Int.{from_bool}
use Rattle.results.specs.Results.{exclusive_or}
use Rattle.shift.specs.Shift.{right_of, ClearsN, OverflowIsC}

-- the bit that comes in stands above the top bit, and all are halved
pub halved : (k m : ℕ) (high : Bool) → m < 2 ^ suc k → (m + from_bool high * 2 ^ suc k) / 2 % 2 ^ suc k ≡ right_of k m high
halved k m true l =
    let less : (m + 1 * 2 ^ suc k) / 2 < 2 ^ suc k = omega arith in
    rw (mod-eq_of_lt less) (omega arith)
halved k m false l =
    let less : (m + 0 * 2 ^ suc k) / 2 < 2 ^ suc k = omega arith in
    rw (mod-eq_of_lt less) (omega arith)

pub clears_n : ClearsN
clears_n k m l =
    let less : m / 2 < 2 ^ k = omega arith in
    rw (add-zero (m / 2), div-eq_of_lt less)

pub overflow_is_c : OverflowIsC
overflow_is_c k m c l = rw (clears_n k m l) (same c)
  where
    same : (c : Bool) → exclusive_or false c ≡ c
    same true = refl
    same false = refl
