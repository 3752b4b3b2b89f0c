-- The laws of transfers and exchanges, on the definitions alone. Assumes nothing.
use Prim.Native.Nat.{ℕ, ◌+◌, ◌/◌, ◌%◌, ◌≤◌, ◌<◌}
use native.Mathlib.Omega.{arith}
use native.Mathlib.Decide.{dec_le}
use mathlib.Core.Path.{◌≡◌}
use mathlib.Core.Bool.{true}
use lib.Dec.{leb, eqb}
use borrow.Author.Tests.{le-leb, lt-leb}
use Rattle.word.specs.Word.{pick}
use Rattle.word.proofs.Laws.{both, high_word_lem, low_word_lem}
use Rattle.state.specs.declared.State.{State}
use Rattle.state.proofs.Laws.{never_sets_x, ccr_below}
use Rattle.opcodes.specs.Postbyte.{transfer_reserved}
use Rattle.transfers.specs.Registers.{byte_from, moved, sign_fill, back_fill, tfr_of, exg_of}
use Rattle.transfers.specs.Registers.{CellC0, CellC1, CellC2, Cell84, Cell94, CellA4, IgnoresBit3, TransferKeepsX}

pub cell_c0 : CellC0
cell_c0 s a b = rw (low_word_lem 0 a)

pub cell_c1 : CellC1
cell_c1 s a b = rw (high_word_lem 255 b)

pub cell_c2 : CellC2
cell_c2 s a b = rw (high_word_lem 255 (ccr_below s.flags), low_word_lem 255 (ccr_below s.flags))

pub cell_84 : Cell84
cell_84 s a b = rw (high_word_lem 0 a, low_word_lem 0 a)

pub cell_94 : Cell94
cell_94 s a b = rw (high_word_lem 0 b, low_word_lem 0 b)

pub cell_a4 : CellA4
cell_a4 s a b = rw (high_word_lem 0 (ccr_below s.flags), low_word_lem 0 (ccr_below s.flags))

pub ignores_bit_3 : IgnoresBit3
ignores_bit_3 s p l =
    let first : (p + 8) / 16 % 8 ≡ p / 16 % 8 = omega arith in
    let second : (p + 8) % 8 ≡ p % 8 = omega arith in
    rw (first, second, same (dec_le 128 p))
  where
    same : Dec (128 ≤ p) → leb 128 (p + 8) ≡ leb 128 p
    same (yes h) = rw (le-leb 128 p h, le-leb 128 (p + 8) (omega arith))
    same (no h) = let less : p < 128 = omega arith in rw (lt-leb 128 p less, lt-leb 128 (p + 8) (omega arith))

-- X is set in t only where it is set in old
KeptX : State → State → Type 0
KeptX old t = t.flags.x ≡ true → old.flags.x ≡ true

moved_keeps_x : (s old : State) (to from fill : ℕ) → KeptX old s → KeptX old (moved s old to from fill)
unfolding KeptX
moved_keeps_x s old to from fill h =
    both (KeptX old) (leb 4 to) _ _
    (both (KeptX old) (eqb to 4) _ _ h (both (KeptX old) (eqb to 5) _ _ h (both (KeptX old) (eqb to 6) _ _ h h)))
    (both (KeptX old) (eqb to 0) _ _ h (both (KeptX old) (eqb to 1) _ _ h (never_sets_x old.flags (byte_from old from))))

pub transfer_keeps_x : TransferKeepsX
unfolding KeptX
transfer_keeps_x s p =
    let r1 = p / 16 % 8 in
    let r2 = p % 8 in
    let same : KeptX s s = λ e. e in
    both (KeptX s) (transfer_reserved p) s (pick (leb 128 p) (exg_of s r1 r2) (tfr_of s r1 r2)) same
    (both (KeptX s) (leb 128 p) (exg_of s r1 r2) (tfr_of s r1 r2)
    (moved_keeps_x (moved s s r1 r2 (back_fill r2)) s r2 r1 0 (moved_keeps_x s s r1 r2 (back_fill r2) same))
    (moved_keeps_x s s r2 r1 (sign_fill (byte_from s r1)) same))
