-- Registers that hold what they have room for: setting one keeps that, and what they send, their bases and their frame fit too. On
-- the definitions alone. Assumes nothing.
use Prim.Native.Nat.{ℕ, zero, suc, ◌%◌, ◌<◌}
use native.Mathlib.Omega.{arith}
use mathlib.Core.Bool.{Bool}
use mathlib.Core.List.{List, [], ◌∷◌}
use lib.Dec.{leb, eqb}
use lib.ListN.{get_or}
use Rattle.word.specs.Word.{low_of, plus_w}
use Rattle.word.proofs.Laws.{word_below}
use Rattle.memory.specs.Memory.{word_at, IsWhole}
use Rattle.state.specs.declared.Flags.{Flags}
use Rattle.state.specs.declared.State.{State}
use Rattle.state.specs.Ccr.{ccr_of}
use Rattle.state.specs.State.{with_a, with_b, with_d, with_x, with_y, with_sp, with_pc, with_flags, with_waiting, with_clock, d_of}
use Rattle.transfers.specs.Registers.{byte_from, word_from}
use Rattle.word.proofs.Laws.{both}
use Rattle.state.proofs.Laws.{ccr_below}
use Rattle.operand.specs.Indexed.{base_of}
use Rattle.frames.specs.Frames.{frame_of, frame_store}
use Rattle.walk.specs.Words.{Words}

-- every number of a list is below a bound, and so is 0, which stands for what is past its end
pub record Below (n : ℕ) (l : List ℕ) : Type 0 where
  pub at : (i : ℕ) → get_or l i 0 < n

pub none : {n : ℕ} → zero < n → Below n []
none h = record { at = λ i. h }

pub more : {n b : ℕ} {bs : List ℕ} → b < n → Below n bs → Below n (b ∷ bs)
more {n} {b} {bs} h t = record { at = go }
  where
    go : (i : ℕ) → get_or (b ∷ bs) i 0 < n
    go zero = h
    go (suc i) = t.at i

-- the word at any address of a memory of bytes
pub word_at_lem : {m : List ℕ} → Below 256 m → (a : ℕ) → word_at m a < 65536
word_at_lem bytes a = word_below (bytes.at a) (bytes.at (plus_w a 1))

pub d_word : {s : State} → Words s → d_of s < 65536
d_word w = word_below w.a w.b

-- registers set, one at a time
module _ {s : State} (w : Words s) where
  pub set_a : {v : ℕ} → v < 256 → Words (with_a s v)
  set_a h = record { a = h; b = w.b; x = w.x; y = w.y; sp = w.sp; pc = w.pc }

  pub set_b : {v : ℕ} → v < 256 → Words (with_b s v)
  set_b h = record { a = w.a; b = h; x = w.x; y = w.y; sp = w.sp; pc = w.pc }

  pub set_d : {v : ℕ} → v < 65536 → Words (with_d s v)
  set_d h = record { a = omega arith; b = omega arith; x = w.x; y = w.y; sp = w.sp; pc = w.pc }

  pub set_x_lem : {v : ℕ} → v < 65536 → Words (with_x s v)
  set_x_lem h = record { a = w.a; b = w.b; x = h; y = w.y; sp = w.sp; pc = w.pc }

  pub set_y : {v : ℕ} → v < 65536 → Words (with_y s v)
  set_y h = record { a = w.a; b = w.b; x = w.x; y = h; sp = w.sp; pc = w.pc }

  pub set_sp : {v : ℕ} → v < 65536 → Words (with_sp s v)
  set_sp h = record { a = w.a; b = w.b; x = w.x; y = w.y; sp = h; pc = w.pc }

  pub set_pc : {v : ℕ} → v < 65536 → Words (with_pc s v)
  set_pc h = record { a = w.a; b = w.b; x = w.x; y = w.y; sp = w.sp; pc = h }

  pub set_flags : {f : Flags} → Words (with_flags s f)
  set_flags = record { a = w.a; b = w.b; x = w.x; y = w.y; sp = w.sp; pc = w.pc }

  pub set_waiting_lem : {t : Bool} → Words (with_waiting s t)
  set_waiting_lem = record { a = w.a; b = w.b; x = w.x; y = w.y; sp = w.sp; pc = w.pc }

  pub set_clock : {n : ℕ} → Words (with_clock s n)
  set_clock = record { a = w.a; b = w.b; x = w.x; y = w.y; sp = w.sp; pc = w.pc }

-- what a register sends in a transfer

bytes_held :
    {s : State} →
    Words s →
    Below 256 (s.a ∷ s.b ∷ ccr_of s.flags ∷ 0 ∷ s.b ∷ low_of s.x ∷ low_of s.y ∷ low_of s.sp ∷ [])
bytes_held {s} w =
    more w.a
    (more w.b
    (more (ccr_below s.flags)
    (more (omega arith) (more w.b (more (omega arith) (more (omega arith) (more (omega arith) (none (omega arith)))))))))

words_held : {s : State} → Words s → Below 65536 (0 ∷ 0 ∷ 0 ∷ 0 ∷ d_of s ∷ s.x ∷ s.y ∷ s.sp ∷ [])
words_held w =
    more (omega arith)
    (more (omega arith)
    (more (omega arith) (more (omega arith) (more (d_word w) (more w.x (more w.y (more w.sp (none (omega arith)))))))))

pub byte_from_lem : {s : State} → Words s → (r : ℕ) → byte_from s r < 256
byte_from_lem w r = (bytes_held w).at (r % 8)

pub word_from_lem : {s : State} → Words s → {fill : ℕ} → fill < 256 → (r : ℕ) → word_from s fill r < 65536
word_from_lem w h r = both (λ (n : ℕ). n < 65536) (leb 4 r) _ _ ((words_held w).at (r % 8)) (word_below h (byte_from_lem w r))

-- a base register, or the address that stands for PC
pub base_word : {s : State} → Words s → {pc : ℕ} → pc < 65536 → (rr : ℕ) → base_of s pc rr < 65536
base_word w h rr =
    both (λ (n : ℕ). n < 65536) (eqb rr 0) _ _ w.x
    (both (λ (n : ℕ). n < 65536) (eqb rr 1) _ _ w.y (both (λ (n : ℕ). n < 65536) (eqb rr 2) _ _ w.sp h))

-- the nine bytes of a frame
pub frame_bytes : {s : State} → Words s → Below 256 (frame_of s)
frame_bytes {s} w =
    more (ccr_below s.flags)
    (more w.b
    (more w.a
    (more (omega (arith, w.x))
    (more (omega arith)
    (more (omega (arith, w.y)) (more (omega arith) (more (omega (arith, w.pc)) (more (omega arith) (none (omega arith))))))))))

-- a frame's store has the eight of them below the first whole
pub frame_whole : {s : State} → Words s → IsWhole (frame_store s)
frame_whole {s} w = omega (arith, w.b, w.a, w.x, w.y, w.pc)
