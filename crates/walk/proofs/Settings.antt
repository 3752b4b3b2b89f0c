-- The settings of an instruction: what is known wherever they come, and they and the stores in the forms that the definitions have, from
-- a state and from the same with another clock. On the definitions alone. Assumes nothing.
use Prim.Native.Nat.{ℕ, ◌/◌, ◌%◌, ◌<◌}
use native.Mathlib.Omega.{arith}
use mathlib.Core.Path.{◌≡◌, refl, sym, ◌∙◌, ap}
use mathlib.Core.Bool.{Bool, true, false}
use Rattle.word.specs.Word.{pick, plus_w}
use Rattle.word.proofs.Laws.{word_below}
use Rattle.memory.specs.declared.Store.{Store}
use Rattle.memory.specs.Memory.{byte_at, word_at, IsWhole, store_is, no_store, store_byte, store_word, store_words}
use Rattle.memory.proofs.Laws.{stored_bytes}
use Rattle.state.specs.declared.Flags.{Flags}
use Rattle.state.specs.declared.State.{State}
use Rattle.state.specs.State.{with_a, with_b, with_d, with_x, with_y, with_sp, with_pc, with_flags, with_clock, d_of}
use Rattle.state.proofs.Laws.{ccr_below}
use Rattle.effect.specs.declared.Effect.{Effect}
use Rattle.effect.specs.Effect.{quiet, writes}
use Rattle.opcodes.specs.Kind.{RTI}
use Rattle.frames.specs.Frames.{frame_store, wait_effect}
use Rattle.machine.specs.Names.{return_and_entry_cost}
use Rattle.requests.specs.Requests.{allowed_line, vectored}
use Rattle.walk.specs.Words.{Words}
use Rattle.walk.specs.Walk.{Before, Fits, Stores, Comes, IsBranch, Gives}
use Rattle.walk.specs.Walk.Comes.{begins, sets_a, sets_b, sets_x, sets_y, sets_sp, sets_pc, sets_codes}
use Rattle.walk.specs.Walk.Gives.{stores, untaken, waits, takes}
use Rattle.walk.specs.Clock.{at_clock}
use Rattle.walk.proofs.Registers as r

module _ {b : Before} where
  -- a byte and a word of the memory
  pub byte_in_lem : Fits b → (a : ℕ) → byte_at b.memory a < 256
  byte_in_lem k a = k.bytes a

  pub word_in : Fits b → (a : ℕ) → word_at b.memory a < 65536
  word_in k a = word_below (k.bytes a) (k.bytes (plus_w a 1))

  -- wherever an instruction comes, the registers hold what they have room for
  pub held : {s : State} → Comes b s → Fits b → Words s
  held begins k = k.registers
  held (sets_a w h) k = r.set_a (held w k) (h k)
  held (sets_b w h) k = r.set_b (held w k) (h k)
  held (sets_x w h) k = r.set_x_lem (held w k) (h k)
  held (sets_y w h) k = r.set_y (held w k) (h k)
  held (sets_sp w h) k = r.set_sp (held w k) (h k)
  held (sets_pc w h) k = r.set_pc (held w k) (h k)
  held (sets_codes w h) k = r.set_flags (held w k)

  -- and X is set only where it was set before
  pub x_before : {s : State} → Comes b s → s.flags.x ≡ true → b.state.flags.x ≡ true
  x_before begins e = e
  x_before (sets_a w h) e = x_before w e
  x_before (sets_b w h) e = x_before w e
  x_before (sets_x w h) e = x_before w e
  x_before (sets_y w h) e = x_before w e
  x_before (sets_sp w h) e = x_before w e
  x_before (sets_pc w h) e = x_before w e
  x_before (sets_codes w h) e = h e

  -- what is neither a register nor a code is as it was before
  pub untouched : {s : State} → Comes b s → record { standing : s.standing ≡ b.state.standing; clock : s.clock ≡ b.state.clock }
  untouched begins = record { standing = refl; clock = refl }
  untouched (sets_a w h) = untouched w
  untouched (sets_b w h) = untouched w
  untouched (sets_x w h) = untouched w
  untouched (sets_y w h) = untouched w
  untouched (sets_sp w h) = untouched w
  untouched (sets_pc w h) = untouched w
  untouched (sets_codes w h) = untouched w

  -- a number that is stored has no first byte apart; a frame has its CCR there
  stored : {a count n : ℕ} → (Fits b → a < 65536) → (Fits b → IsWhole (store_is a count 0 n)) → Stores b (store_is a count 0 n)
  stored {a} {count} {n} h whole =
      record { address = h; bytes = λ k. stored_bytes (store_is a count 0 n) (omega arith); whole = whole }

  frame_stored : {s : State} → Comes b s → Stores b (frame_store s)
  frame_stored {s} w =
      record {
        address = λ k. omega arith;
        bytes = λ k. stored_bytes (frame_store s) (ccr_below s.flags);
        whole = λ k. r.frame_whole (held w k);
      }

-- An instruction comes to s; and where it begins with the clock at c instead, it comes to u, which is s but for that clock. The same of
-- the effects that it gives.
pub record Leads (b : Before) (c : ℕ) (s u : State) : Type 0 where
  pub comes : Comes b s
  pub same : u ≡ with_clock s c

pub record Yields (b : Before) (c : ℕ) (e f : Effect) : Type 0 where
  pub gives : Gives b e
  pub same : f ≡ at_clock e c

-- what a definition makes of a state s, and of s with the clock at c
abbrev pub Leading : Before → ℕ → State → (State → State) → Type 0
Leading b c s f = Leads b c (f s) (f (with_clock s c))

abbrev pub Yielding : Before → ℕ → State → (State → Effect) → Type 0
Yielding b c s f = Yields b c (f s) (f (with_clock s c))

module _ {b : Before} {c : ℕ} where
  -- where it begins
  pub start : Leads b c b.state (with_clock b.state c)
  start = record { comes = begins; same = refl }

  pub fit : {s u : State} → Leads b c s u → Fits b → Words s
  fit w k = held w.comes k

  pub d_fit : {s u : State} → Leads b c s u → Fits b → d_of s < 65536
  d_fit w k = r.d_word (fit w k)

  -- a register set, by the states that it gives
  pub set_a : {s u : State} {v : ℕ} → Leads b c s u → (Fits b → v < 256) → Leads b c (with_a s v) (with_a u v)
  set_a {v = v} w h = record { comes = sets_a {v = v} w.comes h; same = ap (λ z. with_a z v) w.same }

  pub set_b : {s u : State} {v : ℕ} → Leads b c s u → (Fits b → v < 256) → Leads b c (with_b s v) (with_b u v)
  set_b {v = v} w h = record { comes = sets_b {v = v} w.comes h; same = ap (λ z. with_b z v) w.same }

  pub set_d : {s u : State} {v : ℕ} → Leads b c s u → (Fits b → v < 65536) → Leads b c (with_d s v) (with_d u v)
  set_d {v = v} w h = set_b {v = v % 256} (set_a {v = v / 256} w (λ k. omega (arith, h k))) (λ k. omega arith)

  pub set_x_lem : {s u : State} {v : ℕ} → Leads b c s u → (Fits b → v < 65536) → Leads b c (with_x s v) (with_x u v)
  set_x_lem {v = v} w h = record { comes = sets_x {v = v} w.comes h; same = ap (λ z. with_x z v) w.same }

  pub set_y : {s u : State} {v : ℕ} → Leads b c s u → (Fits b → v < 65536) → Leads b c (with_y s v) (with_y u v)
  set_y {v = v} w h = record { comes = sets_y {v = v} w.comes h; same = ap (λ z. with_y z v) w.same }

  pub set_sp : {s u : State} {v : ℕ} → Leads b c s u → (Fits b → v < 65536) → Leads b c (with_sp s v) (with_sp u v)
  set_sp {v = v} w h = record { comes = sets_sp {v = v} w.comes h; same = ap (λ z. with_sp z v) w.same }

  pub set_pc : {s u : State} {v : ℕ} → Leads b c s u → (Fits b → v < 65536) → Leads b c (with_pc s v) (with_pc u v)
  set_pc {v = v} w h = record { comes = sets_pc {v = v} w.comes h; same = ap (λ z. with_pc z v) w.same }

  -- the codes set: X in them is set only where it was set before, or only where it is set, or as it is
  pub put_codes :
      {s u : State} {f : Flags} → Leads b c s u → (f.x ≡ true → b.state.flags.x ≡ true) → Leads b c (with_flags s f) (with_flags u f)
  put_codes {f = f} w only = record { comes = sets_codes {f = f} w.comes only; same = ap (λ z. with_flags z f) w.same }

  pub take_codes :
      {s u : State} {f : Flags} → Leads b c s u → (f.x ≡ true → s.flags.x ≡ true) → Leads b c (with_flags s f) (with_flags u f)
  take_codes w only = put_codes w (λ e. x_before w.comes (only e))

  pub set_codes : {s u : State} {f : Flags} → Leads b c s u → f.x ≡ s.flags.x → Leads b c (with_flags s f) (with_flags u f)
  set_codes w same = take_codes w (λ e. sym same ∙ e)

  -- the effects that the definitions make: a store, at the cost that was decoded
  doing :
      {s u : State} {run : Store} → Leads b c s u → Stores b run →
      Yields b c (writes s b.decoded.cost run) (writes u b.decoded.cost run)
  doing {run = run} w good =
      record { gives = stores {w = run} w.comes good; same = ap (λ z. writes z b.decoded.cost run) w.same }

  -- nothing is stored, or a byte, a word, two words, or the frame of a state
  pub quietly : {s u : State} → Leads b c s u → Yields b c (quiet s b.decoded.cost) (quiet u b.decoded.cost)
  quietly w = doing {run = no_store} w (stored (λ k. omega arith) (λ k. omega arith))

  pub with_byte_lem :
      {s u : State} {a v : ℕ} → Leads b c s u → (Fits b → a < 65536) → (Fits b → v < 256) →
      Yields b c (writes s b.decoded.cost (store_byte a v)) (writes u b.decoded.cost (store_byte a v))
  with_byte_lem {a = a} {v = v} w h fits = doing {run = store_byte a v} w (stored h fits)

  pub with_word :
      {s u : State} {a v : ℕ} → Leads b c s u → (Fits b → a < 65536) → (Fits b → v < 65536) →
      Yields b c (writes s b.decoded.cost (store_word a v)) (writes u b.decoded.cost (store_word a v))
  with_word {a = a} {v = v} w h fits = doing {run = store_word a v} w (stored h fits)

  pub with_words :
      {s u : State} {a v v' : ℕ} → Leads b c s u → (Fits b → a < 65536) → (Fits b → v < 65536) → (Fits b → v' < 65536) →
      Yields b c (writes s b.decoded.cost (store_words a v v')) (writes u b.decoded.cost (store_words a v v'))
  with_words {a = a} {v = v} {v' = v'} w h first second =
      doing {run = store_words a v v'} w (stored h (λ k. omega (arith, first k, second k)))

  pub with_frame :
      {s u t t' : State} → Leads b c s u → Leads b c t t' →
      Yields b c (writes t b.decoded.cost (frame_store s)) (writes t' b.decoded.cost (frame_store s))
  with_frame {s = s} v w = doing {run = frame_store s} w (frame_stored v.comes)

  -- a branch that is not taken, a machine that waits, and a line that RTI takes
  pub staying :
      {s u : State} → Leads b c s u → IsBranch b.decoded →
      Yields b c (quiet s b.decoded.untaken) (quiet u b.decoded.untaken)
  staying w is = record { gives = untaken w.comes is; same = ap (λ z. quiet z b.decoded.untaken) w.same }

  pub waiting : {s u : State} → Leads b c s u → Yields b c (wait_effect s b.decoded.cost) (wait_effect u b.decoded.cost)
  unfolding wait_effect
  waiting w = record { gives = waits w.comes (frame_stored w.comes); same = ap (λ z. wait_effect z b.decoded.cost) w.same }

  pub taking :
      {s u : State} → Leads b c s u → b.decoded.kind ≡ RTI →
      Yields b c (quiet (vectored s b.memory (allowed_line s.flags b.line)) return_and_entry_cost)
      (quiet (vectored u b.memory (allowed_line s.flags b.line)) return_and_entry_cost)
  taking {s = s} w is =
      record {
        gives = takes w.comes is;
        same = ap (λ z. quiet (vectored z b.memory (allowed_line s.flags b.line)) return_and_entry_cost) w.same;
      }

  -- one of two states, and one of two effects
  infixr 0 if◌then◌else◌
  pub if◌then◌else◌ : (t : Bool) {s s' u u' : State} → Leads b c s u → Leads b c s' u' → Leads b c (pick t s s') (pick t u u')
  if◌then◌else◌ true w w' = w
  if◌then◌else◌ false w w' = w'

  infixr 0 if◌does◌else◌
  pub if◌does◌else◌ : (t : Bool) {e e' f f' : Effect} → Yields b c e f → Yields b c e' f' → Yields b c (pick t e e') (pick t f f')
  if◌does◌else◌ true w w' = w
  if◌does◌else◌ false w w' = w'
