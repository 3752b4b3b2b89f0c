-- The boundaries of a run, one after another, and what each of them has. On the definitions alone. Assumes nothing.
use Prim.Native.Nat.{ℕ, zero, suc, ◌+◌, ◌-◌, ◌<◌, ◌≤◌}
use native.Mathlib.Omega.{arith}
use mathlib.Core.Path.{◌≡◌, refl, sym, ◌∙◌, ap}
use mathlib.Core.Bool.{Bool, true, false}
use mathlib.Core.List.{List}
use lib.Dec.{ltb}
use lib.ListN.{length, get_or}
use borrow.Author.Tests.{lt-ltb}
use Rattle.word.specs.Word.{pick, plus_w, minus_w}
use Rattle.memory.specs.Memory.{byte_at, store_all, committed, store_nine, bytes_stored, AreBytes}
use Rattle.memory.proofs.Laws.{store_keeps, store_none, stores_exactly, store_by_byte}
use Rattle.state.specs.declared.State.{State}
use Rattle.state.specs.State.{with_clock}
use Rattle.frames.specs.Frames.{frame_of}
use Rattle.turn.specs.Turn.{turn_of}
use Rattle.refusals.specs.Given.{Given, line_in}
use Rattle.steps.specs.Steps.{turn_state, turn_memory, turn_at, next_state, next_memory}
use Rattle.walk.specs.Words.{Words}
use Rattle.walk.proofs.Registers.{frame_bytes}
use Rattle.promises.specs.Steps.{after_steps}
use Rattle.promises.specs.Masks.{XirqEnteredAt, XStaysClearAlongEveryRun}
use Rattle.promises.proofs.Words.{every_step_keeps_words, every_boundary_has_words}
use Rattle.promises.proofs.Masks.{x_stays_clear, only_wai_waits, a_wait_keeps}

-- the boundary after n + 1 steps is one step on from that after n
pub record OneOn (n : ℕ) (s : State) (m : List ℕ) (given : Given) : Type 0 where
  pub state : (after_steps (suc n) given s m).state ≡ next_state given (after_steps n given s m).state (after_steps n given s m).memory
  pub memory : (after_steps (suc n) given s m).memory ≡ next_memory given (after_steps n given s m).state (after_steps n given s m).memory
  pub cycles_are :
      (after_steps (suc n) given s m).cycles
      ≡ (after_steps n given s m).cycles
      + (turn_at given (after_steps n given s m).state (after_steps n given s m).memory).effect.cost

pub one_on : (n : ℕ) (s : State) (m : List ℕ) (given : Given) → OneOn n s m given
unfolding after_steps
one_on zero s m given = record { state = refl; memory = refl; cycles_are = omega arith }
one_on (suc n) s m given =
    let rest = one_on n (next_state given s m) (next_memory given s m) given in
    record { state = rest.state; memory = rest.memory; cycles_are = omega (arith, rest.cycles_are) }

-- the clock at a boundary is that at the start and the cycles used since
pub clock_at : (n : ℕ) (s : State) (m : List ℕ) (given : Given) → (after_steps n given s m).state.clock ≡ s.clock + (after_steps n given s m).cycles
unfolding after_steps
clock_at zero s m given = omega arith
clock_at (suc n) s m given =
    let rest = clock_at n (next_state given s m) (next_memory given s m) given in
    omega (arith, rest)

-- the nine bytes at SP are the registers
abbrev pub Framed : State → List ℕ → Type 0
Framed s m = (j : ℕ) → j < 9 → byte_at m (plus_w s.sp j) ≡ get_or (frame_of s) j 0

-- nine bytes that were stored are there
pub nine_stored :
    (m : List ℕ) (a : ℕ) (bs : List ℕ) →
    length m ≡ 65536 →
    a < 65536 →
    length bs ≡ 9 →
    AreBytes bs →
    (j : ℕ) →
    j < 9 →
    byte_at (committed m (store_nine a bs)) (plus_w a j) ≡ get_or bs j 0
nine_stored m a bs whole inside nine bytes j h =
    let back : minus_w (plus_w a j) a ≡ j = omega (arith, inside, h) in
    ap (λ run. byte_at (store_all m a run) (plus_w a j)) (store_by_byte.nine a bs nine bytes)
    ∙ stores_exactly m a bs (plus_w a j) whole inside (omega (arith, nine)) (omega arith)
    ∙ ap (λ i. pick (ltb i (length bs)) (get_or bs i 0) (byte_at m (plus_w a j))) back
    ∙ ap (λ b. pick b (get_or bs j 0) (byte_at m (plus_w a j))) (lt-ltb j (length bs) (omega (arith, nine, h)))

-- What every boundary has, from one that has it: registers of bytes and words, a memory of 65,536 bytes, and where the machine waits
-- its frame.
pub record Sound (s : State) (m : List ℕ) : Type 0 where
  pub words : Words s
  pub bytes : AreBytes m
  pub whole : length m ≡ 65536
  pub framed : s.standing.waiting ≡ true → Framed s m

-- a state and a memory that are the same, but for the clock
framed_kept : (s t : State) (m m' : List ℕ) (clock : ℕ) → t ≡ s → m' ≡ m → Framed s m → Framed (with_clock t clock) m'
framed_kept s t m m' clock es em framed j h =
    ap (λ (n : List ℕ). byte_at n (plus_w t.sp j)) em
    ∙ ap (λ (u : State). byte_at m (plus_w u.sp j)) es
    ∙ framed j h
    ∙ sym (ap (λ (u : State). get_or (frame_of u) j 0) es)

-- one step on
pub sound_next : (s : State) (m : List ℕ) (line : ℕ) → Sound s m → Sound (turn_state s m line) (turn_memory s m line)
sound_next s m line here =
    let next = every_boundary_has_words s m line here.words here.bytes in
    record {
      words = next.0;
      bytes = next.1;
      whole = store_keeps m (turn_of s m line).effect.store.at (bytes_stored (turn_of s m line).effect.store) ∙ here.whole;
      framed = λ waits. framed s.standing.waiting refl waits;
    }
  where
    framed : (b : Bool) → s.standing.waiting ≡ b → (turn_of s m line).effect.state.standing.waiting ≡ true → Framed (turn_state s m line) (turn_memory s m line)
    framed false was waits j h =
        let left = every_step_keeps_words s m line here.words here.bytes in
        let after = (turn_of s m line).effect.state in
        rw (only_wai_waits s m line was waits)
        (nine_stored m after.sp (frame_of after) here.whole left.registers.sp refl (frame_bytes left.registers).at j h)
    framed true was waits j h =
        let kept = a_wait_keeps s m line was waits in
        framed_kept s (turn_of s m line).effect.state m (turn_memory s m line) (turn_state s m line).clock kept.0
        (ap (committed m) kept.1 ∙ store_none m) (here.framed was) j h

pub sound_at : (n : ℕ) (s : State) (m : List ℕ) (given : Given) → Sound s m → Sound (after_steps n given s m).state (after_steps n given s m).memory
unfolding after_steps
sound_at zero s m given here = here
sound_at (suc n) s m given here =
    sound_at n (next_state given s m) (next_memory given s m) given (sound_next s m (line_in given s.clock) here)

-- X, from a boundary where it is clear on
x_clear_at :
    (s : State) (m : List ℕ) (given : Given) (k d : ℕ) →
    (after_steps k given s m).state.flags.x ≡ false →
    ((j : ℕ) → k ≤ j → j < k + d → XirqEnteredAt j s m given → ⊥) →
    (after_steps (k + d) given s m).state.flags.x ≡ false
x_clear_at s m given k zero clear none = ap (λ (j : ℕ). (after_steps j given s m).state.flags.x) (omega arith) ∙ clear
x_clear_at s m given k (suc d) clear none =
    let before = x_clear_at s m given k d clear (λ j low high. none j low (omega (arith, high))) in
    let other = none (k + d) (omega arith) (omega arith) in
    ap (λ (j : ℕ). (after_steps j given s m).state.flags.x) (omega arith)
    ∙ ap (λ (u : State). u.flags.x) (one_on (k + d) s m given).state
    ∙ x_stays_clear (after_steps (k + d) given s m).state (after_steps (k + d) given s m).memory _ other before

pub x_stays_clear_along_every_run : XStaysClearAlongEveryRun
x_stays_clear_along_every_run s m given k n h clear none =
    let is : k + (n - k) ≡ n = omega (arith, h) in
    ap (λ (j : ℕ). (after_steps j given s m).state.flags.x) (sym is)
    ∙ x_clear_at s m given k (n - k) clear (λ j low high. none j low (omega (arith, high, h)))
