-- The mask X and the waiting flag under every step, on the definitions alone. Assumes nothing.
use Prim.Native.Nat.{ℕ}
use native.Mathlib.Omega.{arith}
use mathlib.Core.Path.{◌≡◌, refl, sym, ◌∙◌, ap}
use mathlib.Core.Bool.{Bool, true, false, true≢false}
use mathlib.Core.List.{List}
use lib.Dec.{eqb}
use borrow.Author.Tests.{ne_eqb, eqb-true, eqb-false}
use Rattle.memory.specs.Memory.{no_store, store_nine}
use Rattle.state.specs.declared.Flags.{Flags}
use Rattle.state.specs.declared.Standing.{Standing}
use Rattle.state.specs.declared.State.{State}
use Rattle.effect.specs.declared.Effect.{Effect}
use Rattle.frames.specs.Frames.{frame_of, interrupt_effect, wait_effect, pulled_frame}
use Rattle.requests.specs.Requests.{allowed_line, masked, entry_effect, wake_effect}
use Rattle.requests.proofs.Laws.{xirq_by_x}
use Rattle.turn.specs.Turn.{Turn, turn_of}
use Rattle.walk.specs.Walk.{Before, Gives}
use Rattle.walk.specs.Walk.Gives.{stores, untaken, waits, takes}
use Rattle.walk.specs.Turns.{Ways}
use Rattle.walk.specs.Turns.Ways.{wakes, enters, idles, stops, reserves, runs}
use Rattle.walk.proofs.Settings.{x_before, untouched}
use Rattle.walk.proofs.Turns.{every_turn_goes}
use Rattle.promises.specs.Masks.{XStaysClear, RtiTakesXirqWithXSet, OnlyWaiWaits, AWaitKeeps}

-- every line but line 0 leaves X as it is
masked_x : (k : ℕ) (f : Flags) → (k ≡ 0 → ⊥) → (masked k f).x ≡ f.x
masked_x k f n = rw (ne_eqb k 0 n)

-- XIRQ, where codes allow it and others do not, is masked in the others
masked_there : (f g : Flags) (line : ℕ) → (allowed_line g line ≡ 0 → ⊥) → allowed_line f line ≡ 0 → g.x ≡ true
masked_there f g line other taken = go g.x refl
  where
    go : (x : Bool) → g.x ≡ x → x ≡ true
    go true is = refl
    go false is = absurd (other (xirq_by_x f g line taken is))

pub rti_takes_xirq_with_x_set : RtiTakesXirqWithXSet
rti_takes_xirq_with_x_set s m line none = masked_there (pulled_frame s m).flags s.flags line (λ e. omega (arith, none, e))

-- X, after an instruction and after a turn, is set only where it was set before

instruction_x :
    {b : Before} {e : Effect} →
    (allowed_line b.state.flags b.line ≡ 0 → ⊥) →
    Gives b e →
    e.state.flags.x ≡ true →
    b.state.flags.x ≡ true
unfolding wait_effect
instruction_x other (stores w run) e = x_before w e
instruction_x other (untaken w is) e = x_before w e
instruction_x other (waits w run) e = x_before w e
instruction_x {b} other (takes {s} w is) e = go (eqb k 0) refl
  where
    k : ℕ
    k = allowed_line s.flags b.line

    go : (xirq : Bool) → eqb k 0 ≡ xirq → b.state.flags.x ≡ true
    go true is = masked_there s.flags b.state.flags b.line other (eqb-true k 0 is)
    go false is = x_before w (sym (masked_x k s.flags (eqb-false k 0 is)) ∙ e)

turn_x :
    {s : State} {m : List ℕ} {line : ℕ} {t : Turn} →
    (allowed_line s.flags line ≡ 0 → ⊥) →
    Ways s m line t →
    t.effect.state.flags.x ≡ true →
    s.flags.x ≡ true
unfolding wake_effect entry_effect interrupt_effect
turn_x {s} other (wakes up waiting) e = sym (masked_x _ s.flags other) ∙ e
turn_x {s} other (enters up awake) e = sym (masked_x _ s.flags other) ∙ e
turn_x other (idles none waiting) e = e
turn_x other (stops none awake) e = e
turn_x other (reserves none awake) e = e
turn_x other (runs none awake there gives) e = instruction_x other gives e

pub x_stays_clear : XStaysClear
x_stays_clear s m line other clear = go (turn_of s m line).effect.state.flags.x refl
  where
    go : (b : Bool) → (turn_of s m line).effect.state.flags.x ≡ b → (turn_of s m line).effect.state.flags.x ≡ false
    go true e = absurd (true≢false (sym (turn_x other (every_turn_goes s m line) e) ∙ clear))
    go false e = e

-- where an effect makes a machine wait that did not, its store is the frame at the new SP
Framed : State → Effect → Type 0
Framed s e = s.standing.waiting ≡ false → e.state.standing.waiting ≡ true → e.store ≡ store_nine e.state.sp (frame_of e.state)

-- a machine that waits as it did, and did not, does not
still : {was now : Bool} → now ≡ was → was ≡ false → now ≡ true → ⊥
still same p q = true≢false (sym q ∙ same ∙ p)

instruction_framed : {b : Before} {e : Effect} → Gives b e → Framed b.state e
unfolding Framed wait_effect
instruction_framed (stores w run) p q = absurd (still (ap (λ (p : Standing). p.waiting) (untouched w).standing) p q)
instruction_framed (untaken w is) p q = absurd (still (ap (λ (p : Standing). p.waiting) (untouched w).standing) p q)
instruction_framed (waits w run) p q = refl
instruction_framed (takes w is) p q = absurd (still (ap (λ (p : Standing). p.waiting) (untouched w).standing) p q)

turn_framed : {s : State} {m : List ℕ} {line : ℕ} {t : Turn} → Ways s m line t → Framed s t.effect
unfolding Framed wake_effect entry_effect interrupt_effect
turn_framed (wakes up waiting) p q = absurd (true≢false (sym q))
turn_framed (enters up awake) p q = absurd (still refl p q)
turn_framed (idles none waiting) p q = absurd (still refl p q)
turn_framed (stops none awake) p q = absurd (still refl p q)
turn_framed (reserves none awake) p q = absurd (still refl p q)
turn_framed (runs none awake there gives) p q = instruction_framed gives p q

pub only_wai_waits : OnlyWaiWaits
unfolding Framed
only_wai_waits s m line = turn_framed (every_turn_goes s m line)

-- a machine that waits idles or wakes, and when it wakes it waits no more
Unchanged : State → Turn → Type 0
Unchanged s t =
    s.standing.waiting ≡ true → t.effect.state.standing.waiting ≡ true → (t.effect.state ≡ s) × (t.effect.store ≡ no_store)

turn_unchanged : {s : State} {m : List ℕ} {line : ℕ} {t : Turn} → Ways s m line t → Unchanged s t
unfolding Unchanged wake_effect
turn_unchanged (wakes up waiting) was on = absurd (true≢false (sym on))
turn_unchanged (idles none waiting) was on = (refl, refl)
turn_unchanged (enters up awake) was on = absurd (true≢false (sym was ∙ awake))
turn_unchanged (stops none awake) was on = absurd (true≢false (sym was ∙ awake))
turn_unchanged (reserves none awake) was on = absurd (true≢false (sym was ∙ awake))
turn_unchanged (runs none awake there gives) was on = absurd (true≢false (sym was ∙ awake))

pub a_wait_keeps : AWaitKeeps
unfolding Unchanged
a_wait_keeps s m line = turn_unchanged (every_turn_goes s m line)
