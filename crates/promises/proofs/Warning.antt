-- The warning is never late: on the definitions alone. Assumes nothing.
use Prim.Native.Nat.{ℕ, zero, suc, ◌+◌, ◌-◌, ◌<◌, ◌≤◌}
use native.Mathlib.Omega.{arith}
use native.Mathlib.Decide.{dec_lt, ℕ_discrete}
use mathlib.Core.Path.{◌≡◌, refl, sym, ◌∙◌, ap}
use mathlib.Core.Bool.{Bool, true, false, true≢false}
use mathlib.Core.List.{List}
use lib.ListN.{length, get_or}
use borrow.Author.Tests.{eq-eqb}
use Rattle.word.specs.Word.{pick, bit_of, plus_w, minus_w}
use Rattle.memory.specs.Memory.{byte_at, word_at, committed, AreBytes}
use Rattle.memory.proofs.Laws.{store_none}
use Rattle.state.specs.declared.State.{State}
use Rattle.state.specs.declared.Flags.{Flags}
use Rattle.frames.specs.Frames.{frame_of, interrupt_effect}
use Rattle.machine.specs.declared.Reply.TheVariants.{Done}
use Rattle.machine.specs.Names.{number_of, line_vector}
use Rattle.machine.specs.Reset.{reset_of}
use Rattle.machine.proofs.Laws.{number_zero}
use Rattle.requests.specs.Requests.{allowed_line, entry_effect, wake_effect}
use Rattle.turn.specs.Turn.{Turn, turn_is, turn_of}
use Rattle.walk.proofs.Bounds.{every_step_costs}
use Rattle.refusals.specs.Given.{Given, line_in}
use Rattle.steps.specs.End.{End}
use Rattle.steps.specs.Steps.{turn_at, next_state, next_memory}
use Rattle.run.specs.Run.{run_of}
use Rattle.run.proofs.OneStep.{turn_rests}
use Rattle.refusals.proofs.Laws.{is_free}
use Rattle.promises.specs.Steps.{after_steps, IsOfSteps, OneAfterAnother}
use Rattle.promises.specs.Steps.OneAfterAnother.{one_run, one_more_run}
use Rattle.promises.specs.Warning.{state_at, memory_at, FirstFrom, Rises, Enters, TheWarningAtEveryCycle, TheWarningIsNeverLate, TheWarningAcrossRuns, NoStopBeforeTheFirst, ThereIsAFirst}
use Rattle.promises.proofs.Steps.{runs_go_on}
use Rattle.promises.proofs.Frame.{frame_at}
use Rattle.walk.proofs.Registers.{Below, word_at_lem, frame_bytes}
use Rattle.promises.proofs.Boundaries.{one_on, clock_at, Framed, nine_stored, Sound, sound_at}

-- XIRQ up and X clear: line 0 is to be entered
line_zero : (f : Flags) (line : ℕ) → bit_of 0 line ≡ true → f.x ≡ false → allowed_line f line ≡ 0
unfolding allowed_line
line_zero f line up clear = rw (up, clear)

-- and so the turn is the end of a wait, or an entry
xirq_turn : (s : State) (m : List ℕ) (line : ℕ) → allowed_line s.flags line ≡ 0 → turn_of s m line ≡ pick s.standing.waiting (turn_is Done (wake_effect s m 0)) (turn_is Done (entry_effect s m 0))
unfolding turn_of
xirq_turn s m line zero_is = rw zero_is

-- what either of them leaves
record Entered (s : State) (m : List ℕ) (t : Turn) : Type 0 where
  done : number_of t.reply ≡ 0
  cost : t.effect.cost ≤ 9
  pc : t.effect.state.pc ≡ word_at m (line_vector 0)
  x : t.effect.state.flags.x ≡ true
  i : t.effect.state.flags.i ≡ true
  frame : (j : ℕ) → j < 9 → byte_at (committed m t.effect.store) (plus_w t.effect.state.sp j) ≡ get_or (frame_of s) j 0

woken : (s : State) (m : List ℕ) → Framed s m → Entered s m (turn_is Done (wake_effect s m 0))
unfolding wake_effect
woken s m framed =
    record {
      done = refl;
      cost = omega arith;
      pc = refl;
      x = refl;
      i = refl;
      frame = λ j h. ap (λ (n : List ℕ). byte_at n (plus_w s.sp j)) (store_none m) ∙ framed j h;
    }

entered : (s : State) (m : List ℕ) → Sound s m → Entered s m (turn_is Done (entry_effect s m 0))
unfolding entry_effect interrupt_effect
entered s m here =
    record {
      done = refl;
      cost = omega arith;
      pc = refl;
      x = refl;
      i = refl;
      frame = nine_stored m (minus_w s.sp 9) (frame_of s) here.whole (omega arith) refl (frame_bytes here.words).at;
    }

xirq_enters : (s : State) (m : List ℕ) (line : ℕ) → Sound s m → allowed_line s.flags line ≡ 0 → Entered s m (turn_of s m line)
xirq_enters s m line here zero_is = rw (xirq_turn s m line zero_is) (go s.standing.waiting refl)
  where
    go : (b : Bool) → s.standing.waiting ≡ b → Entered s m (pick b (turn_is Done (wake_effect s m 0)) (turn_is Done (entry_effect s m 0)))
    go true waits = woken s m (here.framed waits)
    go false waits = entered s m here

-- reset leaves what every boundary has
reset_sound : (m : List ℕ) → AreBytes m → length m ≡ 65536 → Sound (reset_of m) m
reset_sound m bytes whole =
    let held : Below 256 m = record { at = bytes } in
    record {
      words =
          record {
            a = omega arith;
            b = omega arith;
            x = omega arith;
            y = omega arith;
            sp = omega arith;
            pc = rw (eq-eqb _ _ whole) (word_at_lem held 0xFFFE);
          };
      bytes = bytes;
      whole = whole;
      framed = λ waits. absurd (true≢false (sym waits));
    }

-- the same of a boundary, given by equations
same_turn : (s s' : State) (m m' : List ℕ) (given : Given) → s ≡ s' → m ≡ m' → turn_at given s m ≡ turn_at given s' m'
same_turn s s' m m' given es em = λ i. turn_at given (es i) (em i)

module _
    (T n : ℕ) (m : List ℕ) (given : Given) (bytes : AreBytes m) (whole : length m ≡ 65536) (rises : Rises T n m given)
  where
    here : (k : ℕ) → Sound (state_at k m given) (memory_at k m given)
    here k = sound_at k (reset_of m) m given (reset_sound m bytes whole)

    turn : ℕ → Turn
    turn k = turn_at given (state_at k m given) (memory_at k m given)

    -- a boundary before the first from T on is followed by T + 12
    soon : (k : ℕ) → k < n → (state_at k m given).clock + (turn k).effect.cost ≤ T + 12
    unfolding turn
    soon k h =
        let early = rises.first.1 k h in
        let most = (every_step_costs (state_at k m given) (memory_at k m given) _ (here k).bytes (number_zero _ (rises.on k h))).1 in
        omega (arith, early, most)

    -- the first boundary from T on comes by T + 12
    by_twelve : (k : ℕ) → k ≡ n → (state_at n m given).clock ≤ T + 12
    unfolding turn after_steps
    by_twelve zero e =
        let at : 0 ≡ (state_at n m given).clock = ap (λ (j : ℕ). (state_at j m given).clock) e in
        omega (arith, at)
    by_twelve (suc k) e =
        let at = ap (λ (j : ℕ). (state_at j m given).clock) e in
        let next = ap (λ (s : State). s.clock) (one_on k (reset_of m) m given).state in
        let then = soon k (omega (arith, e)) in
        omega (arith, at, next, then)

    is_zero : allowed_line (state_at n m given).flags (line_in given (state_at n m given).clock) ≡ 0
    is_zero =
        let late = by_twelve n refl in
        line_zero (state_at n m given).flags _ (rises.up (state_at n m given).clock rises.first.0 (omega (arith, late))) rises.clear

    enters : Entered (state_at n m given) (memory_at n m given) (turn n)
    unfolding turn
    enters = xirq_enters (state_at n m given) (memory_at n m given) _ (here n) is_zero

    -- no boundary up to that one stops the run, and each of these steps ends by T + 21
    reaches : (k : ℕ) → k ≤ n → (number_of (turn k).reply ≡ 0) × ((state_at k m given).clock + (turn k).effect.cost ≤ T + 21)
    unfolding turn
    reaches k h = go (dec_lt k n)
      where
        go : Dec (k < n) → (number_of (turn k).reply ≡ 0) × ((state_at k m given).clock + (turn k).effect.cost ≤ T + 21)
        go (yes l) = let then = soon k l in (rises.on k l, omega (arith, then))
        go (no l) = last (omega (arith, h, l))
          where
            last : k ≡ n → (number_of (turn k).reply ≡ 0) × ((state_at k m given).clock + (turn k).effect.cost ≤ T + 21)
            last e =
                let late = by_twelve n refl in
                let most = enters.cost in
                rw e (enters.done, omega (arith, late, most))

    -- so what is spent up to T + 21 takes the step at that boundary
    takes :
        (room : ℕ) (e : End) → T + 21 ≤ room → (steps : ℕ) → IsOfSteps steps (reset_of m) m given room e → n < steps
    unfolding turn
    takes room e enough steps is = go (dec_lt n steps)
      where
        go : Dec (n < steps) → n < steps
        go (yes l) = l
        go (no l) =
            let at = reaches steps (omega (arith, l)) in
            let same = same_turn _ _ _ _ given is.state is.memory in
            let reply = is.reply ∙ ap (λ (t : Turn). number_of t.reply) same ∙ at.0 in
            let cost = ap (λ (t : Turn). t.effect.cost) same in
            let clock = clock_at steps (reset_of m) m given in
            let short = is.spent reply in
            absurd (omega (arith, short, cost, is.used, clock, at.1, enough))

    there : Enters T n m given
    unfolding turn
    there =
        let next = one_on n (reset_of m) m given in
        let end = (reaches n (omega arith)).1 in
        let at = ap (λ (s : State). s.clock) next.state in
        record {
          entered = is_zero;
          by = omega (arith, at, end);
          pc = ap (λ (s : State). s.pc) next.state ∙ enters.pc;
          x = ap (λ (s : State). s.flags.x) next.state ∙ enters.x;
          i = ap (λ (s : State). s.flags.i) next.state ∙ enters.i;
          frame = frame_at (memory_at (suc n) m given) (state_at (suc n) m given).sp (state_at n m given) (here (suc n)).words.sp
              (λ j h.
              ap (λ (s : State). byte_at (memory_at (suc n) m given) (plus_w s.sp j)) next.state
              ∙ ap (λ (l : List ℕ). byte_at l (plus_w (turn_at given (state_at n m given) (memory_at n m given)).effect.state.sp j)) next.memory
              ∙ enters.frame j h);
        }

pub the_warning_at_every_cycle : TheWarningAtEveryCycle
the_warning_at_every_cycle T n m given bytes whole rises = there T n m given bytes whole rises

-- runs one after another start from a memory of 65,536 bytes
starts_whole : {s : State} {m : List ℕ} {given : Given} {room : ℕ} {e : End} → OneAfterAnother s m given room e → length m ≡ 65536
starts_whole {s} {m} {given} (one_run budget free) = (is_free s m given budget free).whole
starts_whole (one_more_run runs budget free) = starts_whole runs

pub the_warning_across_runs : TheWarningAcrossRuns
the_warning_across_runs T n m given room e bytes runs rises enough =
    let whole = starts_whole runs in
    record {
      enters = there T n m given bytes whole rises;
      taken = takes T n m given bytes whole rises room e enough;
    }

pub the_warning_is_never_late : TheWarningIsNeverLate
the_warning_is_never_late T n m given budget bytes free =
    the_warning_across_runs T n m given budget (run_of (reset_of m) m given budget) bytes (one_run budget free)

-- where the turn at a boundary is not done, every later boundary is that one

module _
    (k : ℕ) (m : List ℕ) (given : Given)
    (other : number_of (turn_at given (state_at k m given) (memory_at k m given)).reply ≡ 0 → ⊥)
  where
    stays : (d j : ℕ) → j ≡ d + k → (state_at j m given ≡ state_at k m given) × (memory_at j m given ≡ memory_at k m given)
    stays zero j e =
        let is : j ≡ k = omega (arith, e) in
        (ap (λ (i : ℕ). state_at i m given) is, ap (λ (i : ℕ). memory_at i m given) is)
    stays (suc d) j e =
        let was = stays d (d + k) refl in
        let is : j ≡ suc (d + k) = omega (arith, e) in
        let next = one_on (d + k) (reset_of m) m given in
        let rests = turn_rests (state_at k m given) (memory_at k m given) (line_in given (state_at k m given).clock) other in (
          ap (λ (i : ℕ). state_at i m given) is
              ∙ next.state
              ∙ (λ i. next_state given (was.0 i) (was.1 i))
              ∙ ap (λ (x : End). x.state) rests,
          ap (λ (i : ℕ). memory_at i m given) is
              ∙ next.memory
              ∙ (λ i. next_memory given (was.0 i) (was.1 i))
              ∙ ap (λ (x : End). x.memory) rests,
        )

    clock_stays : (n : ℕ) → k ≤ n → (state_at n m given).clock ≡ (state_at k m given).clock
    clock_stays n h =
        let is : n ≡ (n - k) + k = omega (arith, h) in
        ap (λ (s : State). s.clock) (stays (n - k) n is).0

pub no_stop_before_the_first : NoStopBeforeTheFirst
no_stop_before_the_first T n m given first k h =
    go (ℕ_discrete (number_of (turn_at given (state_at k m given) (memory_at k m given)).reply) 0)
  where
    go :
        Dec (number_of (turn_at given (state_at k m given) (memory_at k m given)).reply ≡ 0) →
        number_of (turn_at given (state_at k m given) (memory_at k m given)).reply ≡ 0
    go (yes done) = done
    go (no other) =
        let same = clock_stays k m given other n (omega (arith, h)) in
        let early = first.1 k h in
        let late = first.0 in
        absurd (omega (arith, same, early, late))

-- the boundaries before boundary k, looked through: one of them is the first from T on, or all are before T
data Looked (T k : ℕ) (m : List ℕ) (given : Given) : Type 0 where
  found : (n : ℕ) → FirstFrom T n m given → Looked T k m given
  none : ((j : ℕ) → j < k → (state_at j m given).clock < T) → Looked T k m given

look : (T k : ℕ) (m : List ℕ) (given : Given) → Looked T k m given
look T zero m given = none (λ j h. absurd (omega (arith, h)))
look T (suc k) m given = go (look T k m given) (dec_lt (state_at k m given).clock T)
  where
    go : Looked T k m given → Dec ((state_at k m given).clock < T) → Looked T (suc k) m given
    go (found n first) any = found n first
    go (none all) (no late) = found k (omega (arith, late), all)
    go (none all) (yes early) = none before
      where
        before : (j : ℕ) → j < suc k → (state_at j m given).clock < T
        before j h = last (dec_lt j k)
          where
            last : Dec (j < k) → (state_at j m given).clock < T
            last (yes l) = all j l
            last (no l) =
                let is : j ≡ k = omega (arith, h, l) in
                let at = ap (λ (i : ℕ). (state_at i m given).clock) is in
                omega (arith, at, early)

-- runs that end with 0 have less left than a step may cost, and so have come to within 12 cycles of what they may spend
comes_near :
    (m : List ℕ) (given : Given) (room steps : ℕ) (e : End) →
    AreBytes m →
    length m ≡ 65536 →
    IsOfSteps steps (reset_of m) m given room e →
    e.reply ≡ 0 →
    room ≤ (state_at steps m given).clock + 12
unfolding after_steps
comes_near m given room steps e bytes whole is zero_is =
    let held : AreBytes e.memory = rw is.memory (sound_at steps (reset_of m) m given (reset_sound m bytes whole)).bytes in
    let done = number_zero _ (sym is.reply ∙ zero_is) in
    let most = (every_step_costs e.state e.memory (line_in given e.state.clock) held done).1 in
    let short = is.spent zero_is in
    let clock = clock_at steps (reset_of m) m given in
    omega (arith, most, short, clock, is.used)

pub there_is_a_first : ThereIsAFirst
there_is_a_first T m given room e bytes runs zero_is enough =
    let whole = starts_whole runs in
    let start = reset_sound m bytes whole in
    let is = runs_go_on (reset_of m) m given room e start.words bytes runs in
    let near = comes_near m given room is.0 e bytes whole is.1 zero_is in
    go is.0 near (look T (suc is.0) m given)
  where
    go : (steps : ℕ) → room ≤ (state_at steps m given).clock + 12 → Looked T (suc steps) m given → (n : ℕ) × FirstFrom T n m given
    go steps near (found n first) = (n, first)
    go steps near (none all) = let early = all steps (omega arith) in absurd (omega (arith, early, near, enough))
