-- A run's turns, on the definitions alone: what a run still has to do, and how one step takes it on. Assumes nothing.
use Prim.Native.Nat.{ℕ, zero, suc, ◌+◌, ◌-◌, ◌≤◌, ◌<◌}
use native.Mathlib.Omega.{arith}
use mathlib.Core.Path.{◌≡◌, refl, sym, ◌∙◌, ap}
use mathlib.Core.Bool.{true}
use mathlib.Core.List.{List}
use lib.ListN.{length}
use Rattle.std.specs.Prelude.{Err}
use borrow.Author.Tests.{lt-ltb, le-ltb, eq-eqb, ne_eqb}
use Rattle.state.specs.declared.State.{State}
use Rattle.schedule.specs.declared.Watch.{Watch}
use Rattle.schedule.specs.Schedule.{rising, watch_at, Watched}
use Rattle.schedule.proofs.Laws.{line_of_place}
use Rattle.memory.specs.Memory.{committed, bytes_stored}
use Rattle.memory.proofs.Laws.{store_keeps}
use Rattle.machine.specs.declared.Reply.TheVariants.{Done}
use Rattle.machine.specs.Names.{number_of}
use Rattle.decode.specs.declared.Halt.{Halt}
use Rattle.decode.specs.declared.Halt.TheVariants.{Stopped, Reserved}
use Rattle.decode.specs.Decode.{halted}
use Rattle.turn.specs.Turn.{Turn, turn_from}
use Rattle.steps.specs.declared.Answer.{Answer}
use Rattle.refusals.specs.Given.{Given, line_in}
use Rattle.steps.specs.End.{End, end_is, ends_here, after, Ends}
use Rattle.effect.specs.Effect.{acted}
use Rattle.steps.specs.Steps.{turn_at, next_state, next_memory, goes_on}

-- the three ways on from a boundary
pub run_stops :
    (k : ℕ) (given : Given) (s : State) (m : List ℕ) (left : ℕ) →
    (number_of (turn_at given s m).reply ≡ 0 → ⊥) →
    goes_on (suc k) given s m left ≡ ends_here (number_of (turn_at given s m).reply) s m
unfolding goes_on
run_stops k given s m left other = rw (ne_eqb _ _ other)

pub run_spends :
    (k : ℕ) (given : Given) (s : State) (m : List ℕ) (left : ℕ) →
    number_of (turn_at given s m).reply ≡ 0 →
    left < (turn_at given s m).effect.cost →
    goes_on (suc k) given s m left ≡ ends_here 0 s m
unfolding goes_on
run_spends k given s m left done short = rw (eq-eqb _ _ done, lt-ltb _ _ short)

pub run_steps :
    (k : ℕ) (given : Given) (s : State) (m : List ℕ) (left : ℕ) →
    number_of (turn_at given s m).reply ≡ 0 →
    (turn_at given s m).effect.cost ≤ left →
    goes_on (suc k) given s m left
    ≡ after (turn_at given s m).effect.cost
    (goes_on k given (next_state given s m) (next_memory given s m) (left - (turn_at given s m).effect.cost))
unfolding goes_on
run_steps k given s m left done fits = rw (eq-eqb _ _ done, le-ltb _ _ fits)

-- and no boundary more
pub run_over : (given : Given) (s : State) (m : List ℕ) (left : ℕ) → goes_on 0 given s m left ≡ ends_here 0 s m
unfolding goes_on
run_over given s m left = refl

-- cycles before cycles are their sum
pub after_twice : (a b : ℕ) (e : End) → after a (after b e) ≡ after (a + b) e
after_twice a b e = ap (λ n. end_is e.reply e.state e.memory n) (omega arith)

pub after_none : (e : End) → after 0 e ≡ e
after_none e = ap (λ n. end_is e.reply e.state e.memory n) (omega arith)

-- What is left of the run, from here and after the cycles used, is the whole run. The clock says how many were used, and how many are
-- left until `end`.
pub record Going (given : Given) (m₀ : List ℕ) (s₀ : State) (budget boundaries : ℕ) (m : List ℕ) (s : State) (w : Watch) (more : ℕ)
    : Type 0 where
  pub rest : after (s.clock - s₀.clock) (goes_on more given s m (s₀.clock + budget - s.clock)) ≡ goes_on boundaries given s₀ m₀ budget
  pub whole : length m ≡ 65536
  pub same : length m ≡ length m₀
  pub since : s₀.clock ≤ s.clock
  pub until : s.clock ≤ s₀.clock + budget
  pub watched : Watched given.cycles given.lines s.clock w

-- a watch of a clock value is one of any later value
pub watched_later : (given : Given) (clock clock' : ℕ) (w : Watch) → clock ≤ clock' → w ≡ watch_at given.cycles given.lines clock → Watched given.cycles given.lines clock' w
watched_later given clock clock' w h is = record { since = clock; before = h; found = is }

-- where it begins
pub begun :
    (given : Given) (m : List ℕ) (s : State) (budget boundaries : ℕ) (w : Watch) →
    length m ≡ 65536 →
    w ≡ watch_at given.cycles given.lines s.clock →
    Going given m s budget boundaries m s w boundaries
begun given m s budget boundaries w whole is =
    record {
      rest =
          ap (λ (n : ℕ). after n (goes_on boundaries given s m (s.clock + budget - s.clock))) (omega arith)
          ∙ after_none _
          ∙ ap (goes_on boundaries given s m) (omega arith);
      whole = whole;
      same = refl;
      since = omega arith;
      until = omega arith;
      watched = watched_later given _ _ w (omega arith) is;
    }

-- the line byte that the watch gives is the one in force
pub in_force_here :
    (given : Given) (clock : ℕ) (w : Watch) →
    rising given.cycles ≡ true →
    length given.cycles ≡ length given.lines →
    w ≡ watch_at given.cycles given.lines clock →
    w.line ≡ line_in given clock
in_force_here given clock w up same is =
    ap (λ (w : Watch). w.line) is ∙ sym (line_of_place given.cycles given.lines clock up same)

-- so many boundaries, so many cycles and another state and memory on
pub moved :
    {given : Given} {m₀ : List ℕ} {s₀ : State} {budget boundaries : ℕ} {m : List ℕ} {s : State} {w : Watch} {more : ℕ} →
    Going given m₀ s₀ budget boundaries m s w more →
    (spent more' : ℕ) (m' : List ℕ) (s' : State) (w' : Watch) →
    spent ≤ s₀.clock + budget - s.clock →
    s'.clock ≡ s.clock + spent →
    length m' ≡ length m →
    w' ≡ watch_at given.cycles given.lines s.clock →
    goes_on more given s m (s₀.clock + budget - s.clock)
    ≡ after spent (goes_on more' given s' m' (s₀.clock + budget - s.clock - spent)) →
    Going given m₀ s₀ budget boundaries m' s' w' more'
moved {given} {m₀} {s₀} {budget} {boundaries} {m} {s} {w} {more} g spent more' m' s' w' fits clock kept watch on =
    record {
      rest =
          (λ i. after (used i) (goes_on more' given s' m' (left i)))
          ∙ sym (after_twice (s.clock - s₀.clock) spent _)
          ∙ ap (after (s.clock - s₀.clock)) (sym on)
          ∙ g.rest;
      whole = kept ∙ g.whole;
      same = kept ∙ g.same;
      since = omega (arith, clock, g.since);
      until = omega (arith, clock, fits, g.until);
      watched = watched_later given s.clock s'.clock w' (omega (arith, clock)) watch;
    }
  where
    used : s'.clock - s₀.clock ≡ s.clock - s₀.clock + spent
    used = omega (arith, clock, g.since)

    left : s₀.clock + budget - s'.clock ≡ s₀.clock + budget - s.clock - spent
    left = omega (arith, clock)

-- one step on
stepped :
    {given : Given} {m₀ : List ℕ} {s₀ : State} {budget boundaries : ℕ} {m : List ℕ} {s : State} {w : Watch} →
    (more : ℕ) →
    Going given m₀ s₀ budget boundaries m s w more →
    (w' : Watch) →
    w' ≡ watch_at given.cycles given.lines s.clock →
    (more ≡ 0 → ⊥) →
    number_of (turn_at given s m).reply ≡ 0 →
    (turn_at given s m).effect.cost ≤ s₀.clock + budget - s.clock →
    Going given m₀ s₀ budget boundaries (next_memory given s m) (next_state given s m) w' (more - 1)
stepped zero g w' watch some done fits = absurd (some refl)
stepped {given} {m₀} {s₀} {budget} {boundaries} {m} {s} {w} (suc k) g w' watch some done fits =
    let store = (turn_at given s m).effect.store in
    moved g (turn_at given s m).effect.cost _ (next_memory given s m) (next_state given s m) w' fits refl
    (store_keeps m store.at (bytes_stored store)) watch
    (run_steps k given s m _ done fits ∙ ap (λ (n : ℕ). after (turn_at given s m).effect.cost (onward n)) (omega arith))
  where
    onward : ℕ → End
    onward n = goes_on n given (next_state given s m) (next_memory given s m) (s₀.clock + budget - s.clock - (turn_at given s m).effect.cost)

-- The same for what the code holds: a turn, a memory, a state and a watch that are those.
pub turned :
    {given : Given} {m₀ : List ℕ} {s₀ : State} {budget boundaries : ℕ} {m : List ℕ} {s : State} {w : Watch} {more : ℕ} →
    Going given m₀ s₀ budget boundaries m s w more →
    (w' : Watch) →
    w' ≡ watch_at given.cycles given.lines s.clock →
    (more ≡ 0 → ⊥) →
    (t : Turn) (m' : List ℕ) (s' : State) →
    t ≡ turn_at given s m →
    number_of t.reply ≡ 0 →
    t.effect.cost ≤ s₀.clock + budget - s.clock →
    s' ≡ acted s t.effect →
    m' ≡ committed m t.effect.store →
    Going given m₀ s₀ budget boundaries m' s' w' (more - 1)
turned g w' watch some t m' s' is done fits es em =
    rw (em, es, is) (stepped _ g w' watch some (rw is at done) (rw is at fits))

-- an answer that has what an end has
pub ends_as :
    {e : End} {n used : ℕ} {s : State} {m : List ℕ} →
    e ≡ end_is n s m used →
    (r : Answer) →
    number_of r.reply ≡ n →
    r.machine.state ≡ s →
    r.cycles ≡ used →
    Ends e r m
ends_as is r reply state cycles =
    record {
      reply = reply ∙ sym (ap (λ e. e.reply) is);
      state = state ∙ sym (ap (λ e. e.state) is);
      cycles = cycles ∙ sym (ap (λ e. e.cycles) is);
      memory = sym (ap (λ e. e.memory) is);
    }

-- equal ends have the same answers
pub ends_same : {e e' : End} {r : Answer} {m : List ℕ} → e ≡ e' → Ends e' r m → Ends e r m
ends_same is ends = rw is ends

-- the end of a run, at this boundary
after_here : (used n : ℕ) (s : State) (m : List ℕ) → after used (ends_here n s m) ≡ end_is n s m used
after_here used n s m = ap (λ c. end_is n s m c) (omega arith)

ends_at :
    {given : Given} {m₀ : List ℕ} {s₀ : State} {budget boundaries : ℕ} {m : List ℕ} {s : State} {w : Watch} {more : ℕ} →
    Going given m₀ s₀ budget boundaries m s w more →
    (n : ℕ) →
    goes_on more given s m (s₀.clock + budget - s.clock) ≡ ends_here n s m →
    (r : Answer) →
    number_of r.reply ≡ n →
    r.machine.state ≡ s →
    r.cycles ≡ s.clock - s₀.clock →
    Ends (goes_on boundaries given s₀ m₀ budget) r m
ends_at {s₀ = s₀} {s = s} g n e =
    ends_as (sym g.rest ∙ ap (after (s.clock - s₀.clock)) e ∙ after_here (s.clock - s₀.clock) n _ _)

pub ends_over :
    {given : Given} {m₀ : List ℕ} {s₀ : State} {budget boundaries : ℕ} {m : List ℕ} {s : State} {w : Watch} {more : ℕ} →
    Going given m₀ s₀ budget boundaries m s w more →
    more ≡ 0 →
    (r : Answer) →
    r.reply ≡ Done →
    r.machine.state ≡ s →
    r.cycles ≡ s.clock - s₀.clock →
    Ends (goes_on boundaries given s₀ m₀ budget) r m
ends_over {given} {s₀ = s₀} {budget = budget} {m = m} {s = s} g none r reply state cycles =
    let left = s₀.clock + budget - s.clock in
    ends_at g 0 (ap (λ (k : ℕ). goes_on k given s m left) none ∙ run_over given s m left) r (ap number_of reply) state cycles

pub ends_stopped :
    {given : Given} {m₀ : List ℕ} {s₀ : State} {budget boundaries : ℕ} {m : List ℕ} {s : State} {w : Watch} (more : ℕ) →
    Going given m₀ s₀ budget boundaries m s w more →
    (more ≡ 0 → ⊥) →
    (t : Turn) →
    t ≡ turn_at given s m →
    (number_of t.reply ≡ 0 → ⊥) →
    (r : Answer) →
    r.reply ≡ t.reply →
    r.machine.state ≡ s →
    r.cycles ≡ s.clock - s₀.clock →
    Ends (goes_on boundaries given s₀ m₀ budget) r m
ends_stopped zero g some t is other r reply state cycles = absurd (some refl)
ends_stopped (suc k) g some t is other r reply state cycles =
    ends_at g _ (run_stops k _ _ _ _ (rw is at other)) r (ap number_of reply ∙ ap (λ t. number_of t.reply) is) state cycles

-- where the machine halts, by why it does
pub ends_halted :
    {given : Given} {m₀ : List ℕ} {s₀ : State} {budget boundaries : ℕ} {m : List ℕ} {s : State} {w : Watch} (more : ℕ) →
    Going given m₀ s₀ budget boundaries m s w more →
    (more ≡ 0 → ⊥) →
    (h : Halt) →
    turn_from s (Err h) ≡ turn_at given s m →
    (r : Answer) →
    r.reply ≡ halted h →
    r.machine.state ≡ s →
    r.cycles ≡ s.clock - s₀.clock →
    Ends (goes_on boundaries given s₀ m₀ budget) r m
ends_halted more g some Stopped is = ends_stopped more g some _ is (λ e. absurd (omega (arith, e)))
ends_halted more g some Reserved is = ends_stopped more g some _ is (λ e. absurd (omega (arith, e)))

pub ends_spent :
    {given : Given} {m₀ : List ℕ} {s₀ : State} {budget boundaries : ℕ} {m : List ℕ} {s : State} {w : Watch} (more : ℕ) →
    Going given m₀ s₀ budget boundaries m s w more →
    (more ≡ 0 → ⊥) →
    (t : Turn) →
    t ≡ turn_at given s m →
    number_of t.reply ≡ 0 →
    s₀.clock + budget - s.clock < t.effect.cost →
    (r : Answer) →
    r.reply ≡ Done →
    r.machine.state ≡ s →
    r.cycles ≡ s.clock - s₀.clock →
    Ends (goes_on boundaries given s₀ m₀ budget) r m
ends_spent zero g some t is done short r reply state cycles = absurd (some refl)
ends_spent (suc k) g some t is done short r reply state cycles =
    ends_at g 0 (run_spends k _ _ _ _ (rw is at done) (rw is at short)) r (ap number_of reply) state cycles
