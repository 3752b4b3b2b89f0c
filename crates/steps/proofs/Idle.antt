-- Idle steps taken at once are idle steps taken one by one. Assumes nothing.
use Prim.Native.Nat.{ℕ, zero, suc, ◌+◌, ◌-◌, ◌<◌, ◌≤◌, min}
use native.Mathlib.Omega.{arith}
use mathlib.Core.Path.{◌≡◌, refl, sym, ◌∙◌, ap}
use mathlib.Core.Bool.{Bool, true, false, true≢false}
use mathlib.Core.List.{List}
use lib.Dec.{leb, ltb}
use lib.ListN.{length}
use Rattle.std.specs.Prelude.{Some, None, is_some}
use Rattle.word.specs.Word.{pick}
use borrow.Author.Tests.{le-ltb, le-leb, leb-true, ltb-false}
use Rattle.memory.proofs.Laws.{store_none}
use Rattle.state.specs.declared.State.{State}
use Rattle.state.specs.State.{with_clock}
use Rattle.memory.specs.Memory.{committed}
use Rattle.effect.specs.Effect.{quiet, acted}
use Rattle.machine.specs.declared.Reply.TheVariants.{Done}
use Rattle.machine.specs.Names.{number_of, no_line, idle_cost, clock_limit}
use Rattle.schedule.specs.declared.Watch.{Watch}
use Rattle.schedule.specs.Schedule.{rising, passed, coming_at, watch_at}
use Rattle.schedule.proofs.Laws.{coming_later, line_still}
use Rattle.requests.specs.Requests.{allowed_line, as_line}
use Rattle.refusals.specs.Given.{Given, line_in}
use Rattle.turn.specs.Turn.{Turn, turn_is, turn_of}
use Rattle.steps.specs.End.{after}
use Rattle.steps.specs.Steps.{goes_on}
use Rattle.steps.specs.Idle.{idle_cycles, IdlesAtOnce}
use Rattle.steps.proofs.Loop.{run_steps, after_twice, after_none, Going, moved}

-- the turn of a machine that waits and has to go on waiting
pub idle_turn :
    (s : State) (m : List ℕ) (line : ℕ) →
    s.standing.waiting ≡ true →
    no_line ≤ allowed_line s.flags line →
    turn_of s m line ≡ turn_is Done (quiet s idle_cost)
unfolding turn_of
idle_turn s m line waits none = rw (le-ltb _ _ none, waits)

-- one idle step
idle_step :
    (k : ℕ) (given : Given) (s : State) (m : List ℕ) (left : ℕ) →
    1 ≤ left →
    s.standing.waiting ≡ true →
    no_line ≤ allowed_line s.flags (line_in given s.clock) →
    goes_on (suc k) given s m left ≡ after 1 (goes_on k given (with_clock s (s.clock + 1)) m (left - 1))
idle_step k given s m left some waits none =
    let is = idle_turn s m (line_in given s.clock) waits none in
    run_steps k given s m left (ap (λ (t : Turn). number_of t.reply) is) (rw is some)
    ∙ ap (λ (t : Turn). after t.effect.cost (goes_on k given (acted s t.effect) (committed m t.effect.store) (left - t.effect.cost))) is
    ∙ ap (λ (m : List ℕ). after 1 (goes_on k given (with_clock s (s.clock + 1)) m (left - 1))) (store_none m)

pub idles_at_once : IdlesAtOnce
idles_at_once zero more given s m left inside fits waits none =
    sym (after_none _) ∙ (λ i. after 0 (goes_on (same more i) given (with_clock s (clock i)) m (same left i)))
  where
    same : (n : ℕ) → n ≡ n - 0
    same n = omega arith

    clock : s.clock ≡ s.clock + 0
    clock = omega arith
idles_at_once (suc n) zero given s m left inside fits waits none = absurd (omega (arith, inside))
idles_at_once (suc n) (suc k) given s m left inside fits waits none =
    idle_step k given s m left (omega (arith, fits)) waits (none s.clock (omega arith) (omega arith))
    ∙ ap (after 1) (idles_at_once n k given (with_clock s (s.clock + 1)) m (left - 1) (omega (arith, inside)) (omega (arith, fits)) waits later)
    ∙ after_twice 1 n _
    ∙ (λ i. after (one i) (goes_on (fewer i) given (with_clock s (clock i)) m (spent i)))
  where
    later : (clock : ℕ) → s.clock + 1 ≤ clock → clock < s.clock + 1 + n → no_line ≤ allowed_line s.flags (line_in given clock)
    later clock low high = none clock (omega (arith, low)) (omega (arith, high))

    one : 1 + n ≡ suc n
    one = omega arith

    fewer : k - n ≡ suc k - suc n
    fewer = omega arith

    clock : s.clock + 1 + n ≡ s.clock + suc n
    clock = omega arith

    spent : left - 1 - n ≡ left - suc n
    spent = omega arith

-- what is known where there are idle cycles to take
pub record Idles (s : State) (line due left more n : ℕ) : Type 0 where
  pub waits : s.standing.waiting ≡ true
  pub none : no_line ≤ allowed_line s.flags line
  pub before : s.clock + n ≤ due
  pub fits : n ≤ left
  pub inside : n ≤ more

pub idles :
    (s : State) (line due left more n : ℕ) →
    s.clock ≤ due →
    n ≡ idle_cycles s line due left more →
    0 < n →
    Idles s line due left more n
idles s line due left more n later is some = go s.standing.waiting refl (leb no_line (allowed_line s.flags line)) refl
  where
    go :
        (b : Bool) → s.standing.waiting ≡ b →
        (free : Bool) → leb no_line (allowed_line s.flags line) ≡ free →
        Idles s line due left more n
    go true waits true none =
        let least : n ≡ min (due - s.clock) (min left more) = is ∙ rw (waits, none) in
        record {
          waits = waits;
          none = leb-true no_line _ none;
          before = omega (arith, least, later);
          fits = omega (arith, least);
          inside = omega (arith, least);
        }
    go true waits false none = let nothing : n ≡ 0 = is ∙ rw (waits, none) in absurd (omega (arith, nothing, some))
    go false waits free none = let nothing : n ≡ 0 = is ∙ rw waits in absurd (omega (arith, nothing, some))

-- the next record is after the clock
pub due_later : (given : Given) (clock : ℕ) (w : Watch) → w ≡ watch_at given.cycles given.lines clock → clock < 4294967295 → clock < w.due
due_later given clock w is h = rw is (coming_later given.cycles clock h)

-- a wait on: the idle cycles that the loop takes at once
pub idled :
    {given : Given} {m₀ : List ℕ} {s₀ : State} {budget boundaries : ℕ} {m : List ℕ} {s : State} {w : Watch} {more : ℕ} →
    Going given m₀ s₀ budget boundaries m s w more →
    rising given.cycles ≡ true →
    length given.cycles ≡ length given.lines →
    s₀.clock + budget ≤ clock_limit →
    (w' : Watch) →
    w' ≡ watch_at given.cycles given.lines s.clock →
    (n : ℕ) →
    n ≡ idle_cycles s w'.line w'.due (s₀.clock + budget - s.clock) more →
    0 < n →
    (s' : State) →
    s' ≡ with_clock s (s.clock + n) →
    Going given m₀ s₀ budget boundaries m s' w' (more - n)
idled {given} {m₀} {s₀} {budget} {boundaries} {m} {s} {w} {more} g up same limit w' watch n is some s' es =
    moved g n (more - n) m s' w' known.fits (ap (λ (s : State). s.clock) es) refl watch
    (idles_at_once n more given s m _ known.inside known.fits known.waits still
    ∙ ap (λ (t : State). after n (goes_on (more - n) given t m (s₀.clock + budget - s.clock - n))) (sym es))
  where
    later : s.clock < w'.due
    later = due_later given s.clock w' watch (omega (arith, limit, g.until))

    known : Idles s w'.line w'.due (s₀.clock + budget - s.clock) more n
    known = idles s w'.line w'.due _ more n (omega (arith, later)) is some

    still : (clock : ℕ) → s.clock ≤ clock → clock < s.clock + n → no_line ≤ allowed_line s.flags (line_in given clock)
    still clock low high =
        let due : w'.due ≡ coming_at given.cycles (passed given.cycles s.clock) = ap (λ (w : Watch). w.due) watch in
        let line = line_still given.cycles given.lines s.clock clock up same low (omega (arith, high, known.before, due)) in
        rw (line ∙ sym (ap (λ (w : Watch). w.line) watch)) known.none

-- a line that is not there is no line's number
pub none_allowed : (k : ℕ) → is_some (as_line k) ≡ false → leb no_line k ≡ true
none_allowed k = go (ltb k no_line) refl
  where
    go : (there : Bool) → ltb k no_line ≡ there → is_some (pick there (Some k) None) ≡ false → leb no_line k ≡ true
    go true low none = absurd (true≢false none)
    go false high none = le-leb no_line k (ltb-false k no_line high)
