-- A run equals its steps: on the definitions alone. Assumes nothing.
use Prim.Native.Nat.{ℕ, zero, suc, ◌+◌, ◌-◌, ◌<◌, ◌≤◌}
use native.Mathlib.Omega.{arith}
use native.Mathlib.Decide.{dec_lt, ℕ_discrete}
use mathlib.Core.Path.{◌≡◌, refl, sym, ◌∙◌, ap}
use mathlib.Core.Bool.{Bool, true, false, not}
use mathlib.Core.List.{List}
use lib.Dec.{ltb, eqb}
use lib.ListN.{length}
use borrow.Author.Tests.{ltb-false}
use Rattle.word.specs.Word.{pick}
use Rattle.state.specs.declared.State.{State}
use Rattle.memory.specs.Memory.{bytes_stored, AreBytes}
use Rattle.memory.proofs.Laws.{store_keeps}
use Rattle.machine.specs.Names.{number_of}
use Rattle.turn.specs.Turn.{turn_of}
use Rattle.refusals.specs.Given.{Given, line_in}
use Rattle.steps.specs.End.{End, ends_here, after}
use Rattle.steps.specs.Steps.{turn_cost, turn_state, turn_memory}
use Rattle.refusals.specs.Refusals.{run_refusal}
use Rattle.steps.specs.Steps.{goes_on, turn_at, next_state, next_memory}
use Rattle.run.specs.Run.{run_of}
use Rattle.refusals.proofs.Laws.{Free, is_free}
use Rattle.run.proofs.Refusals.{step_taken, run_taken, run_free}
use Rattle.steps.proofs.Loop.{run_stops, run_spends, run_steps, after_twice, after_none}
use Rattle.run.proofs.OneStep.{costs_one}
use Rattle.walk.specs.Words.{Words}
use Rattle.promises.proofs.Words.{every_boundary_has_words}
use Rattle.promises.specs.Steps.{AStepIsATurn, after_steps, IsOfSteps, ARunIsItsSteps, ARunSplits, RunsGoOn, TheClockGrows, WithinTheBudget}
use Rattle.promises.specs.Steps.OneAfterAnother.{one_run, one_more_run}

pub a_step_is_a_turn : AStepIsATurn
a_step_is_a_turn = step_taken

-- no step is taken
none_taken :
    (s : State) (m : List ℕ) (given : Given) (left n : ℕ) →
    n ≡ number_of (turn_at given s m).reply →
    (n ≡ 0 → left < (turn_at given s m).effect.cost) →
    IsOfSteps 0 s m given left (ends_here n s m)
unfolding after_steps
none_taken s m given left n reply short =
    record {
      done = λ k h. absurd (omega (arith, h));
      paid = paid;
      state = refl;
      memory = refl;
      used = refl;
      reply = reply;
      spent = λ e. let cost = short e in omega (arith, cost);
    }
  where
    paid : (k : ℕ) → k ≤ 0 → (after_steps k given s m).cycles ≤ left
    paid zero h = omega arith
    paid (suc k) h = absurd (omega (arith, h))

-- one step is taken, and then the others
one_more_lem :
    (s : State) (m : List ℕ) (given : Given) (left n : ℕ) (e : End) →
    number_of (turn_at given s m).reply ≡ 0 →
    (turn_at given s m).effect.cost ≤ left →
    IsOfSteps n (next_state given s m) (next_memory given s m) given
    (left - (turn_at given s m).effect.cost) e →
    IsOfSteps (suc n) s m given left (after (turn_at given s m).effect.cost e)
unfolding after_steps
one_more_lem s m given left n e first fits rest =
    record {
      done = done;
      paid = paid;
      state = rest.state;
      memory = rest.memory;
      used = ap (λ c. (turn_at given s m).effect.cost + c) rest.used;
      reply = rest.reply;
      spent = λ r. let short = rest.spent r in omega (arith, short, fits);
    }
  where
    done :
        (k : ℕ) →
        k < suc n →
        number_of (turn_at given (after_steps k given s m).state (after_steps k given s m).memory).reply ≡ 0
    done zero h = first
    done (suc k) h = rest.done k (omega (arith, h))

    paid : (k : ℕ) → k ≤ suc n → (after_steps k given s m).cycles ≤ left
    paid zero h = omega arith
    paid (suc k) h = let most = rest.paid k (omega (arith, h)) in omega (arith, most, fits)

pub takes_steps :
    (k : ℕ) (s : State) (m : List ℕ) (given : Given) (left : ℕ) →
    left < k →
    Words s →
    AreBytes m →
    (n : ℕ) × IsOfSteps n s m given left (goes_on k given s m left)
takes_steps zero s m given left enough w bytes = absurd (omega (arith, enough))
takes_steps (suc k) s m given left enough w bytes =
    let next = every_boundary_has_words s m (line_in given s.clock) w bytes in
    go (ℕ_discrete (number_of (turn_at given s m).reply) 0) (dec_lt left (turn_at given s m).effect.cost)
    (λ l. takes_steps k (next_state given s m) (next_memory given s m) given
    (left - (turn_at given s m).effect.cost) l next.0 next.1)
  where
    go :
        Dec (number_of (turn_at given s m).reply ≡ 0) →
        Dec (left < (turn_at given s m).effect.cost) →
        (left - (turn_at given s m).effect.cost < k →
        (n : ℕ)
        × IsOfSteps n (next_state given s m) (next_memory given s m) given
        (left - (turn_at given s m).effect.cost)
        (goes_on k given (next_state given s m) (next_memory given s m)
        (left - (turn_at given s m).effect.cost))) →
        (n : ℕ) × IsOfSteps n s m given left (goes_on (suc k) given s m left)
    go (no other) any rest =
        (0, rw (run_stops k given s m left other) (none_taken s m given left _ refl (λ e. absurd (other e))))
    go (yes done) (yes short) rest =
        (0, rw (run_spends k given s m left done short) (none_taken s m given left 0 (sym done) (λ e. short)))
    go (yes done) (no fits) rest =
        let one = costs_one s m (line_in given s.clock) bytes done in
        let others = rest (omega (arith, one, enough, fits)) in
        let there : (turn_at given s m).effect.cost ≤ left = omega (arith, fits) in
        (suc others.0, rw (run_steps k given s m left done there) (one_more_lem s m given left others.0 _ done there others.1))

pub a_run_is_its_steps : ARunIsItsSteps
a_run_is_its_steps s m given budget w bytes free =
    rw (run_taken s m given budget free) (takes_steps (suc budget) s m given budget (omega arith) w bytes)

-- so many steps, and then so many more
later :
    (n k : ℕ) (s : State) (m : List ℕ) (given : Given) →
    after_steps (n + k) given s m
    ≡ after (after_steps n given s m).cycles (after_steps k given (after_steps n given s m).state (after_steps n given s m).memory)
unfolding after_steps
later zero k s m given =
    let is : 0 + k ≡ k = omega arith in
    ap (λ (j : ℕ). after_steps j given s m) is ∙ sym (after_none (after_steps k given s m))
later (suc n) k s m given =
    let is : suc n + k ≡ suc (n + k) = omega arith in
    ap (λ (j : ℕ). after_steps j given s m) is
    ∙ ap (after (turn_at given s m).effect.cost) (later n k (next_state given s m) (next_memory given s m) given)
    ∙ after_twice (turn_at given s m).effect.cost _ _

-- registers of bytes and words, and a memory of bytes, after any number of steps
pub words_after :
    (n : ℕ) (s : State) (m : List ℕ) (given : Given) →
    Words s →
    AreBytes m →
    Words (after_steps n given s m).state × AreBytes (after_steps n given s m).memory
unfolding after_steps
words_after zero s m given w bytes = (w, bytes)
words_after (suc n) s m given w bytes =
    let next = every_boundary_has_words s m (line_in given s.clock) w bytes in
    words_after n (next_state given s m) (next_memory given s m) given next.0 next.1

-- an end of n steps, and from there one of k steps: together an end of n + k
module _
    (s : State) (m : List ℕ) (given : Given) (n k first second : ℕ) (e f : End) (one : IsOfSteps n s m given first e)
    (two : IsOfSteps k e.state e.memory given second f)
  where
    at : (j : ℕ) → after_steps (n + j) given s m ≡ after e.cycles (after_steps j given e.state e.memory)
    at j = later n j s m given ∙ (λ i. after (sym one.used i) (after_steps j given (sym one.state i) (sym one.memory i)))

    done_at : (j : ℕ) → j < k → number_of (turn_at given (after_steps (n + j) given s m).state (after_steps (n + j) given s m).memory).reply ≡ 0
    done_at j h = rw (at j) (two.done j h)

    joined_done : (j : ℕ) → j < n + k → number_of (turn_at given (after_steps j given s m).state (after_steps j given s m).memory).reply ≡ 0
    joined_done j h = go (dec_lt j n)
      where
        go : Dec (j < n) → number_of (turn_at given (after_steps j given s m).state (after_steps j given s m).memory).reply ≡ 0
        go (yes l) = one.done j l
        go (no l) =
            let is : j ≡ n + (j - n) = omega (arith, l) in
            ap (λ (i : ℕ). number_of (turn_at given (after_steps i given s m).state (after_steps i given s m).memory).reply) is
            ∙ done_at (j - n) (omega (arith, l, h))

    joined_paid : (j : ℕ) → j ≤ n + k → (after_steps j given s m).cycles ≤ e.cycles + second
    joined_paid j h = go (dec_lt j n)
      where
        go : Dec (j < n) → (after_steps j given s m).cycles ≤ e.cycles + second
        go (yes l) =
            let is : j + (n - j) ≡ n = omega (arith, l) in
            let rest = ap (λ (x : End). x.cycles) (later j (n - j) s m given) in
            let all = ap (λ (i : ℕ). (after_steps i given s m).cycles) is in
            omega (arith, rest, all, one.used)
        go (no l) =
            let is : j ≡ n + (j - n) = omega (arith, l) in
            let here = ap (λ (i : ℕ). (after_steps i given s m).cycles) is in
            let then = ap (λ (x : End). x.cycles) (at (j - n)) in
            let most = two.paid (j - n) (omega (arith, l, h)) in
            omega (arith, here, then, most)

    joined : IsOfSteps (n + k) s m given (e.cycles + second) (after e.cycles f)
    joined =
        record {
          done = joined_done;
          paid = joined_paid;
          state = two.state ∙ sym (ap (λ (x : End). x.state) (at k));
          memory = two.memory ∙ sym (ap (λ (x : End). x.memory) (at k));
          used = ap (λ (c : ℕ). e.cycles + c) two.used ∙ sym (ap (λ (x : End). x.cycles) (at k));
          reply = two.reply;
          spent = λ r. let short = two.spent r in omega (arith, short);
        }

-- an end of so many steps, and then what goes on from there as so many steps more
pub and_then :
    (s : State) (m : List ℕ) (given : Given) (room budget : ℕ) (e f : End) →
    Words s →
    AreBytes m →
    (n : ℕ) × IsOfSteps n s m given room e →
    (Words e.state → AreBytes e.memory → (k : ℕ) × IsOfSteps k e.state e.memory given budget f) →
    (n : ℕ) × IsOfSteps n s m given (e.cycles + budget) (after e.cycles f)
and_then s m given room budget e f w bytes so_far goes_on =
    let there = words_after so_far.0 s m given w bytes in
    let words : Words e.state = rw so_far.1.state there.0 in
    let held : AreBytes e.memory = rw so_far.1.memory there.1 in
    let last = goes_on words held in
    (so_far.0 + last.0, joined s m given so_far.0 last.0 room budget e f so_far.1 last.1)

pub runs_go_on : RunsGoOn
runs_go_on s m given room e w bytes (one_run budget free) = a_run_is_its_steps s m given budget w bytes free
runs_go_on s m given room e w bytes (one_more_run {room = room'} {e = e'} runs budget free) =
    and_then s m given room' budget e' _ w bytes (runs_go_on s m given room' e' w bytes runs)
    (λ words held. a_run_is_its_steps e'.state e'.memory given budget words held free)

-- What a run keeps to from any boundary: its clock, its budget and its memory's length.
pub record Keeps (s : State) (m : List ℕ) (left : ℕ) (e : End) : Type 0 where
  pub clock : e.state.clock ≡ s.clock + e.cycles
  most : e.cycles ≤ left
  length_is : length e.memory ≡ length m

here_keeps : (n : ℕ) (s : State) (m : List ℕ) (left : ℕ) → Keeps s m left (ends_here n s m)
here_keeps n s m left = record { clock = omega arith; most = omega arith; length_is = refl }

step_keeps :
    (s : State) (m : List ℕ) (line left : ℕ) (e : End) →
    turn_cost s m line ≤ left →
    Keeps (turn_state s m line) (turn_memory s m line) (left - turn_cost s m line) e →
    Keeps s m left (after (turn_cost s m line) e)
step_keeps s m line left e fits rest =
    record {
      clock = omega (arith, rest.clock);
      most = omega (arith, rest.most, fits);
      length_is = rest.length_is ∙ store_keeps m (turn_of s m line).effect.store.at (bytes_stored (turn_of s m line).effect.store);
    }

pub keeps : (k : ℕ) (s : State) (m : List ℕ) (given : Given) (left : ℕ) → Keeps s m left (goes_on k given s m left)
unfolding goes_on
keeps zero s m given left = here_keeps 0 s m left
keeps (suc k) s m given left =
    go (eqb (number_of (turn_at given s m).reply) 0) (ltb left (turn_at given s m).effect.cost) refl
    (keeps k (next_state given s m) (next_memory given s m) given
    (left - (turn_at given s m).effect.cost))
  where
    go :
        (done short : Bool) →
        ltb left (turn_at given s m).effect.cost ≡ short →
        Keeps (next_state given s m) (next_memory given s m)
        (left - (turn_at given s m).effect.cost)
        (goes_on k given (next_state given s m) (next_memory given s m)
        (left - (turn_at given s m).effect.cost)) →
        Keeps s m left
        (pick (not done) (ends_here (number_of (turn_at given s m).reply) s m)
        (pick short (ends_here 0 s m)
        (after (turn_at given s m).effect.cost
        (goes_on k given (next_state given s m) (next_memory given s m)
        (left - (turn_at given s m).effect.cost)))))
    go false short e rest = here_keeps _ s m left
    go true true e rest = here_keeps 0 s m left
    go true false e rest = step_keeps s m (line_in given s.clock) left _ (ltb-false _ _ e) rest

-- More boundaries than there are cycles left make no difference.
enough :
    (k k' : ℕ) (s : State) (m : List ℕ) (given : Given) (left : ℕ) →
    left < k →
    left < k' →
    Words s →
    AreBytes m →
    goes_on k given s m left ≡ goes_on k' given s m left
enough zero k' s m given left l l' w bytes = absurd (omega (arith, l))
enough (suc k) zero s m given left l l' w bytes = absurd (omega (arith, l'))
enough (suc k) (suc k') s m given left l l' w bytes =
    let line = line_in given s.clock in
    let next = every_boundary_has_words s m line w bytes in
    go (ℕ_discrete (number_of (turn_at given s m).reply) 0) (dec_lt left (turn_at given s m).effect.cost)
    (λ i j. enough k k' (turn_state s m line) (turn_memory s m line) given (left - turn_cost s m line) i j next.0 next.1)
  where
    go :
        Dec (number_of (turn_at given s m).reply ≡ 0) →
        Dec (left < (turn_at given s m).effect.cost) →
        (left - (turn_at given s m).effect.cost < k →
        left - (turn_at given s m).effect.cost < k' →
        goes_on k given (next_state given s m) (next_memory given s m)
        (left - (turn_at given s m).effect.cost)
        ≡ goes_on k' given (next_state given s m) (next_memory given s m)
        (left - (turn_at given s m).effect.cost)) →
        goes_on (suc k) given s m left ≡ goes_on (suc k') given s m left
    go (no other) any rest = run_stops k given s m left other ∙ sym (run_stops k' given s m left other)
    go (yes done) (yes short) rest = run_spends k given s m left done short ∙ sym (run_spends k' given s m left done short)
    go (yes done) (no fits) rest =
        let one = costs_one s m (line_in given s.clock) bytes done in
        let there : (turn_at given s m).effect.cost ≤ left = omega (arith, fits) in
        run_steps k given s m left done there
        ∙ ap (after (turn_at given s m).effect.cost) (rest (omega (arith, one, l, there)) (omega (arith, one, l', there)))
        ∙ sym (run_steps k' given s m left done there)

-- what two runs leave, the second going on where the first, h, ended
abbrev going_on : ℕ → Given → ℕ → End → End
going_on k given left h = after h.cycles (goes_on k given h.state h.memory (left - h.cycles))

-- the first ends at once
splits_here :
    (k k' n : ℕ) (s : State) (m : List ℕ) (given : Given) (left : ℕ) →
    left < k →
    left < k' →
    Words s →
    AreBytes m →
    goes_on k given s m left ≡ going_on k' given left (ends_here n s m)
splits_here k k' n s m given left l l' w bytes =
    enough k k' s m given left l l' w bytes
    ∙ sym (after_none _)
    ∙ ap (λ rest. after 0 (goes_on k' given s m rest)) (omega arith)

-- the first takes a step
splits_on :
    (k cost left : ℕ) (given : Given) (e h : End) →
    e ≡ going_on k given (left - cost) h →
    after cost e ≡ going_on k given left (after cost h)
splits_on k cost left given e h is =
    ap (after cost) is
    ∙ after_twice cost h.cycles _
    ∙ ap (λ rest. after (cost + h.cycles) (goes_on k given h.state h.memory rest)) (omega arith)

splits :
    (k k₁ k₂ : ℕ) (s : State) (m : List ℕ) (given : Given) (first left : ℕ) →
    first ≤ left →
    first < k₁ →
    left < k →
    left - (goes_on k₁ given s m first).cycles < k₂ →
    Words s →
    AreBytes m →
    goes_on k given s m left ≡ going_on k₂ given left (goes_on k₁ given s m first)
splits k zero k₂ s m given first left f l₁ l l₂ w bytes = absurd (omega (arith, l₁))
splits zero (suc k₁) k₂ s m given first left f l₁ l l₂ w bytes = absurd (omega (arith, l))
splits (suc k) (suc k₁) k₂ s m given first left f l₁ l l₂ w bytes =
    let line = line_in given s.clock in
    let next = every_boundary_has_words s m line w bytes in
    go (ℕ_discrete (number_of (turn_at given s m).reply) 0) (dec_lt first (turn_at given s m).effect.cost)
    (λ i₁ i i₂. splits k k₁ k₂ (turn_state s m line) (turn_memory s m line) given (first - turn_cost s m line) (left - turn_cost s m line)
    (omega (arith, f)) i₁ i i₂ next.0 next.1)
  where
    go :
        Dec (number_of (turn_at given s m).reply ≡ 0) →
        Dec (first < (turn_at given s m).effect.cost) →
        (first - (turn_at given s m).effect.cost < k₁ →
        left - (turn_at given s m).effect.cost < k →
        left
        - (turn_at given s m).effect.cost
        - (goes_on k₁ given (next_state given s m) (next_memory given s m)
        (first - (turn_at given s m).effect.cost)).cycles
        < k₂ →
        goes_on k given (next_state given s m) (next_memory given s m)
        (left - (turn_at given s m).effect.cost)
        ≡ going_on k₂ given (left - (turn_at given s m).effect.cost)
        (goes_on k₁ given (next_state given s m) (next_memory given s m)
        (first - (turn_at given s m).effect.cost))) →
        goes_on (suc k) given s m left ≡ going_on k₂ given left (goes_on (suc k₁) given s m first)
    go (no other) any rest =
        let ends = run_stops k₁ given s m first other in
        let l₃ = rw ends at l₂ in
        rw ends (splits_here (suc k) k₂ (number_of (turn_at given s m).reply) s m given left l (omega (arith, l₃)) w bytes)
    go (yes done) (yes short) rest =
        let ends = run_spends k₁ given s m first done short in
        let l₃ = rw ends at l₂ in
        rw ends (splits_here (suc k) k₂ 0 s m given left l (omega (arith, l₃)) w bytes)
    go (yes done) (no fits) rest =
        let one = costs_one s m (line_in given s.clock) bytes done in
        let there : (turn_at given s m).effect.cost ≤ first = omega (arith, fits) in
        let goes = run_steps k₁ given s m first done there in
        let l₃ = rw goes at l₂ in
        rw goes
        (run_steps k given s m left done (omega (arith, there, f))
        ∙ splits_on k₂ (turn_at given s m).effect.cost left given
        (goes_on k given (next_state given s m) (next_memory given s m)
        (left - (turn_at given s m).effect.cost))
        (goes_on k₁ given (next_state given s m) (next_memory given s m)
        (first - (turn_at given s m).effect.cost))
        (rest (omega (arith, one, l₁, there)) (omega (arith, one, l, there, f)) (omega (arith, l₃))))

pub a_run_splits : ARunSplits
a_run_splits s m given first budget w bytes free part =
    let f = is_free s m given budget free in
    let f₁ : Free s m given first =
    record { whole = f.whole; good = f.good; none_withdrawn = f.none_withdrawn; small = omega (arith, part, f.small); near = omega (arith, part, f.near) } in
    let h = goes_on (suc first) given s m first in
    let kept = keeps (suc first) s m given first in
    let f₂ : Free h.state h.memory given (budget - h.cycles) =
    record {
      whole = kept.length_is ∙ f.whole;
      good = f.good;
      none_withdrawn = f.none_withdrawn;
      small = omega (arith, f.small);
      near = omega (arith, part, kept.clock, kept.most, f.near);
    } in
    run_free f
    ∙ splits (suc budget) (suc first) (suc (budget - h.cycles)) s m given first budget part (omega arith) (omega arith) (omega arith) w bytes
    ∙ ap (after h.cycles) (sym (run_free f₂))
    ∙ ap (λ e. after e.cycles (run_of e.state e.memory given (budget - e.cycles))) (sym (run_free f₁))

pub the_clock_grows : TheClockGrows
unfolding run_of
the_clock_grows s m given budget = go (eqb (run_refusal s m given budget) 0)
  where
    go :
        (b : Bool) →
        (pick b (goes_on (suc budget) given s m budget) (ends_here (run_refusal s m given budget) s m)).state.clock
        ≡ s.clock + (pick b (goes_on (suc budget) given s m budget) (ends_here (run_refusal s m given budget) s m)).cycles
    go true = (keeps (suc budget) s m given budget).clock
    go false = omega arith

pub within_the_budget : WithinTheBudget
unfolding run_of
within_the_budget s m given budget = go (eqb (run_refusal s m given budget) 0)
  where
    go :
        (b : Bool) →
        (pick b (goes_on (suc budget) given s m budget) (ends_here (run_refusal s m given budget) s m)).cycles ≤ budget
    go true = (keeps (suc budget) s m given budget).most
    go false = omega arith
