-- The clock may be set back: on the definitions alone. Assumes nothing.
use Prim.Native.Nat.{ℕ, zero, suc, ◌+◌, ◌-◌, ◌<◌, ◌≤◌}
use native.Mathlib.Omega.{arith}
use native.Mathlib.Decide.{dec_lt, ℕ_discrete}
use mathlib.Core.Path.{◌≡◌, sym, ◌∙◌, ap}
use mathlib.Core.List.{List}
use Rattle.state.specs.declared.State.{State}
use Rattle.state.specs.State.{with_clock}
use Rattle.memory.specs.Memory.{committed, AreBytes}
use Rattle.machine.specs.Names.{number_of}
use Rattle.machine.proofs.Laws.{number_zero}
use Rattle.turn.specs.Turn.{Turn, turn_is, turn_of}
use Rattle.walk.specs.Clock.{at_clock}
use Rattle.walk.proofs.Clock.{no_turn_reads_the_clock}
use Rattle.walk.proofs.Bounds.{every_step_costs}
use Rattle.refusals.specs.Given.{Given, line_in}
use Rattle.steps.specs.End.{End, end_is, ends_here, after}
use Rattle.steps.specs.Steps.{goes_on, turn_at, next_state, next_memory}
use Rattle.steps.proofs.Loop.{run_stops, run_spends, run_steps, run_over}
use Rattle.run.proofs.Refusals.{run_taken}
use Rattle.promises.specs.SetBack.{earlier, end_earlier, end_later, SameLines, StandsFor, stand_in, OnlyTheLinesInForceCount, AStandInIsItsSteps}
use Rattle.promises.specs.SetBack.{set_back, TheClockMayBeSetBack, handed, WhatIsHandedWillDo, AReplayIsItsSteps, AReplayHasOneEnd, NoPartStandsStill}
use Rattle.promises.specs.SetBack.Replay.{one_part, one_more_part}
use Rattle.promises.specs.Steps.{after_steps, IsOfSteps}
use Rattle.promises.proofs.Steps.{takes_steps, words_after, keeps, and_then}
use Rattle.promises.proofs.Boundaries.{one_on}
use Rattle.promises.proofs.Replies.{run_accepted}
use Rattle.promises.proofs.BadLines.{good_lines_back, good_lines_handed}
use Rattle.promises.proofs.Handed.{good_back, lines_back, good_handed, lines_handed}

module _ (given given' : Given) (amount : ℕ) where
  -- the turn at a boundary, with the clock set back
  module _ (s : State) (m : List ℕ) (h : amount ≤ s.clock) (same : line_in given' (s.clock - amount) ≡ line_in given s.clock) where
    turn_back :
        turn_at given' (earlier amount s) m
        ≡ turn_is (turn_at given s m).reply (at_clock (turn_at given s m).effect (s.clock - amount))
    turn_back =
        ap (turn_of (earlier amount s) m) same ∙ no_turn_reads_the_clock s m (line_in given s.clock) (s.clock - amount)

    reply_back : number_of (turn_at given' (earlier amount s) m).reply ≡ number_of (turn_at given s m).reply
    reply_back = ap (λ (t : Turn). number_of t.reply) turn_back

    cost_back : (turn_at given' (earlier amount s) m).effect.cost ≡ (turn_at given s m).effect.cost
    cost_back = ap (λ (t : Turn). t.effect.cost) turn_back

    state_back : next_state given' (earlier amount s) m ≡ earlier amount (next_state given s m)
    state_back =
        ap (λ (t : Turn). with_clock t.effect.state (s.clock - amount + t.effect.cost)) turn_back
        ∙ ap (with_clock (turn_at given s m).effect.state) (omega (arith, h))

    memory_back : next_memory given' (earlier amount s) m ≡ next_memory given s m
    memory_back = ap (λ (t : Turn). committed m t.effect.store) turn_back

  -- and all that follows it
  goes_back :
      (k : ℕ) (s : State) (m : List ℕ) (left : ℕ) →
      amount ≤ s.clock →
      SameLines amount given given' s.clock (s.clock + left) →
      goes_on k given' (earlier amount s) m left ≡ end_earlier amount (goes_on k given s m left)
  goes_back zero s m left h lines =
      run_over given' (earlier amount s) m left ∙ sym (ap (end_earlier amount) (run_over given s m left))
  goes_back (suc k) s m left h lines =
      go (ℕ_discrete (number_of (turn_at given s m).reply) 0) (dec_lt left cost)
      (λ fits. goes_back k (next_state given s m) (next_memory given s m) (left - cost) (omega (arith, h))
      (λ t low high. lines t (omega (arith, low)) (omega (arith, high, fits))))
    where
      cost : ℕ
      cost = (turn_at given s m).effect.cost

      here : line_in given' (s.clock - amount) ≡ line_in given s.clock
      here = lines s.clock (omega arith) (omega arith)

      go :
          Dec (number_of (turn_at given s m).reply ≡ 0) →
          Dec (left < (turn_at given s m).effect.cost) →
          ((turn_at given s m).effect.cost ≤ left →
          goes_on k given' (earlier amount (next_state given s m)) (next_memory given s m) (left - (turn_at given s m).effect.cost)
          ≡ end_earlier amount (goes_on k given (next_state given s m) (next_memory given s m) (left - (turn_at given s m).effect.cost))) →
          goes_on (suc k) given' (earlier amount s) m left ≡ end_earlier amount (goes_on (suc k) given s m left)
      go (no other) any rest =
          run_stops k given' (earlier amount s) m left (λ e. other (sym (reply_back s m h here) ∙ e))
          ∙ ap (λ (n : ℕ). ends_here n (earlier amount s) m) (reply_back s m h here)
          ∙ sym (ap (end_earlier amount) (run_stops k given s m left other))
      go (yes done) (yes short) rest =
          run_spends k given' (earlier amount s) m left (reply_back s m h here ∙ done) (rw (cost_back s m h here) short)
          ∙ sym (ap (end_earlier amount) (run_spends k given s m left done short))
      go (yes done) (no fits) rest =
          let there : (turn_at given s m).effect.cost ≤ left = omega (arith, fits) in
          run_steps k given' (earlier amount s) m left (reply_back s m h here ∙ done) (rw (cost_back s m h here) there)
          ∙ (λ i. after (cost_back s m h here i)
          (goes_on k given' (state_back s m h here i) (memory_back s m h here i) (left - cost_back s m h here i)))
          ∙ ap (after (turn_at given s m).effect.cost) (rest there)
          ∙ sym (ap (end_earlier amount) (run_steps k given s m left done there))

-- a clock set back and put forward again
there_again : (amount : ℕ) (e : End) → amount ≤ e.state.clock → end_later amount (end_earlier amount e) ≡ e
there_again amount e h = ap (λ c. end_is e.reply (with_clock e.state c) e.memory e.cycles) (omega (arith, h))

-- a run that stands for another is what goes on from there
stands_in :
    (s : State) (m : List ℕ) (given given' : Given) (amount budget : ℕ) →
    StandsFor amount s m given given' budget →
    stand_in amount s m given' budget ≡ goes_on (suc budget) given s m budget
stands_in s m given given' amount budget stands =
    let clock = (keeps (suc budget) s m given budget).clock in
    ap (end_later amount)
    (run_taken (earlier amount s) m given' budget stands.free
    ∙ goes_back given given' amount (suc budget) s m budget stands.back stands.lines)
    ∙ there_again amount (goes_on (suc budget) given s m budget) (omega (arith, clock, stands.back))

pub only_the_lines_in_force_count : OnlyTheLinesInForceCount
only_the_lines_in_force_count s m given given' amount budget stands free =
    stands_in s m given given' amount budget stands ∙ sym (run_taken s m given budget free)

pub a_stand_in_is_its_steps : AStandInIsItsSteps
a_stand_in_is_its_steps s m given given' amount budget w bytes stands =
    rw (stands_in s m given given' amount budget stands) (takes_steps (suc budget) s m given budget (omega arith) w bytes)

pub a_replay_is_its_steps : AReplayIsItsSteps
a_replay_is_its_steps s m given room e w bytes (one_part amount budget given' stands) =
    a_stand_in_is_its_steps s m given given' amount budget w bytes stands
a_replay_is_its_steps s m given room e w bytes (one_more_part {room = room'} {e = e'} parts amount budget given' stands) =
    and_then s m given room' budget e' _ w bytes (a_replay_is_its_steps s m given room' e' w bytes parts)
    (λ words held. a_stand_in_is_its_steps e'.state e'.memory given given' amount budget words held stands)

-- an end of n steps with a turn that is done at its boundary: that turn was not paid
not_paid :
    (n : ℕ) (s : State) (m : List ℕ) (given : Given) (room : ℕ) (e : End) →
    IsOfSteps n s m given room e →
    number_of (turn_at given (after_steps n given s m).state (after_steps n given s m).memory).reply ≡ 0 →
    (e.reply ≡ 0) × (room < (after_steps (suc n) given s m).cycles)
not_paid n s m given room e is done =
    let reply = is.reply ∙ (λ i. number_of (turn_at given (is.state i) (is.memory i)).reply) ∙ done in
    let spent = is.spent reply in
    let cost : (turn_at given e.state e.memory).effect.cost
    ≡ (turn_at given (after_steps n given s m).state (after_steps n given s m).memory).effect.cost =
    λ i. (turn_at given (is.state i) (is.memory i)).effect.cost in
    (reply, omega (arith, spent, cost, is.used, (one_on n s m given).cycles_are))

-- two ends of as many steps are the same
same_end :
    (n n' : ℕ) (s : State) (m : List ℕ) (given : Given) (room room' : ℕ) (e e' : End) →
    IsOfSteps n s m given room e →
    IsOfSteps n' s m given room' e' →
    n ≡ n' →
    e ≡ e'
same_end n n' s m given room room' e e' one two is =
    let state = one.state ∙ ap (λ (k : ℕ). (after_steps k given s m).state) is ∙ sym two.state in
    let memory = one.memory ∙ ap (λ (k : ℕ). (after_steps k given s m).memory) is ∙ sym two.memory in
    let cycles = one.used ∙ ap (λ (k : ℕ). (after_steps k given s m).cycles) is ∙ sym two.used in
    let reply = one.reply ∙ (λ i. number_of (turn_at given (state i) (memory i)).reply) ∙ sym two.reply in
    λ i. end_is (reply i) (state i) (memory i) (cycles i)

one_end :
    (n n' : ℕ) (s : State) (m : List ℕ) (given : Given) (room room' : ℕ) (e e' : End) →
    IsOfSteps n s m given room e →
    IsOfSteps n' s m given room' e' →
    room ≤ room' →
    (e.reply ≡ 0 → room ≡ room') →
    e ≡ e'
one_end n n' s m given room room' e e' one two most ended = go (dec_lt n n') (dec_lt n' n)
  where
    go : Dec (n < n') → Dec (n' < n) → e ≡ e'
    go (yes less) any =
        let over = not_paid n s m given room e one (two.done n less) in
        let paid = two.paid (suc n) (omega (arith, less)) in
        let same = ended over.0 in
        absurd (omega (arith, over.1, paid, same))
    go (no notLess) (yes more) =
        let over = not_paid n' s m given room' e' two (one.done n' more) in
        let paid = one.paid (suc n') (omega (arith, more)) in
        absurd (omega (arith, over.1, paid, most))
    go (no notLess) (no notMore) = same_end n n' s m given room room' e e' one two (omega (arith, notLess, notMore))

pub a_replay_has_one_end : AReplayHasOneEnd
a_replay_has_one_end s m given room room' e e' w bytes parts others most ended =
    let one = a_replay_is_its_steps s m given room e w bytes parts in
    let two = a_replay_is_its_steps s m given room' e' w bytes others in
    one_end one.0 two.0 s m given room room' e e' one.1 two.1 most ended

pub no_part_stands_still : NoPartStandsStill
no_part_stands_still s m given given' amount budget w bytes stands enough reply =
    let e = stand_in amount s m given' budget in
    let is = a_stand_in_is_its_steps s m given given' amount budget w bytes stands in
    let held : AreBytes e.memory = rw is.1.memory (words_after is.0 s m given w bytes).1 in
    let done = number_zero _ (sym is.1.reply ∙ reply) in
    let cost = (every_step_costs e.state e.memory (line_in given e.state.clock) held done).1 in
    let spent = is.1.spent reply in
    omega (arith, enough, spent, cost)

-- the clock and the schedule set back together
pub the_clock_may_be_set_back : TheClockMayBeSetBack
the_clock_may_be_set_back s m given amount budget back free =
    let a = (run_accepted s m given budget).0 free in
    let good = good_back given amount a.schedule in
    let free' =
    (run_accepted (earlier amount s) m (set_back amount given) budget).1
    (record { memory = a.memory; schedule = good; no_bad_line = good_lines_back given amount a.no_bad_line; spends = a.spends; clock = omega (arith, a.clock) }) in
    let lines = lines_back given amount a.schedule s.clock (s.clock + budget) back in (
      free',
      run_taken (earlier amount s) m (set_back amount given) budget free'
          ∙ goes_back given (set_back amount given) amount (suc budget) s m budget back lines
          ∙ sym (ap (end_earlier amount) (run_taken s m given budget free)),
    )

pub what_is_handed_will_do : WhatIsHandedWillDo
what_is_handed_will_do s m given amount budget up same lines few whole small near back =
    let to = s.clock + budget in
    let free =
    (run_accepted (earlier amount s) m (handed amount to given) budget).1
    (record { memory = whole; schedule = good_handed given amount to up same few; no_bad_line = good_lines_handed given amount to lines; spends = small; clock = near }) in
    record { back = back; lines = lines_handed given amount to up same s.clock back; free = free }
