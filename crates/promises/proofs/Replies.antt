-- Each reply is given exactly when it is due: on the definitions alone. Assumes nothing.
use Prim.Native.Nat.{ℕ, zero, suc, ◌+◌, ◌-◌, ◌<◌, ◌≤◌}
use native.Mathlib.Omega.{arith}
use native.Mathlib.Decide.{ℕ_discrete}
use mathlib.Core.Logic.{◌↔◌}
use mathlib.Core.Path.{◌≡◌, refl, sym, ◌∙◌, ap}
use mathlib.Core.Bool.{Bool, true, false, ◌&&◌, not, true≢false}
use mathlib.Core.List.{List, [], ◌∷◌}
use lib.Dec.{leb, ltb, eqb}
use lib.ListN.{length, get_or}
use borrow.Author.Tests.{eqb-true, eqb-false, eq-eqb, ne_eqb, ltb-false, le-ltb, leb-false, lt-leb}
use Rattle.std.proofs.lemmas.Bool.{and_right}
use Rattle.word.proofs.Laws.{both}
use Rattle.memory.specs.Memory.{AreBytes}
use Rattle.state.specs.declared.State.{State}
use Rattle.schedule.specs.Schedule.{rising_after, rising, accepted, withdrawn, any_withdrawn}
use Rattle.machine.specs.Names.{number_of}
use Rattle.machine.proofs.Laws.{number_zero}
use Rattle.turn.specs.Turn.{turn_of}
use Rattle.refusals.specs.Given.{Given, line_in}
use Rattle.refusals.specs.Refusals.{refusal, past_limit, run_refusal}
use Rattle.refusals.proofs.Laws.{is_step_free, is_free, free_enough}
use Rattle.steps.specs.End.{End}
use Rattle.steps.specs.Steps.{turn_at, next_state, next_memory, goes_on}
use Rattle.run.specs.Step.{step_of}
use Rattle.run.specs.Run.{run_of}
use Rattle.run.proofs.Refusals.{step_refused, step_taken, run_refused, run_taken}
use Rattle.walk.specs.Words.{Words}
use Rattle.promises.specs.Replies.{StepAccepted, BadSchedule, RunAccepted, StopsAtEnd, IsReservedAtEnd, CostsMoreThanLeft}
use Rattle.promises.specs.Replies.BadSchedule.{long, falls, uneven}
use Rattle.promises.specs.Replies.{ResetGivesZero, ResetGivesOne, StepGivesOne, StepGivesFifteen, StepGivesThree, StepGivesFour, StepGivesFive, StepGivesZero}
use Rattle.promises.specs.Replies.{RunGivesOne, RunGivesTwo, RunGivesFifteen, RunGivesThree, RunGivesFour, RunGivesFive, RunGivesZero}
use Rattle.promises.proofs.Steps.{a_run_is_its_steps, words_after, within_the_budget}
use Rattle.promises.proofs.Always.{of_refusal}
use Rattle.promises.proofs.Costs.{a_step_costs_what_is_tabled}
use Rattle.promises.proofs.Exactly.{then, each, denied, affirmed, unless, either, above, here, later, picked}
use Rattle.promises.proofs.Due.{Other, other_than, four_due, five_due, none_other, none_due}
use Rattle.promises.proofs.BadLines.{bad_line, good_line_lem, bad_lines, good_lines_lem}

-- the test of the memory's length, each way
whole : (m : List ℕ) → (not (eqb (length m) 65536) ≡ false) ↔ (length m ≡ 65536)
whole m = affirmed (eqb (length m) 65536) (eqb-true (length m) 65536, eq-eqb (length m) 65536)

not_whole : (m : List ℕ) → (not (eqb (length m) 65536) ≡ true) ↔ (length m ≡ 65536 → ⊥)
not_whole m = denied (eqb (length m) 65536) (eqb-false (length m) 65536, ne_eqb (length m) 65536)

pub reset_gives_zero : ResetGivesZero
reset_gives_zero m = here (eqb (length m) 65536) (λ e. omega (arith, e)) (eqb-true (length m) 65536, eq-eqb (length m) 65536)

pub reset_gives_one : ResetGivesOne
reset_gives_one m =
    then (later (eqb (length m) 65536) (λ e. omega (arith, e)) (eqb-false (length m) 65536, ne_eqb (length m) 65536) (λ e. e, λ e. e))
    (λ p. p.0, λ n. (n, refl))

-- A reply is that of a refusal, r, or else that of what follows, n.
abbrev Replied : ℕ → ℕ → ℕ → Type 0
Replied reply r n = ((r ≡ 0 → ⊥) → reply ≡ r) × (r ≡ 0 → reply ≡ n)

-- a number of a refusal is a refusal's
is_refused : {reply r n k : ℕ} → Replied reply r n → (k ≡ 0 → ⊥) → (n ≡ k → ⊥) → (reply ≡ k) ↔ (r ≡ k)
is_refused {reply} {r} {n} {k} is some other = (λ e. go (ℕ_discrete r 0) e, λ e. is.0 (λ z. some (sym e ∙ z)) ∙ e)
  where
    go : Dec (r ≡ 0) → reply ≡ k → r ≡ k
    go (yes free) e = absurd (other (sym (is.1 free) ∙ e))
    go (no held) e = sym (is.0 held) ∙ e

-- and the others are given only where there is none
is_taken : {reply r n k : ℕ} → Replied reply r n → (r ≡ k → r ≡ 0) → (reply ≡ k) ↔ ((r ≡ 0) × (n ≡ k))
is_taken {reply} {r} {n} {k} is none = (λ e. go (ℕ_discrete r 0) e, λ p. is.1 p.0 ∙ p.1)
  where
    go : Dec (r ≡ 0) → reply ≡ k → (r ≡ 0) × (n ≡ k)
    go (yes free) e = (free, sym (is.1 free) ∙ e)
    go (no held) e = absurd (held (none (sym (is.0 held) ∙ e)))

-- the step
step_replied : (s : State) (m : List ℕ) (line : ℕ) → Replied (step_of s m line).reply (refusal s m line) (number_of (turn_of s m line).reply)
step_replied s m line = (λ held. ap (λ (e : End). e.reply) (step_refused s m line held), λ free. ap (λ (e : End). e.reply) (step_taken s m line free))

step_accepted : (s : State) (m : List ℕ) (line : ℕ) → (refusal s m line ≡ 0) ↔ StepAccepted s m line
step_accepted s m line = (
  λ e. let free = is_step_free s m line e in record { memory = free.whole; no_bad_line = (good_line_lem line).0 free.none_withdrawn; clock = free.near },
  λ a. rw (eq-eqb (length m) 65536 a.memory, (good_line_lem line).1 a.no_bad_line, le-ltb 3999999900 s.clock a.clock),
)

-- so a number that no turn has is the refusal's
step_is_refused : (s : State) (m : List ℕ) (line k : ℕ) → Other k → ((step_of s m line).reply ≡ k) ↔ (refusal s m line ≡ k)
step_is_refused s m line k other = is_refused (step_replied s m line) (λ e. other_than refl other (sym e)) (none_other s m line k other)

pub step_gives_one : StepGivesOne
step_gives_one s m line =
    then (step_is_refused s m line 1 refl)
    (here (not (eqb (length m) 65536))
    (picked (withdrawn line) (λ e. omega (arith, e)) (picked (ltb 3999999900 s.clock) (λ e. omega (arith, e)) (λ e. omega (arith, e))))
    (not_whole m))

pub step_gives_fifteen : StepGivesFifteen
step_gives_fifteen s m line =
    then (step_is_refused s m line 15 refl)
    (later (not (eqb (length m) 65536)) (λ e. omega (arith, e)) (whole m)
    (here (withdrawn line) (picked (ltb 3999999900 s.clock) (λ e. omega (arith, e)) (λ e. omega (arith, e))) (bad_line line)))

pub step_gives_three : StepGivesThree
step_gives_three s m line =
    then
    (then (step_is_refused s m line 3 refl)
    (later (not (eqb (length m) 65536)) (λ e. omega (arith, e)) (whole m)
    (later (withdrawn line) (λ e. omega (arith, e)) (good_line_lem line)
    (here (ltb 3999999900 s.clock) (λ e. omega (arith, e)) (above 3999999900 s.clock (λ h. omega (arith, h)) (λ h. omega (arith, h)))))))
    (λ p. (p.0, p.1.0, p.1.1), λ p. (p.0, (p.1, p.2)))

-- 4 and 5 are no refusal's
step_not_refused : (s : State) (m : List ℕ) (line k : ℕ) → 4 ≤ k → k ≤ 5 → refusal s m line ≡ k → ⊥
step_not_refused s m line k low high =
    picked (not (eqb (length m) 65536)) (λ e. omega (arith, e, low))
    (picked (withdrawn line) (λ e. omega (arith, e, high))
    (picked (ltb 3999999900 s.clock) (λ e. omega (arith, e, low)) (λ e. omega (arith, e, low))))

pub step_gives_four : StepGivesFour
step_gives_four s m line bytes =
    then (is_taken (step_replied s m line) (λ e. absurd (step_not_refused s m line 4 (omega arith) (omega arith) e)))
    (each (step_accepted s m line) (four_due s m line bytes))

pub step_gives_five : StepGivesFive
step_gives_five s m line bytes =
    then (is_taken (step_replied s m line) (λ e. absurd (step_not_refused s m line 5 (omega arith) (omega arith) e)))
    (each (step_accepted s m line) (five_due s m line bytes))

pub step_gives_zero : StepGivesZero
step_gives_zero s m line bytes =
    then (then (is_taken (step_replied s m line) (λ e. e)) (each (step_accepted s m line) (none_due s m line bytes)))
    (λ p. (p.0, p.1.0, p.1.1), λ p. (p.0, (p.1, p.2)))

-- two neighbours that do not rise
abbrev pub Falls : List ℕ → Type 0
Falls cs = (k : ℕ) × (suc k < length cs) × (get_or cs (suc k) 0 ≤ get_or cs k 0)

-- where the cycle numbers do not rise, there are such neighbours, and where there are, they do not
falling_after : (c : ℕ) (cs : List ℕ) → rising_after c cs ≡ false → Falls (c ∷ cs)
unfolding rising_after
falling_after c [] e = absurd (true≢false e)
falling_after c (d ∷ ds) e = go (ltb c d) refl e (falling_after d ds)
  where
    go : (b : Bool) → ltb c d ≡ b → b && rising_after d ds ≡ false → (rising_after d ds ≡ false → Falls (d ∷ ds)) → Falls (c ∷ d ∷ ds)
    go false is f rest = (0, omega arith, ltb-false c d is)
    go true is f rest = let at = rest f in (suc at.0, omega (arith, at.1), at.2)

pub falling : (cs : List ℕ) → rising cs ≡ false → Falls cs
unfolding rising
falling [] e = absurd (true≢false e)
falling (c ∷ cs) e = falling_after c cs e

fallen_after : (c : ℕ) (cs : List ℕ) (k : ℕ) → suc k < length (c ∷ cs) → get_or (c ∷ cs) (suc k) 0 ≤ get_or (c ∷ cs) k 0 → rising_after c cs ≡ false
unfolding rising_after
fallen_after c [] k inside down = absurd (omega (arith, inside))
fallen_after c (d ∷ ds) zero inside down = rw (le-ltb c d down)
fallen_after c (d ∷ ds) (suc k) inside down = and_right (ltb c d) _ (fallen_after d ds k (omega (arith, inside)) down)

pub fallen : (cs : List ℕ) (k : ℕ) → suc k < length cs → get_or cs (suc k) 0 ≤ get_or cs k 0 → rising cs ≡ false
unfolding rising
fallen [] k inside down = absurd (omega (arith, inside))
fallen (c ∷ cs) k inside down = fallen_after c cs k inside down

-- the test of the schedule, each way
bad_schedule : (given : Given) → (accepted 64 given.cycles given.lines ≡ false) ↔ BadSchedule given
bad_schedule given = (go (eqb lc ll) (leb lc 64) (rising given.cycles) refl refl refl, refuses)
  where
    lc : ℕ
    lc = length given.cycles

    ll : ℕ
    ll = length given.lines

    go :
        (a b c : Bool) → eqb lc ll ≡ a → leb lc 64 ≡ b → rising given.cycles ≡ c →
        (a && b) && c ≡ false → BadSchedule given
    go false b c e₁ e₂ e₃ e = uneven (eqb-false lc ll e₁)
    go true false c e₁ e₂ e₃ e = long (leb-false lc 64 e₂)
    go true true false e₁ e₂ e₃ e = let at = falling given.cycles e₃ in falls at.0 at.1 at.2
    go true true true e₁ e₂ e₃ e = absurd (true≢false e)

    refuses : BadSchedule given → (eqb lc ll && leb lc 64) && rising given.cycles ≡ false
    refuses (long h) = ap (λ b. b && rising given.cycles) (and_right (eqb lc ll) _ (lt-leb lc 64 h))
    refuses (falls k inside down) = and_right (eqb lc ll && leb lc 64) _ (fallen given.cycles k inside down)
    refuses (uneven other) = ap (λ b. (b && leb lc 64) && rising given.cycles) (ne_eqb lc ll other)

pub good_schedule : (given : Given) → (accepted 64 given.cycles given.lines ≡ true) ↔ (BadSchedule given → ⊥)
good_schedule given = unless (accepted 64 given.cycles given.lines) (bad_schedule given)

-- what follows a run that is not refused never gives a number but 0, 4 and 5
goes_never : (k : ℕ) (s : State) (m : List ℕ) (given : Given) (left n : ℕ) → Other n → (goes_on k given s m left).reply ≡ n → ⊥
unfolding goes_on
goes_never zero s m given left n other = other_than refl other
goes_never (suc k) s m given left n other =
    both Never (not (eqb (number_of (turn_at given s m).reply) 0)) _ _ (none_other s m (line_in given s.clock) n other)
    (both Never (ltb left (turn_at given s m).effect.cost) _ _ (other_than refl other)
    (goes_never k (next_state given s m) (next_memory given s m) given (left - (turn_at given s m).effect.cost) n other))
  where
    Never : End → Type 0
    Never e = e.reply ≡ n → ⊥

run_replied :
    (s : State) (m : List ℕ) (given : Given) (budget : ℕ) →
    Replied (run_of s m given budget).reply (run_refusal s m given budget) (goes_on (suc budget) given s m budget).reply
run_replied s m given budget = (
  λ held. ap (λ (e : End). e.reply) (run_refused s m given budget held),
  λ free. ap (λ (e : End). e.reply) (run_taken s m given budget free),
)

-- so every other is the refusal's
run_is_refused :
    (s : State) (m : List ℕ) (given : Given) (budget k : ℕ) →
    Other k →
    ((run_of s m given budget).reply ≡ k) ↔ (run_refusal s m given budget ≡ k)
run_is_refused s m given budget k other =
    is_refused (run_replied s m given budget) (λ e. other_than refl other (sym e)) (goes_never (suc budget) s m given budget k other)

pub run_gives_one : RunGivesOne
run_gives_one s m given budget =
    then (run_is_refused s m given budget 1 refl)
    (here (not (eqb (length m) 65536))
    (picked (not (accepted 64 given.cycles given.lines)) (λ e. omega (arith, e))
    (picked (any_withdrawn given.lines) (λ e. omega (arith, e))
    (picked (past_limit s.clock budget) (λ e. omega (arith, e)) (λ e. omega (arith, e)))))
    (not_whole m))

pub run_gives_two : RunGivesTwo
run_gives_two s m given budget =
    then (run_is_refused s m given budget 2 refl)
    (later (not (eqb (length m) 65536)) (λ e. omega (arith, e)) (whole m)
    (here (not (accepted 64 given.cycles given.lines))
    (picked (any_withdrawn given.lines) (λ e. omega (arith, e))
    (picked (past_limit s.clock budget) (λ e. omega (arith, e)) (λ e. omega (arith, e))))
    (denied (accepted 64 given.cycles given.lines) (bad_schedule given))))

pub run_gives_fifteen : RunGivesFifteen
run_gives_fifteen s m given budget =
    then
    (then (run_is_refused s m given budget 15 refl)
    (later (not (eqb (length m) 65536)) (λ e. omega (arith, e)) (whole m)
    (later (not (accepted 64 given.cycles given.lines)) (λ e. omega (arith, e))
    (affirmed (accepted 64 given.cycles given.lines) (good_schedule given))
    (here (any_withdrawn given.lines) (picked (past_limit s.clock budget) (λ e. omega (arith, e)) (λ e. omega (arith, e)))
    (bad_lines given)))))
    (λ p. (p.0, p.1.0, p.1.1), λ p. (p.0, (p.1, p.2)))

pub run_gives_three : RunGivesThree
run_gives_three s m given budget =
    then
    (then (run_is_refused s m given budget 3 refl)
    (later (not (eqb (length m) 65536)) (λ e. omega (arith, e)) (whole m)
    (later (not (accepted 64 given.cycles given.lines)) (λ e. omega (arith, e))
    (affirmed (accepted 64 given.cycles given.lines) (good_schedule given))
    (later (any_withdrawn given.lines) (λ e. omega (arith, e)) (good_lines_lem given)
    (here (past_limit s.clock budget) (λ e. omega (arith, e))
    (either (ltb 100000000 budget) (ltb 4000000000 (s.clock + budget))
    (above 100000000 budget (λ h. omega (arith, h)) (λ h. omega (arith, h)))
    (above 4000000000 (s.clock + budget) (λ h. omega (arith, h)) (λ h. omega (arith, h)))))))))
    (λ p. (p.0, p.1.0, p.1.1.0, p.1.1.1), λ p. (p.0, (p.1, (p.2, p.3))))

pub run_accepted : (s : State) (m : List ℕ) (given : Given) (budget : ℕ) → (run_refusal s m given budget ≡ 0) ↔ RunAccepted s m given budget
run_accepted s m given budget = (
  λ e. let free = is_free s m given budget e in
      record { memory = free.whole; schedule = (good_schedule given).0 free.good; no_bad_line = (good_lines_lem given).0 free.none_withdrawn; spends = free.small; clock = free.near },
  λ a. free_enough {s = s} {m = m} {given = given} {budget = budget} (record { whole = a.memory; good = (good_schedule given).1 a.schedule; none_withdrawn = (good_lines_lem given).1 a.no_bad_line; small = a.spends; near = a.clock }),
)

-- the boundary where a run ended
module _ (s : State) (m : List ℕ) (given : Given) (budget : ℕ) (w : Words s) (bytes : AreBytes m) where
  abbrev end : End
  end = run_of s m given budget

  abbrev line : ℕ
  line = line_in given end.state.clock

  -- it has bytes in its memory
  end_bytes : AreBytes end.memory
  end_bytes = go (ℕ_discrete (run_refusal s m given budget) 0)
    where
      go : Dec (run_refusal s m given budget ≡ 0) → AreBytes (run_of s m given budget).memory
      go (yes free) =
          let is = a_run_is_its_steps s m given budget w bytes free in
          rw is.1.memory (words_after is.0 s m given w bytes).1
      go (no held) = rw (run_refused s m given budget held) bytes

  -- and the run, where it is not refused, has the reply of the turn there
  run_ended : Replied end.reply (run_refusal s m given budget) (number_of (turn_of end.state end.memory line).reply)
  run_ended = ((run_replied s m given budget).0, λ free. (a_run_is_its_steps s m given budget w bytes free).1.reply)

  -- 4 and 5 are no refusal's
  not_refused : (k : ℕ) → 4 ≤ k → k ≤ 5 → run_refusal s m given budget ≡ k → run_refusal s m given budget ≡ 0
  not_refused k low high e =
      absurd
      (of_refusal (λ (n : ℕ). n ≡ k → ⊥) (λ e. omega (arith, e, low)) (λ e. omega (arith, e, low)) (λ e. omega (arith, e, low))
      (λ e. omega (arith, e, high)) (λ e. omega (arith, e, low)) s m given budget e)

  gives_four : (end.reply ≡ 4) ↔ (RunAccepted s m given budget × StopsAtEnd given end)
  gives_four =
      then (is_taken run_ended (not_refused 4 (omega arith) (omega arith)))
      (each (run_accepted s m given budget) (four_due end.state end.memory line end_bytes))

  gives_five : (end.reply ≡ 5) ↔ (RunAccepted s m given budget × IsReservedAtEnd given end)
  gives_five =
      then (is_taken run_ended (not_refused 5 (omega arith) (omega arith)))
      (each (run_accepted s m given budget) (five_due end.state end.memory line end_bytes))

  -- 0 is given where the next step is to be done
  gives_zero : (end.reply ≡ 0) ↔ ((run_refusal s m given budget ≡ 0) × (number_of (turn_of end.state end.memory line).reply ≡ 0))
  gives_zero = is_taken run_ended (λ e. e)

  -- and then there is too little left for it
  too_little : end.reply ≡ 0 → CostsMoreThanLeft given budget end
  too_little e =
      let on = gives_zero.0 e in
      let short = (a_run_is_its_steps s m given budget w bytes on.0).1.spent e in
      let cost = a_step_costs_what_is_tabled end.state end.memory line (number_zero _ on.1) in
      let used = within_the_budget s m given budget in
      omega (arith, short, cost, used)

pub run_gives_four : RunGivesFour
run_gives_four = gives_four

pub run_gives_five : RunGivesFive
run_gives_five = gives_five

pub run_gives_zero : RunGivesZero
run_gives_zero s m given budget w bytes =
    let e = run_of s m given budget in
    let due =
    then (gives_zero s m given budget w bytes)
    (each (run_accepted s m given budget)
    (none_due e.state e.memory (line_in given e.state.clock) (end_bytes s m given budget w bytes))) in
    (λ z. let p = due.0 z in (p.0, p.1.0, p.1.1, too_little s m given budget w bytes z), λ p. due.1 (p.0, (p.1, p.2)))
