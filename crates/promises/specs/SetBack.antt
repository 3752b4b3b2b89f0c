-- The clock may be set back. It ends at 4,000,000,000, and a schedule has at most 64 records (docs/MACHINE.md, "The limits"): a replay
-- that goes on longer is runs whose clocks begin anew. Each theorem is proved under the same name in proofs/SetBack.antt.
use Rattle.std.specs.Prelude.{ℕ, ◌+◌, ◌-◌, ◌≤◌, ◌≡◌, true, List, ◌∷◌, map, length, take, drop}
use Rattle.memory.specs.Memory.{AreBytes}
use Rattle.state.specs.declared.State.{State}
use Rattle.state.specs.State.{with_clock}
use Rattle.schedule.specs.Schedule.{rising, passed}
use Rattle.refusals.specs.Given.{Given, given_is, line_in}
use Rattle.refusals.specs.Refusals.{run_refusal}
use Rattle.steps.specs.End.{End, end_is, after}
use Rattle.run.specs.Run.{run_of}
use Rattle.walk.specs.Words.{Words}
use Rattle.promises.specs.Steps.{IsOfSteps}
use Rattle.promises.specs.Replies.{BadLineIn}

-- a machine with its clock less by an amount, and with its clock more by it; all else is as it was
abbrev pub earlier : ℕ → State → State
earlier amount s = with_clock s (s.clock - amount)

abbrev pub later : ℕ → State → State
later amount s = with_clock s (s.clock + amount)

-- an end with the clock of its state less by an amount, and more by it; the reply, the memory and the cycles used are the same
abbrev pub end_earlier : ℕ → End → End
end_earlier amount e = end_is e.reply (earlier amount e.state) e.memory e.cycles

abbrev pub end_later : ℕ → End → End
end_later amount e = end_is e.reply (later amount e.state) e.memory e.cycles

-- how many records are left out of a schedule that is set back by an amount: those at or before it, but for the last of them
abbrev pub gone : ℕ → Given → ℕ
gone amount given = passed given.cycles amount - 1

-- A schedule set back by an amount: every cycle number is less by it, and none is below 0. Of the records at or before the amount only
-- the last is kept, which then stands at 0.
abbrev pub set_back : ℕ → Given → Given
set_back amount given =
    given_is (map (λ c. c - amount) (drop (gone amount given) given.cycles)) (drop (gone amount given) given.lines)

-- A run with the clock and every cycle number less by one amount leaves the same, but for the clock, which is less by that amount.
abbrev pub TheClockMayBeSetBack : Type 0
TheClockMayBeSetBack =
    (s : State) (m : List ℕ) (given : Given) (amount budget : ℕ) →
    amount ≤ s.clock →
    run_refusal s m given budget ≡ 0 →
    (run_refusal (earlier amount s) m (set_back amount given) budget ≡ 0)
    × (run_of (earlier amount s) m (set_back amount given) budget ≡ end_earlier amount (run_of s m given budget))

-- Two schedules have the same line byte in force from one clock value through another: the second at a clock that is less by an amount.
abbrev pub SameLines : ℕ → Given → Given → ℕ → ℕ → Type 0
SameLines amount given given' from to = (t : ℕ) → from ≤ t → t ≤ to → line_in given' (t - amount) ≡ line_in given t

-- A run with the clock set back and another schedule may stand for the run from s under `given`: it is not refused, and the line bytes in
-- force are the same, from the clock of s through the last clock value that the budget may lead to. That other run may be refused: the
-- clock of s may be any number, and `given` of any length.
pub record StandsFor (amount : ℕ) (s : State) (m : List ℕ) (given given' : Given) (budget : ℕ) : Type 0 where
  pub back : amount ≤ s.clock
  pub lines : SameLines amount given given' s.clock (s.clock + budget)
  pub free : run_refusal (earlier amount s) m given' budget ≡ 0

-- what such a run leaves, with its clock put forward again
abbrev pub stand_in : ℕ → State → List ℕ → Given → ℕ → End
stand_in amount s m given' budget = end_later amount (run_of (earlier amount s) m given' budget)

-- Of the clock and the schedule only the line bytes count that are in force where the run may come: a run that stands for another
-- leaves what that leaves.
abbrev pub OnlyTheLinesInForceCount : Type 0
OnlyTheLinesInForceCount =
    (s : State) (m : List ℕ) (given given' : Given) (amount budget : ℕ) →
    StandsFor amount s m given given' budget →
    run_refusal s m given budget ≡ 0 →
    stand_in amount s m given' budget ≡ run_of s m given budget

-- And where that other run would be refused, since its clock or its schedule is past a limit, it leaves what the steps of s leave, taken
-- one after another under `given`.
abbrev pub AStandInIsItsSteps : Type 0
AStandInIsItsSteps =
    (s : State) (m : List ℕ) (given given' : Given) (amount budget : ℕ) →
    Words s →
    AreBytes m →
    StandsFor amount s m given given' budget →
    (n : ℕ) × IsOfSteps n s m given budget (stand_in amount s m given' budget)

-- of the records those at or before a clock value
abbrev pub up_to : ℕ → Given → Given
up_to to given =
    let some = passed given.cycles to in
    given_is (take some given.cycles) (take some given.lines)

-- The schedule set back once more, as it is most easily made: the line byte in force at the amount is restated at 0, and the records after
-- the amount follow, each less by it.
abbrev pub restated : ℕ → Given → Given
restated amount given =
    let past = passed given.cycles amount in
    given_is (0 ∷ map (λ c. c - amount) (drop past given.cycles)) (line_in given amount ∷ drop past given.lines)

-- What may be handed to a run: so much of this as it may come to.
abbrev pub handed : ℕ → ℕ → Given → Given
handed amount to given = restated amount (up_to to given)

-- It will do, where it is at most 64 records and the run keeps to its other limits: whatever the clock of s is, and however long the
-- schedule, of which only this is asked, that its cycle numbers rise, that it has a line byte for each, and that none of these is refused.
abbrev pub WhatIsHandedWillDo : Type 0
WhatIsHandedWillDo =
    (s : State) (m : List ℕ) (given : Given) (amount budget : ℕ) →
    rising given.cycles ≡ true →
    length given.cycles ≡ length given.lines →
    (BadLineIn given → ⊥) →
    length (handed amount (s.clock + budget) given).cycles ≤ 64 →
    length m ≡ 65536 →
    budget ≤ 100000000 →
    s.clock - amount + budget ≤ 4000000000 →
    amount ≤ s.clock →
    StandsFor amount s m given (handed amount (s.clock + budget) given) budget

-- A replay from a state and a memory under a schedule: runs one after another, as in `OneAfterAnother`, but each of them stands for the
-- one that would go on from where the one before it ended. So the clock and the schedule have no limit. e is what they end with, all
-- together, and `room` what they may spend, all together: the cycles that the earlier ones used, and the last one's budget.
pub data Replay (s : State) (m : List ℕ) (given : Given) : ℕ → End → Type 0 where
  one_part :
      (amount budget : ℕ) (given' : Given) →
      StandsFor amount s m given given' budget →
      Replay s m given budget (stand_in amount s m given' budget)
  one_more_part :
      {room : ℕ} {e : End} →
      Replay s m given room e →
      (amount budget : ℕ) (given' : Given) →
      StandsFor amount e.state e.memory given given' budget →
      Replay s m given (e.cycles + budget) (after e.cycles (stand_in amount e.state e.memory given' budget))

-- A replay ends as so many steps do, one after another, up to what it may spend.
abbrev pub AReplayIsItsSteps : Type 0
AReplayIsItsSteps =
    (s : State) (m : List ℕ) (given : Given) (room : ℕ) (e : End) →
    Words s →
    AreBytes m →
    Replay s m given room e →
    (n : ℕ) × IsOfSteps n s m given room e

-- And in one way, however it is split: two replays that may spend the same have the same end, and one that has ended with 4 or 5 has the
-- end of every other that may spend more.
abbrev pub AReplayHasOneEnd : Type 0
AReplayHasOneEnd =
    (s : State) (m : List ℕ) (given : Given) (room room' : ℕ) (e e' : End) →
    Words s →
    AreBytes m →
    Replay s m given room e →
    Replay s m given room' e' →
    room ≤ room' →
    (e.reply ≡ 0 → room ≡ room') →
    e ≡ e'

-- And it comes to its end: a run of a replay that may spend 13 cycles or more, and ends with 0, has taken a step.
abbrev pub NoPartStandsStill : Type 0
NoPartStandsStill =
    (s : State) (m : List ℕ) (given given' : Given) (amount budget : ℕ) →
    Words s →
    AreBytes m →
    StandsFor amount s m given given' budget →
    13 ≤ budget →
    (stand_in amount s m given' budget).reply ≡ 0 →
    1 ≤ (stand_in amount s m given' budget).cycles
