-- A wait at once: how many idle cycles the loop takes together. The definition of a run does not use it (`goes_on`): that the loop leaves
-- what idling one by one leaves is `IdlesAtOnce`.
use Rattle.std.specs.Prelude.{ℕ, ◌+◌, ◌-◌, ◌<◌, ◌≤◌, min, ◌≡◌, true, List, leb}
use Rattle.word.specs.Word.{pick}
use Rattle.state.specs.declared.State.{State}
use Rattle.state.specs.State.{with_clock}
use Rattle.machine.specs.Names.{no_line}
use Rattle.requests.specs.Requests.{allowed_line}
use Rattle.refusals.specs.Given.{Given, line_in}
use Rattle.steps.specs.End.{after}
use Rattle.steps.specs.Steps.{goes_on}

-- to the clock value `due`, at which the line byte changes, but no more than are left to spend and no more than there are boundaries;
-- none where the machine does not wait, or the line byte ends its wait
abbrev pub idle_cycles : State → ℕ → ℕ → ℕ → ℕ → ℕ
idle_cycles s line due left more =
    pick s.standing.waiting (pick (leb no_line (allowed_line s.flags line)) (min (due - s.clock) (min left more)) 0) 0

-- A machine that waits, and that no line byte of the next n cycles lets go on, comes in n steps to the same state with a clock that is n
-- later, and n cycles are spent. Proved under the same name in proofs/Idle.antt, by induction on n.
abbrev pub IdlesAtOnce : Type 0
IdlesAtOnce =
    (n : ℕ) (boundaries : ℕ) (given : Given) (s : State) (m : List ℕ) (left : ℕ) →
    n ≤ boundaries →
    n ≤ left →
    s.standing.waiting ≡ true →
    ((clock : ℕ) → s.clock ≤ clock → clock < s.clock + n → no_line ≤ allowed_line s.flags (line_in given clock)) →
    goes_on boundaries given s m left ≡ after n (goes_on (boundaries - n) given (with_clock s (s.clock + n)) m (left - n))
