-- What a step or a run leaves.
use Rattle.std.specs.Prelude.{ℕ, ◌+◌, ◌≡◌, List}
use Rattle.state.specs.declared.State.{State}
use Rattle.machine.specs.Names.{number_of}
use Rattle.steps.specs.declared.Answer.{Answer}

-- the reply's number, the state, the memory, and the cycles used
pub record End : Type 0 where
  pub reply : ℕ
  pub state : State
  pub memory : List ℕ
  pub cycles : ℕ

abbrev pub end_is : ℕ → State → List ℕ → ℕ → End
end_is reply s m cycles = record { reply = reply; state = s; memory = m; cycles = cycles }

-- the end of what goes no further: a reply, and all as it was
abbrev pub ends_here : ℕ → State → List ℕ → End
ends_here reply s m = end_is reply s m 0

-- an end that comes after so many cycles more
abbrev pub after : ℕ → End → End
after cycles e = end_is e.reply e.state e.memory (cycles + e.cycles)

-- What is promised of an answer r and of the memory m' at exit: they are this end.
pub record Ends (e : End) (r : Answer) (m' : List ℕ) : Type 0 where
  pub reply : number_of r.reply ≡ e.reply
  pub state : r.machine.state ≡ e.state
  pub cycles : r.cycles ≡ e.cycles
  pub memory : m' ≡ e.memory
