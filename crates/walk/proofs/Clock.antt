-- No turn moves the clock, and none reads it. On the definitions alone. Assumes nothing.
use Prim.Native.Nat.{ℕ}
use Rattle.std.proofs.Common.{Result, Ok, Err}
use mathlib.Core.Path.{◌≡◌, refl, ap}
use mathlib.Core.Bool.{Bool, true, false}
use mathlib.Core.List.{List}
use lib.Dec.{ltb}
use Rattle.word.specs.Word.{pick}
use Rattle.state.specs.declared.State.{State}
use Rattle.state.specs.State.{with_pc, with_clock}
use Rattle.decode.specs.declared.Decoded.{Decoded}
use Rattle.decode.specs.declared.Halt.{Halt}
use Rattle.decode.specs.declared.Halt.TheVariants.{Stopped, Reserved}
use Rattle.decode.specs.Decode.{fetched_of}
use Rattle.effect.specs.declared.Effect.{Effect}
use Rattle.frames.specs.Frames.{interrupt_effect, wait_effect}
use Rattle.machine.specs.declared.Reply.TheVariants.{Done}
use Rattle.machine.specs.Names.{no_line}
use Rattle.requests.specs.Requests.{allowed_line, entry_effect, wake_effect}
use Rattle.turn.specs.Turn.{Turn, turn_is, instructed, turn_of}
use Rattle.walk.specs.Walk.{Before, Gives}
use Rattle.walk.specs.Walk.Gives.{stores, untaken, waits, takes}
use Rattle.walk.specs.Turns.{Ways}
use Rattle.walk.specs.Turns.Ways.{wakes, enters, idles, stops, reserves, runs}
use Rattle.walk.specs.Clock.{NoTurnMovesTheClock, at_clock, NoInstructionReadsTheClock, NoTurnReadsTheClock}
use Rattle.walk.proofs.Settings.{untouched}
use Rattle.walk.proofs.Walk.{every_instruction}
use Rattle.walk.proofs.Turns.{every_turn_goes}

of_an_instruction : {b : Before} {e : Effect} → Gives b e → e.state.clock ≡ b.state.clock
unfolding wait_effect
of_an_instruction (stores w run) = (untouched w).clock
of_an_instruction (untaken w is) = (untouched w).clock
of_an_instruction (waits w run) = (untouched w).clock
of_an_instruction (takes w is) = (untouched w).clock

of_a_turn : {s : State} {m : List ℕ} {line : ℕ} {t : Turn} → Ways s m line t → t.effect.state.clock ≡ s.clock
unfolding wake_effect entry_effect interrupt_effect
of_a_turn (wakes up waiting) = refl
of_a_turn (enters up awake) = refl
of_a_turn (idles none waiting) = refl
of_a_turn (stops none awake) = refl
of_a_turn (reserves none awake) = refl
of_a_turn (runs none awake there gives) = of_an_instruction gives

pub no_turn_moves_the_clock : NoTurnMovesTheClock
no_turn_moves_the_clock s m line = of_a_turn (every_turn_goes s m line)

pub no_instruction_reads_the_clock : NoInstructionReadsTheClock
no_instruction_reads_the_clock s m line d c = (every_instruction s m line d c).same

-- a turn, and the same with another clock in its effect
record Alike (c : ℕ) (t r : Turn) : Type 0 where
  same : r ≡ turn_is t.reply (at_clock t.effect c)

either : {c : ℕ} (b : Bool) {t t' r r' : Turn} → Alike c t r → Alike c t' r' → Alike c (pick b t t') (pick b r r')
either true first other = first
either false first other = other

at_pc_lem : (s : State) (m : List ℕ) (line c : ℕ) (f : Result Decoded Halt) → Alike c (instructed s m line f) (instructed (with_clock s c) m line f)
unfolding instructed
at_pc_lem s m line c (Err Stopped) = record { same = refl }
at_pc_lem s m line c (Err Reserved) = record { same = refl }
at_pc_lem s m line c (Ok d) = record { same = ap (turn_is Done) (no_instruction_reads_the_clock (with_pc s d.next) m line d c) }

of_every_turn : (s : State) (m : List ℕ) (line c : ℕ) → Alike c (turn_of s m line) (turn_of (with_clock s c) m line)
unfolding turn_of wake_effect entry_effect interrupt_effect
of_every_turn s m line c =
    either (ltb (allowed_line s.flags line) no_line) (either s.standing.waiting (record { same = refl }) (record { same = refl }))
    (either s.standing.waiting (record { same = refl }) (at_pc_lem s m line c (fetched_of m s.pc)))

pub no_turn_reads_the_clock : NoTurnReadsTheClock
no_turn_reads_the_clock s m line c = (of_every_turn s m line c).same
