-- The bound is reached, by computation. Assumes nothing.
use Prim.Native.Nat.{ℕ, zero, suc, ◌<◌}
use native.Mathlib.Omega.{arith}
use mathlib.Core.Path.{◌≡◌, refl, ◌∙◌, ap, subst}
use mathlib.Core.Bool.{Bool, true, false}
use mathlib.Core.List.{List, [], ◌∷◌, map}
use lib.Dec.{T, ltb, ltb→lt}
use lib.ListN.{get_or, get_or-map}
use borrow.Author.Tests.{le-leb}
use Rattle.word.proofs.Table.{holds}
use Rattle.memory.specs.Memory.{lowest_bytes, store_all, AreBytes}
use Rattle.schedule.specs.Schedule.{rising_after, rising, any_withdrawn, in_force}
use Rattle.opcodes.specs.Map.{cell_of}
use Rattle.opcodes.specs.Postbyte.{reserved_of, length_of, cost_of}
use Rattle.decode.specs.Decode.{fetched_of}
use Rattle.execute16.specs.Registers.{second_registers, registered, registers_effect}
use Rattle.products.specs.Products.{accumulate_effect, product_effect}
use Rattle.frames.specs.Frames.{interrupt_effect}
use Rattle.state.specs.State.{no_state, with_pc, with_clock}
use Rattle.machine.specs.Reset.{reset_of}
use Rattle.refusals.specs.Given.{Given, given_is}
use Rattle.refusals.specs.Refusals.{run_refusal}
use Rattle.requests.specs.Requests.{allowed_line, entry_effect}
use Rattle.turn.specs.Turn.{executed, instructed, turn_of}
use Rattle.promises.specs.Steps.{after_steps}
use Rattle.promises.specs.Warning.{state_at, StaysUp, FirstFrom, NoStopBefore}
use Rattle.witness.specs.Bound.{slowest, TheBoundIsReached, RowFourteen}
use Rattle.witness.proofs.Trace.{Seen, nothing, trace, seen, seen_in}

-- every number of the image is below 256: one test over all of it
are_bytes : AreBytes slowest
unfolding slowest
are_bytes a =
    let byte : ℕ → Bool = λ n. ltb n 256 in
    ltb→lt _ _ (subst T (get_or-map byte slowest a 0) (holds (map byte slowest) tt a))

-- XIRQ up from cycle 2 on, and from cycle 101 on
abbrev up_at_two : Given
up_at_two = given_is (2 ∷ []) (1 ∷ [])

abbrev up_at101 : Given
up_at101 = given_is (101 ∷ []) (1 ∷ [])

-- from reset, and in row 14
abbrev from_reset : List Seen
from_reset =
    record { reply = 0; pc = 0x4002; sp = 0; clock = 1; x = false }
    ∷ record { reply = 0; pc = 0x4006; sp = 0; clock = 14; x = false }
    ∷ record { reply = 0; pc = 0x5000; sp = 0xFFF7; clock = 23; x = true }
    ∷ []

abbrev in_row_fourteen : List Seen
in_row_fourteen =
    record { reply = 0; pc = 0x4006; sp = 0; clock = 113; x = false }
    ∷ record { reply = 0; pc = 0x5000; sp = 0xFFF7; clock = 122; x = true }
    ∷ []

computed :
    (trace up_at_two 3 (reset_of slowest) slowest ≡ from_reset)
    × (trace up_at101 2 (with_clock (with_pc no_state 0x4002) 100) slowest ≡ in_row_fourteen)
unfolding trace slowest lowest_bytes store_all in_force turn_of allowed_line entry_effect instructed fetched_of cell_of reserved_of
    length_of cost_of executed second_registers registered registers_effect accumulate_effect product_effect interrupt_effect
computed = (refl, refl)

pub row_fourteen : RowFourteen
row_fourteen =
    let entry = seen_in up_at101 1 2 _ _ (omega arith) ∙ ap (λ (l : List Seen). get_or l 1 nothing) computed.1 in
    (ap (λ (v : Seen). v.pc) entry, ap (λ (v : Seen). v.clock) entry)

-- the three steps from reset
step : (n : ℕ) → n < 3 → seen up_at_two n (reset_of slowest) slowest ≡ get_or from_reset n nothing
step n h = seen_in up_at_two n 3 _ _ h ∙ ap (λ (l : List Seen). get_or l n nothing) computed.0

clock_after : (n : ℕ) → n < 3 → (state_at (suc n) slowest up_at_two).clock ≡ (get_or from_reset n nothing).clock
clock_after n h = ap (λ (v : Seen). v.clock) (step n h)

not_refused : run_refusal (reset_of slowest) slowest up_at_two 23 ≡ 0
unfolding slowest rising rising_after any_withdrawn
not_refused = refl

stays_up : StaysUp 2 up_at_two
unfolding in_force
stays_up t from to = rw (le-leb 2 t from)

first_from : FirstFrom 2 2 slowest up_at_two
unfolding after_steps
first_from = (omega (arith, clock_after 1 (omega arith)), before)
  where
    before : (k : ℕ) → k < 2 → (state_at k slowest up_at_two).clock < 2
    before zero h = omega arith
    before (suc zero) h = omega (arith, clock_after 0 (omega arith))
    before (suc (suc k)) h = absurd (omega (arith, h))

no_stop : NoStopBefore 2 slowest up_at_two
no_stop zero h = ap (λ (v : Seen). v.reply) (step 0 (omega arith))
no_stop (suc zero) h = ap (λ (v : Seen). v.reply) (step 1 (omega arith))
no_stop (suc (suc k)) h = absurd (omega (arith, h))

pub the_bound_is_reached : TheBoundIsReached
the_bound_is_reached =
    record {
      bytes = are_bytes;
      free = not_refused;
      rises =
          record {
            up = stays_up;
            first = first_from;
            clear = ap (λ (v : Seen). v.x) (step 1 (omega arith));
            on = no_stop;
          };
      budgeted = refl;
      ends = clock_after 2 (omega arith);
    }
