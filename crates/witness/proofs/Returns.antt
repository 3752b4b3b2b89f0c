-- The example of RTI with a request waiting, by computation. Assumes nothing.
use Prim.Native.Nat.{ℕ, suc, ◌<◌}
use native.Mathlib.Omega.{arith}
use mathlib.Core.Path.{◌≡◌, refl, ◌∙◌, ap}
use mathlib.Core.Bool.{false}
use mathlib.Core.List.{List, [], ◌∷◌}
use lib.ListN.{get_or}
use Rattle.memory.specs.Memory.{lowest_bytes, store_all}
use Rattle.schedule.specs.Schedule.{in_force}
use Rattle.opcodes.specs.Map.{cell_of}
use Rattle.opcodes.specs.Postbyte.{reserved_of, length_of, cost_of}
use Rattle.decode.specs.Decode.{fetched_of}
use Rattle.execute16.specs.Registers.{second_registers, registered, registers_effect}
use Rattle.frames.specs.Frames.{interrupt_effect, pulled_frame}
use Rattle.requests.specs.Requests.{allowed_line, entry_effect, rti_effect}
use Rattle.turn.specs.Turn.{controlled, executed, instructed, turn_of}
use Rattle.witness.specs.Returns.{handled, at_work, irq_up, where_after, OneHandlerAfterAnother, RequestsAreTaken}
use Rattle.witness.proofs.Trace.{Seen, nothing, trace, seen_in}

-- the seven steps
abbrev steps : List Seen
steps =
    record { reply = 0; pc = 0x5000; sp = 0x1FF7; clock = 109; x = false }
    ∷ record { reply = 0; pc = 0x5001; sp = 0x1FF7; clock = 110; x = false }
    ∷ record { reply = 0; pc = 0x5000; sp = 0x1FF7; clock = 120; x = false }
    ∷ record { reply = 0; pc = 0x5001; sp = 0x1FF7; clock = 121; x = false }
    ∷ record { reply = 0; pc = 0x5000; sp = 0x1FF7; clock = 131; x = false }
    ∷ record { reply = 0; pc = 0x5001; sp = 0x1FF7; clock = 132; x = false }
    ∷ record { reply = 0; pc = 0x4000; sp = 0x2000; clock = 140; x = false }
    ∷ []

computed : trace irq_up 7 at_work handled ≡ steps
unfolding trace handled lowest_bytes store_all in_force turn_of allowed_line entry_effect instructed fetched_of cell_of reserved_of length_of cost_of
    executed controlled rti_effect pulled_frame second_registers registered registers_effect interrupt_effect
computed = refl

-- what is seen of a step, as the example has it
abbrev shown : Seen → List ℕ
shown v = v.pc ∷ v.sp ∷ v.clock ∷ []

step : (n : ℕ) → n < 7 → where_after (suc n) ≡ shown (get_or steps n nothing)
step n h = ap shown (seen_in irq_up n 7 at_work handled h ∙ ap (λ (l : List Seen). get_or l n nothing) computed)

pub one_handler_after_another : OneHandlerAfterAnother
one_handler_after_another =
    rw (
      step 0 (omega arith),
      step 1 (omega arith),
      step 2 (omega arith),
      step 3 (omega arith),
      step 4 (omega arith),
      step 5 (omega arith),
      step 6 (omega arith),
    )

pub requests_are_taken : RequestsAreTaken
unfolding handled allowed_line pulled_frame
requests_are_taken =
    (record { at = (refl, refl); before = omega arith; after = omega arith }, record { at = (refl, refl); before = omega arith; after = omega arith })
