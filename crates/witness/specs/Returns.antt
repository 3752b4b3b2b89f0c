-- The example of docs/MACHINE.md, "RTI with a request waiting", and that what `BackToBack` supposes is met. Both are proved under the same
-- names in proofs/Returns.antt.
use Rattle.std.specs.Prelude.{ℕ, ◌≡◌, List, [], ◌∷◌, map}
use Rattle.state.specs.declared.State.{State}
use Rattle.state.specs.Ccr.{flags_of}
use Rattle.state.specs.State.{no_state, with_sp, with_pc, with_flags, with_clock}
use Rattle.refusals.specs.Given.{Given, given_is}
use Rattle.promises.specs.Steps.{after_steps}
use Rattle.promises.specs.BackToBack.{RtiTakes}
use Rattle.witness.specs.Image.{bytes_at, image}

-- An image: the handler of IRQ at 5000 is NOP and RTI. Numbers are hexadecimal, but for the clock and the cycles.
unfoldable pub handled : List ℕ
handled = image (bytes_at 0x5000 (0xA7 ∷ 0x0B ∷ []) ∷ bytes_at 0xFFF2 (0x50 ∷ 0x00 ∷ []) ∷ [])

-- the machine at 4000, with SP 2000 and the masks clear, when its clock is 100; and IRQ up from then on, to 124
abbrev pub at_work : State
at_work = with_clock (with_sp (with_pc no_state 0x4000) 0x2000) 100

abbrev pub irq_up : Given
irq_up = given_is (100 ∷ 125 ∷ []) (0x02 ∷ 0x00 ∷ [])

-- PC, SP and the clock after so many steps
abbrev pub where_after : ℕ → List ℕ
where_after n =
    let s = (after_steps n irq_up at_work handled).state in
    s.pc ∷ s.sp ∷ s.clock ∷ []

-- An entry of 9; NOP, and RTI of 10, which takes IRQ again; the same once more, although IRQ falls meanwhile; and NOP and RTI of 8, which
-- comes back.
abbrev pub OneHandlerAfterAnother : Type 0
OneHandlerAfterAnother =
    map where_after (1 ∷ 2 ∷ 3 ∷ 4 ∷ 5 ∷ 6 ∷ 7 ∷ [])
    ≡ (0x5000 ∷ 0x1FF7 ∷ 109 ∷ [])
    ∷ (0x5001 ∷ 0x1FF7 ∷ 110 ∷ [])
    ∷ (0x5000 ∷ 0x1FF7 ∷ 120 ∷ [])
    ∷ (0x5001 ∷ 0x1FF7 ∷ 121 ∷ [])
    ∷ (0x5000 ∷ 0x1FF7 ∷ 131 ∷ [])
    ∷ (0x5001 ∷ 0x1FF7 ∷ 132 ∷ [])
    ∷ (0x4000 ∷ 0x2000 ∷ 140 ∷ [])
    ∷ []

-- At that RTI, with I set and IRQ up, over a frame whose CCR is 00; and with X and I set and XIRQ up: a request is taken.
abbrev pub at_rti : ℕ → State
at_rti ccr = with_flags (with_sp (with_pc no_state 0x5001) 0x1FF7) (flags_of ccr)

abbrev pub RequestsAreTaken : Type 0
RequestsAreTaken = RtiTakes (at_rti 0x10) handled 0x02 × RtiTakes (at_rti 0x50) handled 0x01
