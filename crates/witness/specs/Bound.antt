-- The bound of the warning is reached: 21 cannot be made smaller. Proved under the same names in proofs/Bound.antt.
use Rattle.std.specs.Prelude.{ℕ, ◌+◌, ◌≡◌, List, [], ◌∷◌}
use Rattle.state.specs.State.{no_state, with_pc, with_clock}
use Rattle.machine.specs.Reset.{reset_of}
use Rattle.memory.specs.Memory.{AreBytes}
use Rattle.refusals.specs.Given.{Given, given_is}
use Rattle.refusals.specs.Refusals.{run_refusal}
use Rattle.promises.specs.Steps.{after_steps}
use Rattle.promises.specs.Warning.{state_at, Rises}
use Rattle.witness.specs.Image.{bytes_at, image}

-- An image: ANDCC #BF, which clears X, and EMACS 2000 at 4000; the XIRQ vector is 5000, the reset vector 4000. Numbers are hexadecimal.
unfoldable pub slowest : List ℕ
slowest =
    image
    (bytes_at 0x4000 (0x10 ∷ 0xBF ∷ 0x18 ∷ 0x12 ∷ 0x20 ∷ 0x00 ∷ [])
    ∷ bytes_at 0xFFF4 (0x50 ∷ 0x00 ∷ [])
    ∷ bytes_at 0xFFFE (0x40 ∷ 0x00 ∷ [])
    ∷ [])

-- From reset with this image EMACS begins at cycle 1. Let XIRQ be up from cycle T = 2 on. Then all that the theorem of the warning
-- supposes holds, and the entry ends at T + 21, no cycle sooner.
pub record Reached (T n : ℕ) (m : List ℕ) (given : Given) (budget : ℕ) : Type 0 where
  pub bytes : AreBytes m
  pub free : run_refusal (reset_of m) m given budget ≡ 0
  pub rises : Rises T n m given
  pub budgeted : budget ≡ T + 21
  pub ends : (state_at (n + 1) m given).clock ≡ T + 21

abbrev pub TheBoundIsReached : Type 0
TheBoundIsReached = Reached 2 2 slowest (given_is (2 ∷ []) (1 ∷ [])) 23

-- Row 14 of docs/MACHINE.md: X clear, EMACS begun at 100, XIRQ at 101: the handler begins at 122.
abbrev pub RowFourteen : Type 0
RowFourteen =
    ((after_steps 2 (given_is (101 ∷ []) (1 ∷ [])) (with_clock (with_pc no_state 0x4002) 100) slowest).state.pc ≡ 0x5000)
    × ((after_steps 2 (given_is (101 ∷ []) (1 ∷ [])) (with_clock (with_pc no_state 0x4002) 100) slowest).state.clock ≡ 122)
