-- The frame by its places. Assumes nothing.
use mathlib.Core.Path.{refl}
use mathlib.Core.List.{List}
use Prim.Native.Nat.{ℕ}
use Rattle.state.specs.declared.State.{State}
use Rattle.frames.specs.Frames.{pulled_frame, ByPlaces}

pub by_places : (s : State) (m : List ℕ) → ByPlaces s m
unfolding pulled_frame
by_places s m =
    record { b = refl; a = refl; x = (refl, refl); y = (refl, refl); pc = (refl, refl); b_again = refl; a_again = refl }
