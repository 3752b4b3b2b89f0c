-- The registers hold what they have room for.
use Rattle.std.specs.Prelude.{◌<◌}
use Rattle.state.specs.declared.State.{State}

-- A and B hold bytes, and X, Y, SP and PC words
pub record Words (s : State) : Type 0 where
  pub a : s.a < 256
  pub b : s.b < 256
  pub x : s.x < 65536
  pub y : s.y < 65536
  pub sp : s.sp < 65536
  pub pc : s.pc < 65536
