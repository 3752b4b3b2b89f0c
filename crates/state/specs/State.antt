-- The programming model (source document 002, section 2.1, p. 2-1): A, B, X, Y, SP, PC and the condition codes; and what
-- docs/MACHINE.md adds, the waiting flag and the clock. The waiting flag stands in a record of its own, which later parts of a machine join.
use Rattle.std.specs.Prelude.{ℕ, Bool, false}
use Rattle.word.specs.Word.{high_of, low_of, word_of}
use Rattle.state.specs.declared.Flags.{Flags}
use Rattle.state.specs.declared.Standing.{Standing}
use Rattle.state.specs.declared.State.{State}
use Rattle.state.specs.Ccr.{no_flags}

-- How a machine stands beside its registers and its clock: whether it waits.
abbrev pub no_standing : Standing
no_standing = record { waiting = false }

abbrev pub set_waiting : Standing → Bool → Standing
set_waiting p v = record { waiting = v }

abbrev pub no_state : State
no_state = record { a = 0; b = 0; x = 0; y = 0; sp = 0; pc = 0; flags = no_flags; standing = no_standing; clock = 0 }

abbrev pub with_a : State → ℕ → State
with_a s v = record { a = v; b = s.b; x = s.x; y = s.y; sp = s.sp; pc = s.pc; flags = s.flags; standing = s.standing; clock = s.clock }

abbrev pub with_b : State → ℕ → State
with_b s v = record { a = s.a; b = v; x = s.x; y = s.y; sp = s.sp; pc = s.pc; flags = s.flags; standing = s.standing; clock = s.clock }

abbrev pub with_x : State → ℕ → State
with_x s v = record { a = s.a; b = s.b; x = v; y = s.y; sp = s.sp; pc = s.pc; flags = s.flags; standing = s.standing; clock = s.clock }

abbrev pub with_y : State → ℕ → State
with_y s v = record { a = s.a; b = s.b; x = s.x; y = v; sp = s.sp; pc = s.pc; flags = s.flags; standing = s.standing; clock = s.clock }

abbrev pub with_sp : State → ℕ → State
with_sp s v = record { a = s.a; b = s.b; x = s.x; y = s.y; sp = v; pc = s.pc; flags = s.flags; standing = s.standing; clock = s.clock }

abbrev pub with_pc : State → ℕ → State
with_pc s v = record { a = s.a; b = s.b; x = s.x; y = s.y; sp = s.sp; pc = v; flags = s.flags; standing = s.standing; clock = s.clock }

abbrev pub with_flags : State → Flags → State
with_flags s v = record { a = s.a; b = s.b; x = s.x; y = s.y; sp = s.sp; pc = s.pc; flags = v; standing = s.standing; clock = s.clock }

abbrev pub with_standing : State → Standing → State
with_standing s v = record { a = s.a; b = s.b; x = s.x; y = s.y; sp = s.sp; pc = s.pc; flags = s.flags; standing = v; clock = s.clock }

abbrev pub with_clock : State → ℕ → State
with_clock s v = record { a = s.a; b = s.b; x = s.x; y = s.y; sp = s.sp; pc = s.pc; flags = s.flags; standing = s.standing; clock = v }

-- each part of how a machine stands, set in its state
abbrev pub with_waiting : State → Bool → State
with_waiting s v = with_standing s (set_waiting s.standing v)

-- D: A is its high byte, B its low one (section 2.1.1, p. 2-1)
abbrev pub d_of : State → ℕ
d_of s = word_of s.a s.b

abbrev pub with_d : State → ℕ → State
with_d s d = with_b (with_a s (high_of d)) (low_of d)
