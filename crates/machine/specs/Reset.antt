-- Reset (docs/MACHINE.md, "Numbered replies", "Steps and cycles"): its reply and the state that it leaves, for every memory.
use Rattle.std.specs.Prelude.{ℕ, true, List, eqb, length}
use Rattle.word.specs.Word.{pick}
use Rattle.memory.specs.Memory.{word_at}
use Rattle.state.specs.declared.State.{State}
use Rattle.state.specs.Ccr.{no_flags, set_s, set_x, set_i}
use Rattle.state.specs.State.{no_state, with_pc, with_flags}
use Rattle.machine.specs.Names.{memory_size, reset_vector}

-- S, X and I set, everything else clear, and PC as given
abbrev pub reset_state : ℕ → State
reset_state pc = with_pc (with_flags no_state (set_s (set_x (set_i no_flags true) true) true)) pc

-- a reset: reply 0 and the word at the reset vector, or reply 1 and PC 0
abbrev pub reset_reply : List ℕ → ℕ
reset_reply m = pick (eqb (length m) memory_size) 0 1

abbrev pub reset_of : List ℕ → State
reset_of m = reset_state (pick (eqb (length m) memory_size) (word_at m reset_vector) 0)
