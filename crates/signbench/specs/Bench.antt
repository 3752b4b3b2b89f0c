-- The sign bench: what it does with an image, and the line that it prints (docs/MACHINE.md, "Sign bench examples").
use Rattle.std.specs.Prelude.{ℕ, ◌≡◌, List, [], ◌++◌, length}
use Rattle.state.specs.declared.State.{State}
use Rattle.state.specs.Ccr.{ccr_of}
use Rattle.machine.specs.Names.{memory_size}
use Rattle.machine.specs.Reset.{reset_of}
use Rattle.refusals.specs.Given.{given_is}
use Rattle.steps.specs.End.{End}
use Rattle.run.specs.Run.{run_of}
use Rattle.text.specs.Text.{ascii, numeral, hex_byte, hex_word}

-- the cycles that the bench gives a run
abbrev pub bench_budget : ℕ
bench_budget = 1000000

-- a reset, and a run with no requests
abbrev pub benched : List ℕ → End
benched m = run_of (reset_of m) m (given_is [] []) bench_budget

-- reply, cycles used, then PC, A, B, X, Y, SP and CCR
unfoldable pub line_of : ℕ → ℕ → State → List ℕ
line_of reply cycles s =
    ascii "stop=" ++ numeral 10 reply ++ ascii " cycles=" ++ numeral 10 cycles
    ++ ascii " pc=" ++ hex_word s.pc ++ ascii " a=" ++ hex_byte s.a ++ ascii " b=" ++ hex_byte s.b
    ++ ascii " x=" ++ hex_word s.x ++ ascii " y=" ++ hex_word s.y ++ ascii " sp=" ++ hex_word s.sp
    ++ ascii " ccr=" ++ hex_byte (ccr_of s.flags) ++ ascii "\n"

-- the line of what the bench has done
abbrev pub bench_line : End → List ℕ
bench_line e = line_of e.reply e.cycles e.state

-- An image that is not 65,536 bytes long gets reply 1, and what a reset leaves with PC 0. Proved under the same name in
-- proofs/Laws.antt.
abbrev pub WrongImage : Type 0
WrongImage =
    (m : List ℕ) → ¬ (length m ≡ memory_size) →
    bench_line (benched m) ≡ ascii "stop=1 cycles=0 pc=0000 a=00 b=00 x=0000 y=0000 sp=0000 ccr=D0\n"
