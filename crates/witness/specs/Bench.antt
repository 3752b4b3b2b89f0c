-- The sign bench examples of docs/MACHINE.md, as a reset, a step and a run answer them over memories of 65,536 bytes: what the definitions
-- give, beside what that page says. Numbers are hexadecimal, as there. Both theorems are proved under the same names in
-- proofs/Bench.antt. Row 14 is `RowFourteen` in Bound.antt.
use Rattle.std.specs.Prelude.{ℕ, zero, suc, ◌≡◌, List, [], ◌∷◌, map, replicate}
use Rattle.memory.specs.Memory.{word_at}
use Rattle.state.specs.declared.State.{State}
use Rattle.state.specs.Ccr.{ccr_of, flags_of}
use Rattle.state.specs.State.{no_state, with_a, with_b, with_x, with_sp, with_pc, with_flags, d_of}
use Rattle.machine.specs.Reset.{reset_of, reset_reply}
use Rattle.refusals.specs.Given.{Given, given_is}
use Rattle.steps.specs.End.{End, ends_here}
use Rattle.run.specs.Step.{step_of}
use Rattle.run.specs.Run.{run_of}
use Rattle.witness.specs.Image.{bytes_at, image}

-- a machine with these condition codes at an address, and nothing else in it; where a row gives no address it is at 10
abbrev pub sign_at : ℕ → ℕ → State
sign_at pc ccr = with_pc (with_flags no_state (flags_of ccr)) pc

abbrev pub sign : ℕ → State
sign ccr = sign_at 0x10 ccr

-- these bytes at PC, and zeros
abbrev pub code : State → List ℕ → List ℕ
code s bytes = image (bytes_at s.pc bytes ∷ [])

-- a step over them with no request; a run over them with no request
abbrev pub step : State → List ℕ → End
step s bytes = step_of s (code s bytes) 0

abbrev pub run : State → List ℕ → ℕ → End
run s bytes budget = run_of s (code s bytes) (given_is [] []) budget

-- What a row asks of an answer, the reply always first. Of a reset: PC, CCR
abbrev pub after_reset : List ℕ → List ℕ
after_reset m = reset_reply m ∷ (reset_of m).pc ∷ ccr_of (reset_of m).flags ∷ []

-- Of a step or a run: A, CCR, the cycles
abbrev pub in_a : End → List ℕ
in_a e = e.reply ∷ e.state.a ∷ ccr_of e.state.flags ∷ e.cycles ∷ []

-- D, X, CCR
abbrev pub in_d : End → List ℕ
in_d e = e.reply ∷ d_of e.state ∷ e.state.x ∷ ccr_of e.state.flags ∷ []

abbrev pub in_x : End → List ℕ
in_x e = e.reply ∷ e.state.x ∷ []

abbrev pub in_y : End → List ℕ
in_y e = e.reply ∷ e.state.y ∷ []

abbrev pub in_codes : End → List ℕ
in_codes e = e.reply ∷ ccr_of e.state.flags ∷ []

-- PC, the cycles
abbrev pub gone : End → List ℕ
gone e = e.reply ∷ e.state.pc ∷ e.cycles ∷ []

-- SP, the word of the frame's last two bytes, which is the stacked PC, and the cycles
abbrev pub trapped : End → List ℕ
trapped e = e.reply ∷ e.state.sp ∷ word_at e.memory 0x1FFE ∷ e.cycles ∷ []

-- a row: the numbers found, and those that the page gives
pub record BenchRow : Type 0 where
  pub found : List ℕ
  pub wanted : List ℕ

abbrev pub row_is : List ℕ → List ℕ → BenchRow
row_is found wanted = record { found = found; wanted = wanted }

abbrev pub Hold : List BenchRow → Type 0
Hold rows = map (λ (r : BenchRow). r.found) rows ≡ map (λ (r : BenchRow). r.wanted) rows

-- a postbyte and the bytes after it in LEAY, with X 1000: the address goes to Y
abbrev pub address_row : (State → List ℕ → End) → List ℕ → ℕ → BenchRow
address_row step bytes address = row_is (in_y (step (with_x (sign 0x00) 0x1000) (0x19 ∷ bytes))) (0 ∷ address ∷ [])

-- The rows that are marked to be proved, 1 to 11, as one table of whatever does a step. Each gets reply 0: it was done, or in row 2 the
-- budget is spent.
unfoldable pub bench_table : (State → List ℕ → End) → List BenchRow
bench_table step =
    -- 1: reset, vector 40 00: PC, CCR
    row_is (after_reset (image (bytes_at 0xFFFE (0x40 ∷ 0x00 ∷ []) ∷ []))) (0 ∷ 0x4000 ∷ 0xD0 ∷ [])
    -- 2: CCR D0, 86 7F 8B 01, then a NOP, as a run with a budget of 2: A, CCR, the cycles
    ∷ row_is (in_a (run (sign 0xD0) (0x86 ∷ 0x7F ∷ 0x8B ∷ 0x01 ∷ 0xA7 ∷ []) 2)) (0 ∷ 0x80 ∷ 0xFA ∷ 2 ∷ [])
    -- 3: postbytes 0F, 10: X + 15, X - 16
    ∷ address_row step (0x0F ∷ []) 0x100F
    ∷ address_row step (0x10 ∷ []) 0x0FF0
    -- 4: postbytes 27, 28: X + 8, X - 8
    ∷ address_row step (0x27 ∷ []) 0x1008
    ∷ address_row step (0x28 ∷ []) 0x0FF8
    -- 5: E0 FF, E1 00: X + 255, X - 256
    ∷ address_row step (0xE0 ∷ 0xFF ∷ []) 0x10FF
    ∷ address_row step (0xE1 ∷ 0x00 ∷ []) 0x0F00
    -- 6: DEC A of 80 with N and Z set, C clear and C set: A, CCR, the cycle
    ∷ row_is (in_a (step (with_a (sign 0x0C) 0x80) (0x43 ∷ []))) (0 ∷ 0x7F ∷ 0x02 ∷ 1 ∷ [])
    ∷ row_is (in_a (step (with_a (sign 0x0D) 0x80) (0x43 ∷ []))) (0 ∷ 0x7F ∷ 0x03 ∷ 1 ∷ [])
    -- 7: ORCC #FF on CCR 00: CCR
    ∷ row_is (in_codes (step (sign 0x00) (0x14 ∷ 0xFF ∷ []))) (0 ∷ 0xBF ∷ [])
    -- 8: MUL of 10 by 08: D, X, CCR
    ∷ row_is (in_d (step (with_b (with_a (sign 0x00) 0x10) 0x08) (0x12 ∷ []))) (0 ∷ 0x0080 ∷ 0x0000 ∷ 0x01 ∷ [])
    -- 9: IDIV, X = 0, with D 1234: D, X, CCR
    ∷ row_is (in_d (step (with_b (with_a (sign 0x00) 0x12) 0x34) (0x18 ∷ 0x10 ∷ []))) (0 ∷ 0x1234 ∷ 0xFFFF ∷ 0x01 ∷ [])
    -- 10: 18 30 at 4000, SP 2000: SP, the stacked PC, the cycles
    ∷ row_is (trapped (step (with_sp (sign_at 0x4000 0x00) 0x2000) (0x18 ∷ 0x30 ∷ []))) (0 ∷ 0x1FF7 ∷ 0x4002 ∷ 10 ∷ [])
    -- 11: 24 FE at 4000, C clear and C set: PC, the cycles
    ∷ row_is (gone (step (sign_at 0x4000 0x00) (0x24 ∷ 0xFE ∷ []))) (0 ∷ 0x4000 ∷ 3 ∷ [])
    ∷ row_is (gone (step (sign_at 0x4000 0x01) (0x24 ∷ 0xFE ∷ []))) (0 ∷ 0x4002 ∷ 1 ∷ [])
    ∷ []

abbrev pub BenchRows : Type 0
BenchRows = Hold (bench_table step)

-- 86 7F and a NOP; and so many records, one for each cycle from 0 on, with no line up
abbrev pub load : List ℕ
load = 0x86 ∷ 0x7F ∷ 0xA7 ∷ []

abbrev pub counted_from : ℕ → ℕ → List ℕ
counted_from k zero = []
counted_from k (suc n) = k ∷ counted_from (suc k) n

abbrev pub records : ℕ → Given
records n = given_is (counted_from 0 n) (replicate n 0)

-- 16: 18 2F with the offset 0020. LBLE branches where Z is set, or N and V differ: PC, the cycles
unfoldable pub long_branches : (State → List ℕ → End) → List BenchRow
long_branches step =
    row_is (gone (step (sign 0x00) (0x18 ∷ 0x2F ∷ 0x00 ∷ 0x20 ∷ []))) (0 ∷ 0x0014 ∷ 3 ∷ [])
    ∷ row_is (gone (step (sign 0x0A) (0x18 ∷ 0x2F ∷ 0x00 ∷ 0x20 ∷ []))) (0 ∷ 0x0014 ∷ 3 ∷ [])
    ∷ row_is (gone (step (sign 0x04) (0x18 ∷ 0x2F ∷ 0x00 ∷ 0x20 ∷ []))) (0 ∷ 0x0034 ∷ 4 ∷ [])
    ∷ row_is (gone (step (sign 0x08) (0x18 ∷ 0x2F ∷ 0x00 ∷ 0x20 ∷ []))) (0 ∷ 0x0034 ∷ 4 ∷ [])
    ∷ row_is (gone (step (sign 0x02) (0x18 ∷ 0x2F ∷ 0x00 ∷ 0x20 ∷ []))) (0 ∷ 0x0034 ∷ 4 ∷ [])
    ∷ []

-- The rows that are not marked, but for 14. Where a row leaves all as it was lent, the whole end is given.
pub record MoreRows : Type 0 where
  -- 12: LDX 0,X with X = FFFF: high byte from FFFF, low from 0000
  pub wrapped :
      in_x
      (step_of (with_x (sign 0x00) 0xFFFF)
      (image (bytes_at 0x0000 (0x34 ∷ []) ∷ bytes_at 0x0010 (0xEE ∷ 0x00 ∷ []) ∷ bytes_at 0xFFFF (0x12 ∷ []) ∷ [])) 0)
      ≡ 0 ∷ 0x1234 ∷ []
  -- 13: 86 7F, budget 0, then 1
  pub unspent : run (sign 0x00) load 0 ≡ ends_here 0 (sign 0x00) (code (sign 0x00) load)
  pub spent : in_a (run (sign 0x00) load 1) ≡ 0 ∷ 0x7F ∷ 0x00 ∷ 1 ∷ []
  -- 15: 64 records; 65
  pub sixty_four : in_a (run_of (sign 0x00) (code (sign 0x00) load) (records 64) 1) ≡ 0 ∷ 0x7F ∷ 0x00 ∷ 1 ∷ []
  pub sixty_five :
      run_of (sign 0x00) (code (sign 0x00) load) (records 65) 1 ≡ ends_here 2 (sign 0x00) (code (sign 0x00) load)
  -- 16: 18 2F; 18 3A
  pub long_branch : Hold (long_branches step)
  pub stop :
      step (sign 0x00) (0x18 ∷ 0x3A ∷ []) ≡ ends_here 4 (sign 0x00) (code (sign 0x00) (0x18 ∷ 0x3A ∷ []))
