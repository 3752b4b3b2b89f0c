-- The rules of the whole table, one record for each cell, and the law that says that every cell meets them.
use Rattle.std.specs.Prelude.{ℕ, ◌<◌, ◌≤◌, ◌≡◌, Bool, true, false, ◌&&◌, ◌||◌, List, [], ◌∷◌, map, leb, eqb, length, replicate}
use Rattle.word.specs.Word.{pick}
use Rattle.opcodes.specs.declared.Cell.{Cell}
use Rattle.opcodes.specs.declared.mode.Mode.{Mode}
use Rattle.opcodes.specs.Kind.{RTI, TRAP, PAGE2, STOP, group_of, kind_number, same, STOPS, SHORT_BRANCHES, LONG_BRANCHES, IN_A, IN_B, REGISTERS, PRODUCTS, STACK, CONTROL, MOVES}
use Rattle.opcodes.specs.Mode.{mode_number, EX, IM_EX, EX_EX, ID, IM_ID, EX_ID, ID_ID, ID_EX}
use Rattle.opcodes.specs.Grid.{family_number, grid_at, NONE}
use Rattle.opcodes.specs.Map.{Lines, page_one, page_two, cell_of}
use Rattle.opcodes.specs.Postbyte.{IDX, form_of, indexed_of, reserved_of, length_of, cost_of, untaken_of}

-- the kinds that stop the machine are the first of the numbering, up to STOP: BGND (002, p. 6-31), MEM (6-141), RTC (6-176), wavr (9-23),
-- CALL (6-52), REV (6-166), REVW (6-168), WAV (6-214), STOP (6-189)
abbrev pub stops_of : Cell → Bool
stops_of c = leb (kind_number c.kind) (kind_number STOP)

-- whether a number is in a list
abbrev pub among : ℕ → List ℕ → Bool
among k [] = false
among k (n ∷ ns) = eqb k n || among k ns

-- The ten encodings of docs/MACHINE.md, "The machine": 00 BGND, 01 MEM, 0A RTC, 3C wavr, 4A and 4B CALL, and on page 2 3A REV, 3B REVW,
-- 3C WAV, 3E STOP.
abbrev pub stop_cell : ℕ → Bool
stop_cell k =
    among k (0x00 ∷ 0x01 ∷ 0x0A ∷ 0x3C ∷ 0x4A ∷ 0x4B ∷ 0x13A ∷ 0x13B ∷ 0x13C ∷ 0x13E ∷ [])

-- The trap range: page 2 codes 30 to 39 and 40 to FF.
abbrev pub trap_cell : ℕ → Bool
trap_cell k = leb 0x130 k && (leb k 0x139 || leb 0x140 k)

-- the prebyte: cell 18 of page 1
abbrev pub prebyte_cell : ℕ → Bool
prebyte_cell k = eqb k 0x18

-- what may run: neither a stop encoding nor the prebyte
abbrev pub runs : ℕ → Bool
runs k = pick (stop_cell k) false (pick (prebyte_cell k) false true)

-- the grid's column for a cell: IMM, DIR and EXT by their number, IDX for any indexed mode; none for other modes
abbrev pub regular : Cell → Bool
regular c = pick (eqb (family_number c.family) (family_number NONE)) false (leb (mode_number c.mode) (mode_number EX) || indexed_of c)

abbrev pub column : Cell → ℕ
column c = pick (indexed_of c) 3 (mode_number c.mode)

-- What the table promises of cell number k.
pub record Ruled (k : ℕ) : Type 0 where
  -- a cell is a trap exactly in the trap range
  pub traps : same (cell_of k).kind TRAP ≡ trap_cell k
  -- a cell stops the machine exactly at the ten encodings
  pub stops : stops_of (cell_of k) ≡ stop_cell k
  -- exactly the cell 18 of page 1 is the prebyte
  pub prebyte : same (cell_of k).kind PAGE2 ≡ prebyte_cell k
  -- a length is 1 to 6
  pub length_low : 1 ≤ (cell_of k).length
  pub length_high : (cell_of k).length ≤ 6
  -- no cost is above 13
  pub bound : (cell_of k).cost ≤ 13
  -- a regular cell's cost is its entry in the grid
  pub priced : regular (cell_of k) ≡ true → (cell_of k).cost ≡ grid_at (family_number (cell_of k).family) (column (cell_of k))

-- The laws, each proved under the same name in proofs/Cells.antt.

-- how many entries the lines of a row have
abbrev pub widths : Lines → List ℕ
widths r = length r.names ∷ length r.modes ∷ length r.lengths ∷ length r.costs ∷ []

abbrev pub Sixteens : List Lines → Type 0
Sixteens page = map widths page ≡ replicate 16 (replicate 4 16)

-- The map is whole: each page has sixteen rows, and each of a row's four lines sixteen entries, so that none is read past its end and
-- none is left over.
abbrev pub SixteenBySixteen : Type 0
SixteenBySixteen = Sixteens page_one × Sixteens page_two

-- Some costs by their opcodes, on page 1 RTI 0B, EDIV 11, MUL 12, EMUL 13, WAI 3E, SWI 3F, and on page 2 IDIV 10, EMACS 12, EMULS 13, the
-- trap 30: so they cannot be changed in the map and in the code's table together (003, the HCS12 column; docs/MACHINE.md, "Requests").
abbrev pub CostsByOpcode : Type 0
CostsByOpcode =
    map (λ k. (cell_of k).cost) (0x0B ∷ 0x11 ∷ 0x12 ∷ 0x13 ∷ 0x3E ∷ 0x3F ∷ 0x110 ∷ 0x112 ∷ 0x113 ∷ 0x130 ∷ [])
    ≡ 8 ∷ 11 ∷ 1 ∷ 3 ∷ 7 ∷ 9 ∷ 12 ∷ 13 ∷ 3 ∷ 10 ∷ []

abbrev pub EveryCell : Type 0
EveryCell = (k : ℕ) → k < 512 → Ruled k

-- An instruction with a postbyte that is not reserved costs 1 to 13 cycles, taken or not, and is 1 to 6 bytes long.
pub record Bounded (k postbyte : ℕ) : Type 0 where
  pub cost_low : 1 ≤ cost_of (cell_of k) postbyte
  pub cost_high : cost_of (cell_of k) postbyte ≤ 13
  pub untaken_low : indexed_of (cell_of k) ≡ false → 1 ≤ untaken_of (cell_of k)
  pub untaken_high : untaken_of (cell_of k) ≤ 13
  pub length_low : 1 ≤ length_of (cell_of k) postbyte
  pub length_high : length_of (cell_of k) postbyte ≤ 6

abbrev pub EveryInstruction : Type 0
EveryInstruction =
    (k postbyte : ℕ) →
    k < 512 →
    postbyte < 256 →
    runs k ≡ true →
    reserved_of (cell_of k) postbyte ≡ false →
    Bounded k postbyte

-- the modes of a move, where from and where to, by the pages of MOVB (002, p. 6-144) and MOVW (6-145)
abbrev pub moves_mode : Mode → Bool
moves_mode mode = among (mode_number mode) (map mode_number (IM_EX ∷ EX_EX ∷ IM_ID ∷ EX_ID ∷ ID_ID ∷ ID_EX ∷ []))

-- a move has one of these
abbrev pub MovesHaveTwoPlaces : Type 0
MovesHaveTwoPlaces = (k : ℕ) → group_of (cell_of k).kind ≡ MOVES → moves_mode (cell_of k).mode ≡ true

-- and a postbyte in a mode past ID, which is a move's, has the form IDX or is reserved (docs/MACHINE.md, "Reserved postbytes")
abbrev pub MovesArePlain : Type 0
MovesArePlain = (k postbyte : ℕ) → mode_number ID < mode_number (cell_of k).mode → reserved_of (cell_of k) postbyte ≡ false → form_of postbyte ≡ IDX

-- Past ID there are moves alone, so that nothing else has two postbytes.
abbrev pub PastIdMoves : Type 0
PastIdMoves = (k : ℕ) → mode_number ID < mode_number (cell_of k).mode → group_of (cell_of k).kind ≡ MOVES

-- The groups without an operand at a place in memory. Of REGISTERS a transfer has a postbyte that may be reserved, and of CONTROL a loop
-- primitive; the others have none.
abbrev pub plain_group : ℕ → Bool
plain_group group =
    among group (REGISTERS ∷ CONTROL ∷ SHORT_BRANCHES ∷ LONG_BRANCHES ∷ IN_A ∷ IN_B ∷ PRODUCTS ∷ STACK ∷ [])

abbrev pub bare_group : ℕ → Bool
bare_group group = among group (SHORT_BRANCHES ∷ LONG_BRANCHES ∷ IN_A ∷ IN_B ∷ PRODUCTS ∷ STACK ∷ [])

-- no cell of these groups has an indexed postbyte
abbrev pub PlainUnindexed : Type 0
PlainUnindexed = (k : ℕ) → plain_group (group_of (cell_of k).kind) ≡ true → indexed_of (cell_of k) ≡ false

-- the first group has what stops and the prebyte, and nothing else
abbrev pub FirstGroupStops : Type 0
FirstGroupStops = (k : ℕ) → prebyte_cell k ≡ false → group_of (cell_of k).kind ≡ STOPS → stops_of (cell_of k) ≡ true

-- RTI is the opcode 0B of page 1, and no other cell is one
abbrev pub OneRti : Type 0
OneRti = (k : ℕ) → (cell_of k).kind ≡ RTI → k ≡ 0x0B

-- the groups of the instructions that have no operand at a place in memory, or two: each other group works on one
abbrev pub unplaced : ℕ → Bool
unplaced group = eqb group STOPS || (eqb group MOVES || plain_group group)
