-- Postbytes: the address form of an indexed one, and which are reserved.
use Rattle.std.specs.Prelude.{ℕ, ◌+◌, ◌/◌, ◌%◌, ◌<◌, ◌≡◌, Bool, false, ◌||◌, not, [], ◌∷◌, get_or, leb, ltb, eqb}
use Rattle.word.specs.Word.{pick, bit_of}
use Rattle.opcodes.specs.declared.Cell.{Cell}
use Rattle.opcodes.specs.declared.form.Form.{Form}
use Rattle.opcodes.specs.declared.form.Form.TheVariants.{Idx, Idx1, Idx2, DIndirect, Idx2Indirect}
use Rattle.opcodes.specs.Kind.{TFR/EXG, LOOP, group_of, same, SHORT_BRANCHES, LONG_BRANCHES}
use Rattle.opcodes.specs.Mode.{mode_number, ID}
use Rattle.opcodes.specs.Grid.{family_number, grid_at}

-- The five address forms of an indexed postbyte, in the order of the grid's columns from IDX on.
abbrev pub IDX : ℕ
IDX = 0

abbrev pub IDX1 : ℕ
IDX1 = 1

abbrev pub IDX2 : ℕ
IDX2 = 2

abbrev pub [D:IDX] : ℕ
[D:IDX] = 3

abbrev pub [IDX2] : ℕ
[IDX2] = 4

-- the number of a form that the code names
abbrev pub form_number : Form → ℕ
form_number Idx = IDX
form_number Idx1 = IDX1
form_number Idx2 = IDX2
form_number DIndirect = [D:IDX]
form_number Idx2Indirect = [IDX2]

-- The form that a postbyte names, by the rules of docs/MACHINE.md, "Addresses" (source document 000, table 4; 002, table A-5):
-- rr0nnnnn is a 5-bit offset, rr1pnnnn with rr not 3 a step before or after, both IDX; 111rr0zs with z = 0 is a 9-bit offset,
-- with zs = 10 a 16-bit one, with zs = 11 indirect through a 16-bit one; 111rr1aa is an accumulator offset, with aa = 11 indirect.
unfoldable pub form_of : ℕ → ℕ
form_of postbyte =
    pick (not (bit_of 5 postbyte)) IDX
    (pick (not (eqb (postbyte / 64) 3)) IDX
    (pick (not (bit_of 2 postbyte))
    (pick (not (bit_of 1 postbyte)) IDX1 (pick (not (bit_of 0 postbyte)) IDX2 [IDX2]))
    (pick (eqb (postbyte % 4) 3) [D:IDX] IDX)))

-- the bytes that follow the postbyte: the low byte of a 9-bit offset, or the two of a 16-bit one
unfoldable pub extension_of : ℕ → ℕ
extension_of form = pick (eqb form IDX1) 1 (pick (eqb form IDX2) 2 (pick (eqb form [IDX2]) 2 0))

-- whether a cell has an indexed postbyte
abbrev pub indexed_of : Cell → Bool
indexed_of c = leb (mode_number ID) (mode_number c.mode)

-- What is reserved (docs/MACHINE.md, "Reserved postbytes"). In a TFR or EXG postbyte: register code 3 in bits 6 to 4 or 2 to 0.
abbrev pub transfer_reserved : ℕ → Bool
transfer_reserved postbyte = eqb (postbyte / 16 % 8) 3 || eqb (postbyte % 8) 3

-- In a loop postbyte: kind 6 or 7 in bits 7 to 5, or register code 2 or 3 in bits 2 to 0.
abbrev pub loop_reserved : ℕ → Bool
loop_reserved postbyte = leb 6 (postbyte / 32) || (eqb (postbyte % 8) 2 || eqb (postbyte % 8) 3)

-- In an indexed postbyte: a form that is not among those of the instruction, which the grid prices at 0.
abbrev pub form_reserved : Cell → ℕ → Bool
form_reserved c postbyte = eqb (grid_at (family_number c.family) (3 + form_of postbyte)) 0

-- whether a postbyte of a cell is reserved
unfoldable pub reserved_of : Cell → ℕ → Bool
reserved_of c postbyte =
    pick (same c.kind TFR/EXG) (transfer_reserved postbyte)
    (pick (same c.kind LOOP) (loop_reserved postbyte)
    (pick (indexed_of c) (form_reserved c postbyte) false))

-- the length of the whole instruction in an address form, and with its postbyte
abbrev pub length_in : Cell → ℕ → ℕ
length_in c form = c.length + pick (indexed_of c) (extension_of form) 0

unfoldable pub length_of : Cell → ℕ → ℕ
length_of c postbyte = length_in c (form_of postbyte)

-- the cost of the whole instruction in an address form, and with its postbyte; of a branch, when it is taken
abbrev pub cost_in : Cell → ℕ → ℕ
cost_in c form = pick (indexed_of c) (grid_at (family_number c.family) (3 + form)) c.cost

unfoldable pub cost_of : Cell → ℕ → ℕ
cost_of c postbyte = cost_in c (form_of postbyte)

-- The cost of a branch that is not taken (003, "Special Cases": PPP/P and OPPP/OPO): 1 for a short one, 3 for a long one. Any other
-- instruction costs the same either way.
unfoldable pub untaken_of : Cell → ℕ
untaken_of c =
    pick (eqb (group_of c.kind) SHORT_BRANCHES) 1 (pick (eqb (group_of c.kind) LONG_BRANCHES) 3 c.cost)

-- The laws, each proved under the same name in proofs/Postbytes.antt.

-- every postbyte names one of the five forms
abbrev pub OneOfFive : Type 0
OneOfFive = (postbyte : ℕ) → form_of postbyte < 5

-- The columns of table A-3 (002, p. A-22; 003): below E0 every postbyte is IDX; columns E and F repeat eight rows.
abbrev pub AsTabled : Type 0
AsTabled =
    (postbyte : ℕ) →
    postbyte < 256 →
    form_of postbyte
    ≡ pick (ltb postbyte 0xE0) IDX
    (get_or (IDX1 ∷ IDX1 ∷ IDX2 ∷ [IDX2] ∷ IDX ∷ IDX ∷ IDX ∷ [D:IDX] ∷ []) (postbyte % 8) IDX)
