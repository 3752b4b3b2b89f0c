-- The grid of costs: a row for each family of instructions, a column for each address form. An entry is the number of letters of the
-- access detail in source document 003, HCS12 column, which stands above its row; 0 where the family has no such form. A letter that the
-- scan took for another (`p` or `F` for `f`, a capital for a small letter or the other way) is written as it was meant. Where a detail
-- comes from elsewhere than that column, or where the column prints an instruction of the family otherwise, a second comment says so;
-- docs/READINGS.md, "Costs", says why.
use Rattle.std.specs.Prelude.{ℕ, List, [], ◌∷◌, get_or, eqb}
use Rattle.word.specs.Word.{pick}
use Rattle.opcodes.specs.declared.kind.Kind.{Kind}
use Rattle.opcodes.specs.declared.mode.Mode.{Mode}
use Rattle.opcodes.specs.declared.family.Family.{Family}
use Rattle.opcodes.specs.declared.family.Family.TheVariants.{Own, Byte, Word, Store, Clear, Modify, Test, Jump, Subroutine, Address, BitChange, BitBranch, Choose, ChooseM, Lookup, LookupW, MoveIm, MoveM}
use Rattle.opcodes.specs.Kind.{kind_number}
use Rattle.opcodes.specs.Mode.{mode_number, IM_ID}

-- the number of a family, its row of the grid
abbrev pub family_number : Family → ℕ
family_number Own = 0
family_number Byte = 1
family_number Word = 2
family_number Store = 3
family_number Clear = 4
family_number Modify = 5
family_number Test = 6
family_number Jump = 7
family_number Subroutine = 8
family_number Address = 9
family_number BitChange = 10
family_number BitBranch = 11
family_number Choose = 12
family_number ChooseM = 13
family_number Lookup = 14
family_number LookupW = 15
family_number MoveIm = 16
family_number MoveM = 17

abbrev pub NONE : Family
NONE = Own

abbrev pub BYTE : Family
BYTE = Byte

abbrev pub WORD : Family
WORD = Word

abbrev pub STORE : Family
STORE = Store

abbrev pub CLEAR : Family
CLEAR = Clear

abbrev pub MODIFY : Family
MODIFY = Modify

abbrev pub TEST : Family
TEST = Test

abbrev pub JUMP : Family
JUMP = Jump

abbrev pub SUBROUTINE : Family
SUBROUTINE = Subroutine

abbrev pub ADDRESS : Family
ADDRESS = Address

abbrev pub BIT_CHANGE : Family
BIT_CHANGE = BitChange

abbrev pub BIT_BRANCH : Family
BIT_BRANCH = BitBranch

abbrev pub CHOOSE : Family
CHOOSE = Choose

abbrev pub CHOOSE_M : Family
CHOOSE_M = ChooseM

abbrev pub LOOKUP : Family
LOOKUP = Lookup

abbrev pub LOOKUP_W : Family
LOOKUP_W = LookupW

abbrev pub MOVE_IM : Family
MOVE_IM = MoveIm

abbrev pub MOVE_M : Family
MOVE_M = MoveM

-- The columns: IMM, DIR, EXT, IDX, IDX1, IDX2, [D,IDX], [IDX2].
unfoldable pub grid : List (List ℕ)
grid =
    -- no family: the cost is the cell's own
    (0 ∷ 0 ∷ 0 ∷ 0 ∷ 0 ∷ 0 ∷ 0 ∷ 0 ∷ []) ∷
    -- an operand of a byte: LDAA P rPf rPO rPf rPO frPP fIfrPf fIPrPf
    -- from 000: LDAA, whose sheet is missing in 003; SBCA and SBCB, which have six entries there, EORA and EORB, which have seven. SUBA
    -- and the other sisters print the same letters in 003.
    (1 ∷ 3 ∷ 3 ∷ 3 ∷ 3 ∷ 4 ∷ 6 ∷ 6 ∷ []) ∷
    -- an operand of a word: LDD PO RPf RPO RPf RPO fRPP fIfRPf fIPRPf
    (2 ∷ 3 ∷ 3 ∷ 3 ∷ 3 ∷ 4 ∷ 6 ∷ 6 ∷ []) ∷
    -- a store: STAA - Pw PwO Pw PwO PwP PIfw PIPw
    (0 ∷ 2 ∷ 3 ∷ 2 ∷ 3 ∷ 3 ∷ 4 ∷ 4 ∷ []) ∷
    -- CLR - - PwO Pw PwO PwP PIfw PIPw
    (0 ∷ 0 ∷ 3 ∷ 2 ∷ 3 ∷ 3 ∷ 4 ∷ 4 ∷ []) ∷
    -- read, change and write back: ASR - - rPwO rPw rPwO frPwP fIfrPw fIPrPw
    -- from 000: INC and NEG, which have an entry too many in 003 and `fIrPwP` for the 16-bit offset, and the 16-bit offset of DEC, ROL
    -- and ROR, which 003 prints `fPrPwP`, `fIfrPwP` and `fIfrPwP`.
    (0 ∷ 0 ∷ 4 ∷ 3 ∷ 4 ∷ 5 ∷ 6 ∷ 6 ∷ []) ∷
    -- TST - - rPO rPf rPO frPP fIfrPf fIPrPf
    (0 ∷ 0 ∷ 3 ∷ 3 ∷ 3 ∷ 4 ∷ 6 ∷ 6 ∷ []) ∷
    -- JMP - - PPP PPP PPP fPPP fIfPPP fIfPPP
    -- from 000, whose figures are those of the map: the sheet is missing in 003.
    (0 ∷ 0 ∷ 3 ∷ 3 ∷ 3 ∷ 4 ∷ 6 ∷ 6 ∷ []) ∷
    -- JSR - SPPP SPPP PPPS PPPS fPPPS fIfPPPS fIfPPPS
    -- from 000, as JMP.
    (0 ∷ 4 ∷ 4 ∷ 4 ∷ 4 ∷ 5 ∷ 7 ∷ 7 ∷ []) ∷
    -- LEAX - - - Pf PO PP - -
    (0 ∷ 0 ∷ 0 ∷ 2 ∷ 2 ∷ 2 ∷ 0 ∷ 0 ∷ []) ∷
    -- BSET, BCLR - rPwO rPwP rPwO rPwP frPwPO - -
    (0 ∷ 4 ∷ 4 ∷ 4 ∷ 4 ∷ 6 ∷ 0 ∷ 0 ∷ []) ∷
    -- BRSET, BRCLR - rPPP rfPPP rPPP rfPPP PrfPPP - -
    (0 ∷ 4 ∷ 5 ∷ 4 ∷ 5 ∷ 6 ∷ 0 ∷ 0 ∷ []) ∷
    -- the larger or smaller into a register: EMAXD - - - ORPf ORPO OfRPP OfIfRPf OfIPRPf
    -- from 000: EMAXD and EMIND through a pointer, which have six letters in 003. MAXA and MINA with a 16-bit offset, which have six in
    -- 003 and in 000: the five of 002 (pp. 6-139, 6-142), as EMAXD.
    (0 ∷ 0 ∷ 0 ∷ 4 ∷ 4 ∷ 5 ∷ 7 ∷ 7 ∷ []) ∷
    -- the larger or smaller into memory: EMAXM - - - ORPW ORPWO OfRPWP OfIfRPW OfIPRPW
    -- from 000: EMAXM and EMINM through D, which have six letters in 003. MAXM and MINM with a 16-bit offset, which have seven in 003 and
    -- in 000: the six of 002 (pp. 6-140, 6-143), as EMAXM.
    (0 ∷ 0 ∷ 0 ∷ 4 ∷ 5 ∷ 6 ∷ 7 ∷ 7 ∷ []) ∷
    -- TBL - - - ORfffP - - - -
    (0 ∷ 0 ∷ 0 ∷ 6 ∷ 0 ∷ 0 ∷ 0 ∷ 0 ∷ []) ∷
    -- ETBL - - - ORRffffffP - - - -
    -- from the map and 002 (p. 6-89): 003 and 000 have nine letters.
    (0 ∷ 0 ∷ 0 ∷ 10 ∷ 0 ∷ 0 ∷ 0 ∷ 0 ∷ []) ∷
    -- a move of immediate data: MOVB - - - OPwO - - - -
    -- from 000 and 002 (p. 6-144), MOVW from p. 6-145: the HCS12 column of 003 has NA in every row of a move.
    (0 ∷ 0 ∷ 0 ∷ 4 ∷ 0 ∷ 0 ∷ 0 ∷ 0 ∷ []) ∷
    -- a move from memory with an indexed side: MOVB - - - OrPwO - - - -
    -- from 000 and 002, as above; MOVW IDX-EXT, which has four letters in 000: the five of 002 and the map.
    (0 ∷ 0 ∷ 0 ∷ 5 ∷ 0 ∷ 0 ∷ 0 ∷ 0 ∷ []) ∷
    []

-- the cost of a family's instruction in an address form
unfoldable pub grid_at : ℕ → ℕ → ℕ
unfolding grid
grid_at family form = get_or (get_or grid family []) form 0

-- The family of each kind, a line for each group of sixteen.
unfoldable pub families : List Family
families =
    NONE ∷ NONE ∷ NONE ∷ NONE ∷ NONE ∷ NONE ∷ NONE ∷ NONE ∷ NONE ∷ NONE ∷ NONE ∷ NONE ∷ NONE ∷ NONE ∷ NONE ∷ NONE ∷
    NONE ∷ NONE ∷ NONE ∷ NONE ∷ NONE ∷ NONE ∷ NONE ∷ NONE ∷ NONE ∷ NONE ∷ NONE ∷ NONE ∷ NONE ∷ NONE ∷ NONE ∷ NONE ∷
    NONE ∷ NONE ∷ NONE ∷ NONE ∷ NONE ∷ NONE ∷ NONE ∷ NONE ∷ NONE ∷ NONE ∷ NONE ∷ NONE ∷ NONE ∷ NONE ∷ NONE ∷ NONE ∷
    BYTE ∷ BYTE ∷ BYTE ∷ NONE ∷ BYTE ∷ BYTE ∷ BYTE ∷ NONE ∷ BYTE ∷ BYTE ∷ BYTE ∷ BYTE ∷ NONE ∷ NONE ∷ NONE ∷ NONE ∷
    BYTE ∷ BYTE ∷ BYTE ∷ NONE ∷ BYTE ∷ BYTE ∷ BYTE ∷ NONE ∷ BYTE ∷ BYTE ∷ BYTE ∷ BYTE ∷ NONE ∷ NONE ∷ NONE ∷ NONE ∷
    WORD ∷ WORD ∷ WORD ∷ WORD ∷ WORD ∷ WORD ∷ WORD ∷ WORD ∷ WORD ∷ WORD ∷ NONE ∷ NONE ∷ NONE ∷ NONE ∷ NONE ∷ NONE ∷
    NONE ∷ NONE ∷ NONE ∷ NONE ∷ NONE ∷ NONE ∷ NONE ∷ NONE ∷ NONE ∷ NONE ∷ STORE ∷ STORE ∷ STORE ∷ STORE ∷ STORE ∷ STORE ∷
    MODIFY ∷ MODIFY ∷ MODIFY ∷ MODIFY ∷ MODIFY ∷ MODIFY ∷ MODIFY ∷ MODIFY ∷ MODIFY ∷ CLEAR ∷ TEST ∷ NONE ∷ NONE ∷ NONE ∷ NONE ∷ NONE ∷
    NONE ∷ NONE ∷ NONE ∷ NONE ∷ NONE ∷ NONE ∷ NONE ∷ NONE ∷ NONE ∷ NONE ∷ NONE ∷ NONE ∷ NONE ∷ NONE ∷ NONE ∷ NONE ∷
    NONE ∷ NONE ∷ NONE ∷ NONE ∷ NONE ∷ NONE ∷ NONE ∷ NONE ∷ NONE ∷ NONE ∷ NONE ∷ NONE ∷ NONE ∷ NONE ∷ NONE ∷ NONE ∷
    NONE ∷ NONE ∷ NONE ∷ NONE ∷ NONE ∷ NONE ∷ NONE ∷ NONE ∷ NONE ∷ NONE ∷ NONE ∷ NONE ∷ NONE ∷ NONE ∷ NONE ∷ NONE ∷
    NONE ∷ NONE ∷ NONE ∷ NONE ∷ NONE ∷ NONE ∷ NONE ∷ NONE ∷ NONE ∷ NONE ∷ NONE ∷ NONE ∷ NONE ∷ NONE ∷ NONE ∷ NONE ∷
    NONE ∷ NONE ∷ NONE ∷ NONE ∷ NONE ∷ NONE ∷ NONE ∷ NONE ∷ NONE ∷ NONE ∷ NONE ∷ NONE ∷ NONE ∷ NONE ∷ NONE ∷ NONE ∷
    NONE ∷ NONE ∷ NONE ∷ NONE ∷ NONE ∷ NONE ∷ NONE ∷ NONE ∷ NONE ∷ NONE ∷ NONE ∷ NONE ∷ NONE ∷ NONE ∷ NONE ∷ NONE ∷
    ADDRESS ∷ ADDRESS ∷ ADDRESS ∷ JUMP ∷ SUBROUTINE ∷ NONE ∷ NONE ∷ NONE ∷ NONE ∷ NONE ∷ NONE ∷ NONE ∷ NONE ∷ NONE ∷ NONE ∷ NONE ∷
    CHOOSE ∷ CHOOSE ∷ CHOOSE ∷ CHOOSE ∷ CHOOSE_M ∷ CHOOSE_M ∷ CHOOSE_M ∷ CHOOSE_M ∷ NONE ∷ NONE ∷ NONE ∷ NONE ∷ NONE ∷ NONE ∷ NONE ∷ NONE ∷
    MOVE_M ∷ MOVE_M ∷ NONE ∷ NONE ∷ NONE ∷ NONE ∷ NONE ∷ NONE ∷ NONE ∷ NONE ∷ NONE ∷ NONE ∷ NONE ∷ NONE ∷ NONE ∷ NONE ∷
    LOOKUP ∷ LOOKUP_W ∷ NONE ∷ NONE ∷ NONE ∷ NONE ∷ NONE ∷ NONE ∷ NONE ∷ NONE ∷ NONE ∷ NONE ∷ NONE ∷ NONE ∷ NONE ∷ NONE ∷
    BIT_CHANGE ∷ BIT_CHANGE ∷ BIT_BRANCH ∷ BIT_BRANCH ∷ NONE ∷ NONE ∷ NONE ∷ NONE ∷ NONE ∷ NONE ∷ NONE ∷ NONE ∷ NONE ∷ NONE ∷ NONE ∷ NONE ∷
    []

-- the family of a cell: that of its kind, but moves of immediate data are a family of their own
unfoldable pub family_of : Kind → Mode → Family
unfolding families
family_of kind mode = pick (eqb (mode_number mode) (mode_number IM_ID)) MOVE_IM (get_or families (kind_number kind) NONE)
