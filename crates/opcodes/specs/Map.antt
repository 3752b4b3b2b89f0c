-- The opcode map, laid out as the papers print it (source document 003, table A-2, sheets 1 and 2; source document 002, pp. A-20
-- and A-21): for each page sixteen rows of sixteen cells, the row by the opcode's second digit and the column by its first.
-- Each row has four lines: the names, the addressing modes, the lengths in bytes and the costs in cycles.
-- An indexed cell has the length and the cost of a plain IDX postbyte; a conditional branch the cost when it is taken; what stops
-- the machine, and the prebyte, the cost 0. Where the papers disagree, docs/READINGS.md says what decides.
use Rattle.std.specs.Prelude.{ℕ, zero, suc, ◌+◌, ◌-◌, ◌/◌, ◌%◌, Bool, List, [], ◌∷◌, get_or, ltb}
use Rattle.word.specs.Word.{pick}
use Rattle.opcodes.specs.declared.Cell.{Cell}
use Rattle.opcodes.specs.declared.kind.Kind.{Kind}
use Rattle.opcodes.specs.declared.mode.Mode.{Mode}
use Rattle.opcodes.specs.Kind.{BGND, MEM, RTC, wavr, CALL, REV, REVW, WAV, STOP, PAGE2, BRA, BRN, BHI, BLS, BCC, BCS, BNE, BEQ, BVC, BVS, BPL, BMI, BGE, BLT, BGT, BLE, LBRA, LBRN, LBHI, LBLS, LBCC, LBCS, LBNE, LBEQ, LBVC, LBVS, LBPL, LBMI, LBGE, LBLT, LBGT, LBLE, SUBA, CMPA, SBCA, ANDA, BITA, LDAA, EORA, ADCA, ORAA, ADDA, SUBB, CMPB, SBCB, ANDB, BITB, LDAB, EORB, ADCB, ORAB, ADDB, SUBD, ADDD, CPD, CPY, CPX, CPS, LDD, LDY, LDX, LDS, STAA, STAB, STD, STY, STX, STS, NEG, COM, INC, DEC, LSR, ROL, ROR, ASR, ASL, CLR, TST, NEGA, COMA, INCA, DECA, LSRA, ROLA, RORA, ASRA, ASLA, CLRA, TSTA, NEGB, COMB, INCB, DECB, LSRB, ROLB, RORB, ASRB, ASLB, CLRB, TSTB, LSRD, ASLD, INX, INY, DEX, DEY, ABA, SBA, CBA, DAA, TAB, TBA, ANDCC, ORCC, TFR/EXG, NOP, MUL, EMUL, EMULS, EMACS, EDIV, EDIVS, IDIV, IDIVS, FDIV, TBL, ETBL, PULX, PULY, PULA, PULB, PSHX, PSHY, PSHA, PSHB, PULC, PSHC, PULD, PSHD, JMP, JSR, BSR, RTS, RTI, SWI, TRAP, WAI, LOOP, LEAY, LEAX, LEAS, BSET, BCLR, BRSET, BRCLR, MOVB, MOVW, MAXA, MINA, EMAXD, EMIND, MAXM, MINM, EMAXM, EMINM}
use Rattle.opcodes.specs.Mode.{IM, DI, EX, IH, RL, SP, IM_EX, EX_EX, ID, IM_ID, EX_ID, ID_ID, ID_EX}
use Rattle.opcodes.specs.Grid.{family_of}

-- a cell, its family by its kind and mode; nothing is in its spare bytes
abbrev pub cell_is : Kind → Mode → ℕ → ℕ → Cell
cell_is kind mode length cost = record { kind = kind; mode = mode; family = family_of kind mode; length = length; cost = cost; spare = 0 }

-- a row of the map: its four lines
pub record Lines : Type 0 where
  pub names : List Kind
  pub modes : List Mode
  pub lengths : List ℕ
  pub costs : List ℕ

abbrev pub row : List Kind → List Mode → List ℕ → List ℕ → Lines
row names modes lengths costs = record { names = names; modes = modes; lengths = lengths; costs = costs }

abbrev pub no_row : Lines
no_row = row [] [] [] []

unfoldable pub page_one : List Lines
page_one =
    (row
    (BGND ∷ ANDCC ∷ BRA ∷ PULX ∷ NEGA ∷ NEGB ∷ NEG ∷ NEG ∷ SUBA ∷ SUBA ∷ SUBA ∷ SUBA ∷ SUBB ∷ SUBB ∷ SUBB ∷ SUBB ∷ [])
    (IH ∷ IM ∷ RL ∷ IH ∷ IH ∷ IH ∷ ID ∷ EX ∷ IM ∷ DI ∷ ID ∷ EX ∷ IM ∷ DI ∷ ID ∷ EX ∷ [])
    (1 ∷ 2 ∷ 2 ∷ 1 ∷ 1 ∷ 1 ∷ 2 ∷ 3 ∷ 2 ∷ 2 ∷ 2 ∷ 3 ∷ 2 ∷ 2 ∷ 2 ∷ 3 ∷ [])
    (0 ∷ 1 ∷ 3 ∷ 3 ∷ 1 ∷ 1 ∷ 3 ∷ 4 ∷ 1 ∷ 3 ∷ 3 ∷ 3 ∷ 1 ∷ 3 ∷ 3 ∷ 3 ∷ []))
    ∷
    (row
    (MEM ∷ EDIV ∷ BRN ∷ PULY ∷ COMA ∷ COMB ∷ COM ∷ COM ∷ CMPA ∷ CMPA ∷ CMPA ∷ CMPA ∷ CMPB ∷ CMPB ∷ CMPB ∷ CMPB ∷ [])
    (IH ∷ IH ∷ RL ∷ IH ∷ IH ∷ IH ∷ ID ∷ EX ∷ IM ∷ DI ∷ ID ∷ EX ∷ IM ∷ DI ∷ ID ∷ EX ∷ [])
    (1 ∷ 1 ∷ 2 ∷ 1 ∷ 1 ∷ 1 ∷ 2 ∷ 3 ∷ 2 ∷ 2 ∷ 2 ∷ 3 ∷ 2 ∷ 2 ∷ 2 ∷ 3 ∷ [])
    (0 ∷ 11 ∷ 1 ∷ 3 ∷ 1 ∷ 1 ∷ 3 ∷ 4 ∷ 1 ∷ 3 ∷ 3 ∷ 3 ∷ 1 ∷ 3 ∷ 3 ∷ 3 ∷ []))
    ∷
    (row
    (INY ∷ MUL ∷ BHI ∷ PULA ∷ INCA ∷ INCB ∷ INC ∷ INC ∷ SBCA ∷ SBCA ∷ SBCA ∷ SBCA ∷ SBCB ∷ SBCB ∷ SBCB ∷ SBCB ∷ [])
    (IH ∷ IH ∷ RL ∷ IH ∷ IH ∷ IH ∷ ID ∷ EX ∷ IM ∷ DI ∷ ID ∷ EX ∷ IM ∷ DI ∷ ID ∷ EX ∷ [])
    (1 ∷ 1 ∷ 2 ∷ 1 ∷ 1 ∷ 1 ∷ 2 ∷ 3 ∷ 2 ∷ 2 ∷ 2 ∷ 3 ∷ 2 ∷ 2 ∷ 2 ∷ 3 ∷ [])
    (1 ∷ 1 ∷ 3 ∷ 3 ∷ 1 ∷ 1 ∷ 3 ∷ 4 ∷ 1 ∷ 3 ∷ 3 ∷ 3 ∷ 1 ∷ 3 ∷ 3 ∷ 3 ∷ []))
    ∷
    (row
    (DEY ∷ EMUL ∷ BLS ∷ PULB ∷ DECA ∷ DECB ∷ DEC ∷ DEC ∷ SUBD ∷ SUBD ∷ SUBD ∷ SUBD ∷ ADDD ∷ ADDD ∷ ADDD ∷ ADDD ∷ [])
    (IH ∷ IH ∷ RL ∷ IH ∷ IH ∷ IH ∷ ID ∷ EX ∷ IM ∷ DI ∷ ID ∷ EX ∷ IM ∷ DI ∷ ID ∷ EX ∷ [])
    (1 ∷ 1 ∷ 2 ∷ 1 ∷ 1 ∷ 1 ∷ 2 ∷ 3 ∷ 3 ∷ 2 ∷ 2 ∷ 3 ∷ 3 ∷ 2 ∷ 2 ∷ 3 ∷ [])
    (1 ∷ 3 ∷ 3 ∷ 3 ∷ 1 ∷ 1 ∷ 3 ∷ 4 ∷ 2 ∷ 3 ∷ 3 ∷ 3 ∷ 2 ∷ 3 ∷ 3 ∷ 3 ∷ []))
    ∷
    (row
    (LOOP ∷ ORCC ∷ BCC ∷ PSHX ∷ LSRA ∷ LSRB ∷ LSR ∷ LSR ∷ ANDA ∷ ANDA ∷ ANDA ∷ ANDA ∷ ANDB ∷ ANDB ∷ ANDB ∷ ANDB ∷ [])
    (RL ∷ IM ∷ RL ∷ IH ∷ IH ∷ IH ∷ ID ∷ EX ∷ IM ∷ DI ∷ ID ∷ EX ∷ IM ∷ DI ∷ ID ∷ EX ∷ [])
    (3 ∷ 2 ∷ 2 ∷ 1 ∷ 1 ∷ 1 ∷ 2 ∷ 3 ∷ 2 ∷ 2 ∷ 2 ∷ 3 ∷ 2 ∷ 2 ∷ 2 ∷ 3 ∷ [])
    (3 ∷ 1 ∷ 3 ∷ 2 ∷ 1 ∷ 1 ∷ 3 ∷ 4 ∷ 1 ∷ 3 ∷ 3 ∷ 3 ∷ 1 ∷ 3 ∷ 3 ∷ 3 ∷ []))
    ∷
    (row
    (JMP ∷ JSR ∷ BCS ∷ PSHY ∷ ROLA ∷ ROLB ∷ ROL ∷ ROL ∷ BITA ∷ BITA ∷ BITA ∷ BITA ∷ BITB ∷ BITB ∷ BITB ∷ BITB ∷ [])
    (ID ∷ ID ∷ RL ∷ IH ∷ IH ∷ IH ∷ ID ∷ EX ∷ IM ∷ DI ∷ ID ∷ EX ∷ IM ∷ DI ∷ ID ∷ EX ∷ [])
    (2 ∷ 2 ∷ 2 ∷ 1 ∷ 1 ∷ 1 ∷ 2 ∷ 3 ∷ 2 ∷ 2 ∷ 2 ∷ 3 ∷ 2 ∷ 2 ∷ 2 ∷ 3 ∷ [])
    (3 ∷ 4 ∷ 3 ∷ 2 ∷ 1 ∷ 1 ∷ 3 ∷ 4 ∷ 1 ∷ 3 ∷ 3 ∷ 3 ∷ 1 ∷ 3 ∷ 3 ∷ 3 ∷ []))
    ∷
    (row
    (JMP ∷ JSR ∷ BNE ∷ PSHA ∷ RORA ∷ RORB ∷ ROR ∷ ROR ∷ LDAA ∷ LDAA ∷ LDAA ∷ LDAA ∷ LDAB ∷ LDAB ∷ LDAB ∷ LDAB ∷ [])
    (EX ∷ EX ∷ RL ∷ IH ∷ IH ∷ IH ∷ ID ∷ EX ∷ IM ∷ DI ∷ ID ∷ EX ∷ IM ∷ DI ∷ ID ∷ EX ∷ [])
    (3 ∷ 3 ∷ 2 ∷ 1 ∷ 1 ∷ 1 ∷ 2 ∷ 3 ∷ 2 ∷ 2 ∷ 2 ∷ 3 ∷ 2 ∷ 2 ∷ 2 ∷ 3 ∷ [])
    (3 ∷ 4 ∷ 3 ∷ 2 ∷ 1 ∷ 1 ∷ 3 ∷ 4 ∷ 1 ∷ 3 ∷ 3 ∷ 3 ∷ 1 ∷ 3 ∷ 3 ∷ 3 ∷ []))
    ∷
    (row
    (BSR ∷ JSR ∷ BEQ ∷ PSHB ∷ ASRA ∷ ASRB ∷ ASR ∷ ASR ∷ CLRA ∷ TSTA ∷ NOP ∷ TFR/EXG ∷ CLRB ∷ TSTB ∷ TST ∷ TST ∷ [])
    (RL ∷ DI ∷ RL ∷ IH ∷ IH ∷ IH ∷ ID ∷ EX ∷ IH ∷ IH ∷ IH ∷ IH ∷ IH ∷ IH ∷ ID ∷ EX ∷ [])
    (2 ∷ 2 ∷ 2 ∷ 1 ∷ 1 ∷ 1 ∷ 2 ∷ 3 ∷ 1 ∷ 1 ∷ 1 ∷ 2 ∷ 1 ∷ 1 ∷ 2 ∷ 3 ∷ [])
    (4 ∷ 4 ∷ 3 ∷ 2 ∷ 1 ∷ 1 ∷ 3 ∷ 4 ∷ 1 ∷ 1 ∷ 1 ∷ 1 ∷ 1 ∷ 1 ∷ 3 ∷ 3 ∷ []))
    ∷
    (row
    (INX ∷ PAGE2 ∷ BVC ∷ PULC ∷ ASLA ∷ ASLB ∷ ASL ∷ ASL ∷ EORA ∷ EORA ∷ EORA ∷ EORA ∷ EORB ∷ EORB ∷ EORB ∷ EORB ∷ [])
    (IH ∷ IH ∷ RL ∷ IH ∷ IH ∷ IH ∷ ID ∷ EX ∷ IM ∷ DI ∷ ID ∷ EX ∷ IM ∷ DI ∷ ID ∷ EX ∷ [])
    (1 ∷ 1 ∷ 2 ∷ 1 ∷ 1 ∷ 1 ∷ 2 ∷ 3 ∷ 2 ∷ 2 ∷ 2 ∷ 3 ∷ 2 ∷ 2 ∷ 2 ∷ 3 ∷ [])
    (1 ∷ 0 ∷ 3 ∷ 3 ∷ 1 ∷ 1 ∷ 3 ∷ 4 ∷ 1 ∷ 3 ∷ 3 ∷ 3 ∷ 1 ∷ 3 ∷ 3 ∷ 3 ∷ []))
    ∷
    (row
    (DEX ∷ LEAY ∷ BVS ∷ PSHC ∷ LSRD ∷ ASLD ∷ CLR ∷ CLR ∷ ADCA ∷ ADCA ∷ ADCA ∷ ADCA ∷ ADCB ∷ ADCB ∷ ADCB ∷ ADCB ∷ [])
    (IH ∷ ID ∷ RL ∷ IH ∷ IH ∷ IH ∷ ID ∷ EX ∷ IM ∷ DI ∷ ID ∷ EX ∷ IM ∷ DI ∷ ID ∷ EX ∷ [])
    (1 ∷ 2 ∷ 2 ∷ 1 ∷ 1 ∷ 1 ∷ 2 ∷ 3 ∷ 2 ∷ 2 ∷ 2 ∷ 3 ∷ 2 ∷ 2 ∷ 2 ∷ 3 ∷ [])
    (1 ∷ 2 ∷ 3 ∷ 2 ∷ 1 ∷ 1 ∷ 2 ∷ 3 ∷ 1 ∷ 3 ∷ 3 ∷ 3 ∷ 1 ∷ 3 ∷ 3 ∷ 3 ∷ []))
    ∷
    (row
    (RTC ∷ LEAX ∷ BPL ∷ PULD ∷ CALL ∷ STAA ∷ STAA ∷ STAA ∷ ORAA ∷ ORAA ∷ ORAA ∷ ORAA ∷ ORAB ∷ ORAB ∷ ORAB ∷ ORAB ∷ [])
    (IH ∷ ID ∷ RL ∷ IH ∷ EX ∷ DI ∷ ID ∷ EX ∷ IM ∷ DI ∷ ID ∷ EX ∷ IM ∷ DI ∷ ID ∷ EX ∷ [])
    (1 ∷ 2 ∷ 2 ∷ 1 ∷ 4 ∷ 2 ∷ 2 ∷ 3 ∷ 2 ∷ 2 ∷ 2 ∷ 3 ∷ 2 ∷ 2 ∷ 2 ∷ 3 ∷ [])
    (0 ∷ 2 ∷ 3 ∷ 3 ∷ 0 ∷ 2 ∷ 2 ∷ 3 ∷ 1 ∷ 3 ∷ 3 ∷ 3 ∷ 1 ∷ 3 ∷ 3 ∷ 3 ∷ []))
    ∷
    (row
    (RTI ∷ LEAS ∷ BMI ∷ PSHD ∷ CALL ∷ STAB ∷ STAB ∷ STAB ∷ ADDA ∷ ADDA ∷ ADDA ∷ ADDA ∷ ADDB ∷ ADDB ∷ ADDB ∷ ADDB ∷ [])
    (IH ∷ ID ∷ RL ∷ IH ∷ ID ∷ DI ∷ ID ∷ EX ∷ IM ∷ DI ∷ ID ∷ EX ∷ IM ∷ DI ∷ ID ∷ EX ∷ [])
    (1 ∷ 2 ∷ 2 ∷ 1 ∷ 3 ∷ 2 ∷ 2 ∷ 3 ∷ 2 ∷ 2 ∷ 2 ∷ 3 ∷ 2 ∷ 2 ∷ 2 ∷ 3 ∷ [])
    (8 ∷ 2 ∷ 3 ∷ 2 ∷ 0 ∷ 2 ∷ 2 ∷ 3 ∷ 1 ∷ 3 ∷ 3 ∷ 3 ∷ 1 ∷ 3 ∷ 3 ∷ 3 ∷ []))
    ∷
    (row
    (BSET ∷ BSET ∷ BGE ∷ wavr ∷ BSET ∷ STD ∷ STD ∷ STD ∷ CPD ∷ CPD ∷ CPD ∷ CPD ∷ LDD ∷ LDD ∷ LDD ∷ LDD ∷ [])
    (ID ∷ EX ∷ RL ∷ SP ∷ DI ∷ DI ∷ ID ∷ EX ∷ IM ∷ DI ∷ ID ∷ EX ∷ IM ∷ DI ∷ ID ∷ EX ∷ [])
    (3 ∷ 4 ∷ 2 ∷ 1 ∷ 3 ∷ 2 ∷ 2 ∷ 3 ∷ 3 ∷ 2 ∷ 2 ∷ 3 ∷ 3 ∷ 2 ∷ 2 ∷ 3 ∷ [])
    (4 ∷ 4 ∷ 3 ∷ 0 ∷ 4 ∷ 2 ∷ 2 ∷ 3 ∷ 2 ∷ 3 ∷ 3 ∷ 3 ∷ 2 ∷ 3 ∷ 3 ∷ 3 ∷ []))
    ∷
    (row
    (BCLR ∷ BCLR ∷ BLT ∷ RTS ∷ BCLR ∷ STY ∷ STY ∷ STY ∷ CPY ∷ CPY ∷ CPY ∷ CPY ∷ LDY ∷ LDY ∷ LDY ∷ LDY ∷ [])
    (ID ∷ EX ∷ RL ∷ IH ∷ DI ∷ DI ∷ ID ∷ EX ∷ IM ∷ DI ∷ ID ∷ EX ∷ IM ∷ DI ∷ ID ∷ EX ∷ [])
    (3 ∷ 4 ∷ 2 ∷ 1 ∷ 3 ∷ 2 ∷ 2 ∷ 3 ∷ 3 ∷ 2 ∷ 2 ∷ 3 ∷ 3 ∷ 2 ∷ 2 ∷ 3 ∷ [])
    (4 ∷ 4 ∷ 3 ∷ 5 ∷ 4 ∷ 2 ∷ 2 ∷ 3 ∷ 2 ∷ 3 ∷ 3 ∷ 3 ∷ 2 ∷ 3 ∷ 3 ∷ 3 ∷ []))
    ∷
    (row
    (BRSET ∷ BRSET ∷ BGT ∷ WAI ∷ BRSET ∷ STX ∷ STX ∷ STX ∷ CPX ∷ CPX ∷ CPX ∷ CPX ∷ LDX ∷ LDX ∷ LDX ∷ LDX ∷ [])
    (ID ∷ EX ∷ RL ∷ IH ∷ DI ∷ DI ∷ ID ∷ EX ∷ IM ∷ DI ∷ ID ∷ EX ∷ IM ∷ DI ∷ ID ∷ EX ∷ [])
    (4 ∷ 5 ∷ 2 ∷ 1 ∷ 4 ∷ 2 ∷ 2 ∷ 3 ∷ 3 ∷ 2 ∷ 2 ∷ 3 ∷ 3 ∷ 2 ∷ 2 ∷ 3 ∷ [])
    (4 ∷ 5 ∷ 3 ∷ 7 ∷ 4 ∷ 2 ∷ 2 ∷ 3 ∷ 2 ∷ 3 ∷ 3 ∷ 3 ∷ 2 ∷ 3 ∷ 3 ∷ 3 ∷ []))
    ∷
    (row
    (BRCLR ∷ BRCLR ∷ BLE ∷ SWI ∷ BRCLR ∷ STS ∷ STS ∷ STS ∷ CPS ∷ CPS ∷ CPS ∷ CPS ∷ LDS ∷ LDS ∷ LDS ∷ LDS ∷ [])
    (ID ∷ EX ∷ RL ∷ IH ∷ DI ∷ DI ∷ ID ∷ EX ∷ IM ∷ DI ∷ ID ∷ EX ∷ IM ∷ DI ∷ ID ∷ EX ∷ [])
    (4 ∷ 5 ∷ 2 ∷ 1 ∷ 4 ∷ 2 ∷ 2 ∷ 3 ∷ 3 ∷ 2 ∷ 2 ∷ 3 ∷ 3 ∷ 2 ∷ 2 ∷ 3 ∷ [])
    (4 ∷ 5 ∷ 3 ∷ 9 ∷ 4 ∷ 2 ∷ 2 ∷ 3 ∷ 2 ∷ 3 ∷ 3 ∷ 3 ∷ 2 ∷ 3 ∷ 3 ∷ 3 ∷ []))
    ∷
    []

unfoldable pub page_two : List Lines
page_two =
    (row
    (MOVW ∷ IDIV ∷ LBRA ∷ TRAP ∷ TRAP ∷ TRAP ∷ TRAP ∷ TRAP ∷ TRAP ∷ TRAP ∷ TRAP ∷ TRAP ∷ TRAP ∷ TRAP ∷ TRAP ∷ TRAP ∷ [])
    (IM_ID ∷ IH ∷ RL ∷ IH ∷ IH ∷ IH ∷ IH ∷ IH ∷ IH ∷ IH ∷ IH ∷ IH ∷ IH ∷ IH ∷ IH ∷ IH ∷ [])
    (5 ∷ 2 ∷ 4 ∷ 2 ∷ 2 ∷ 2 ∷ 2 ∷ 2 ∷ 2 ∷ 2 ∷ 2 ∷ 2 ∷ 2 ∷ 2 ∷ 2 ∷ 2 ∷ [])
    (4 ∷ 12 ∷ 4 ∷ 10 ∷ 10 ∷ 10 ∷ 10 ∷ 10 ∷ 10 ∷ 10 ∷ 10 ∷ 10 ∷ 10 ∷ 10 ∷ 10 ∷ 10 ∷ []))
    ∷
    (row
    (MOVW ∷ FDIV ∷ LBRN ∷ TRAP ∷ TRAP ∷ TRAP ∷ TRAP ∷ TRAP ∷ TRAP ∷ TRAP ∷ TRAP ∷ TRAP ∷ TRAP ∷ TRAP ∷ TRAP ∷ TRAP ∷ [])
    (EX_ID ∷ IH ∷ RL ∷ IH ∷ IH ∷ IH ∷ IH ∷ IH ∷ IH ∷ IH ∷ IH ∷ IH ∷ IH ∷ IH ∷ IH ∷ IH ∷ [])
    (5 ∷ 2 ∷ 4 ∷ 2 ∷ 2 ∷ 2 ∷ 2 ∷ 2 ∷ 2 ∷ 2 ∷ 2 ∷ 2 ∷ 2 ∷ 2 ∷ 2 ∷ 2 ∷ [])
    (5 ∷ 12 ∷ 3 ∷ 10 ∷ 10 ∷ 10 ∷ 10 ∷ 10 ∷ 10 ∷ 10 ∷ 10 ∷ 10 ∷ 10 ∷ 10 ∷ 10 ∷ 10 ∷ []))
    ∷
    (row
    (MOVW ∷ EMACS ∷ LBHI ∷ TRAP ∷ TRAP ∷ TRAP ∷ TRAP ∷ TRAP ∷ TRAP ∷ TRAP ∷ TRAP ∷ TRAP ∷ TRAP ∷ TRAP ∷ TRAP ∷ TRAP ∷ [])
    (ID_ID ∷ SP ∷ RL ∷ IH ∷ IH ∷ IH ∷ IH ∷ IH ∷ IH ∷ IH ∷ IH ∷ IH ∷ IH ∷ IH ∷ IH ∷ IH ∷ [])
    (4 ∷ 4 ∷ 4 ∷ 2 ∷ 2 ∷ 2 ∷ 2 ∷ 2 ∷ 2 ∷ 2 ∷ 2 ∷ 2 ∷ 2 ∷ 2 ∷ 2 ∷ 2 ∷ [])
    (5 ∷ 13 ∷ 4 ∷ 10 ∷ 10 ∷ 10 ∷ 10 ∷ 10 ∷ 10 ∷ 10 ∷ 10 ∷ 10 ∷ 10 ∷ 10 ∷ 10 ∷ 10 ∷ []))
    ∷
    (row
    (MOVW ∷ EMULS ∷ LBLS ∷ TRAP ∷ TRAP ∷ TRAP ∷ TRAP ∷ TRAP ∷ TRAP ∷ TRAP ∷ TRAP ∷ TRAP ∷ TRAP ∷ TRAP ∷ TRAP ∷ TRAP ∷ [])
    (IM_EX ∷ IH ∷ RL ∷ IH ∷ IH ∷ IH ∷ IH ∷ IH ∷ IH ∷ IH ∷ IH ∷ IH ∷ IH ∷ IH ∷ IH ∷ IH ∷ [])
    (6 ∷ 2 ∷ 4 ∷ 2 ∷ 2 ∷ 2 ∷ 2 ∷ 2 ∷ 2 ∷ 2 ∷ 2 ∷ 2 ∷ 2 ∷ 2 ∷ 2 ∷ 2 ∷ [])
    (5 ∷ 3 ∷ 4 ∷ 10 ∷ 10 ∷ 10 ∷ 10 ∷ 10 ∷ 10 ∷ 10 ∷ 10 ∷ 10 ∷ 10 ∷ 10 ∷ 10 ∷ 10 ∷ []))
    ∷
    (row
    (MOVW ∷ EDIVS ∷ LBCC ∷ TRAP ∷ TRAP ∷ TRAP ∷ TRAP ∷ TRAP ∷ TRAP ∷ TRAP ∷ TRAP ∷ TRAP ∷ TRAP ∷ TRAP ∷ TRAP ∷ TRAP ∷ [])
    (EX_EX ∷ IH ∷ RL ∷ IH ∷ IH ∷ IH ∷ IH ∷ IH ∷ IH ∷ IH ∷ IH ∷ IH ∷ IH ∷ IH ∷ IH ∷ IH ∷ [])
    (6 ∷ 2 ∷ 4 ∷ 2 ∷ 2 ∷ 2 ∷ 2 ∷ 2 ∷ 2 ∷ 2 ∷ 2 ∷ 2 ∷ 2 ∷ 2 ∷ 2 ∷ 2 ∷ [])
    (6 ∷ 12 ∷ 4 ∷ 10 ∷ 10 ∷ 10 ∷ 10 ∷ 10 ∷ 10 ∷ 10 ∷ 10 ∷ 10 ∷ 10 ∷ 10 ∷ 10 ∷ 10 ∷ []))
    ∷
    (row
    (MOVW ∷ IDIVS ∷ LBCS ∷ TRAP ∷ TRAP ∷ TRAP ∷ TRAP ∷ TRAP ∷ TRAP ∷ TRAP ∷ TRAP ∷ TRAP ∷ TRAP ∷ TRAP ∷ TRAP ∷ TRAP ∷ [])
    (ID_EX ∷ IH ∷ RL ∷ IH ∷ IH ∷ IH ∷ IH ∷ IH ∷ IH ∷ IH ∷ IH ∷ IH ∷ IH ∷ IH ∷ IH ∷ IH ∷ [])
    (5 ∷ 2 ∷ 4 ∷ 2 ∷ 2 ∷ 2 ∷ 2 ∷ 2 ∷ 2 ∷ 2 ∷ 2 ∷ 2 ∷ 2 ∷ 2 ∷ 2 ∷ 2 ∷ [])
    (5 ∷ 12 ∷ 4 ∷ 10 ∷ 10 ∷ 10 ∷ 10 ∷ 10 ∷ 10 ∷ 10 ∷ 10 ∷ 10 ∷ 10 ∷ 10 ∷ 10 ∷ 10 ∷ []))
    ∷
    (row
    (ABA ∷ SBA ∷ LBNE ∷ TRAP ∷ TRAP ∷ TRAP ∷ TRAP ∷ TRAP ∷ TRAP ∷ TRAP ∷ TRAP ∷ TRAP ∷ TRAP ∷ TRAP ∷ TRAP ∷ TRAP ∷ [])
    (IH ∷ IH ∷ RL ∷ IH ∷ IH ∷ IH ∷ IH ∷ IH ∷ IH ∷ IH ∷ IH ∷ IH ∷ IH ∷ IH ∷ IH ∷ IH ∷ [])
    (2 ∷ 2 ∷ 4 ∷ 2 ∷ 2 ∷ 2 ∷ 2 ∷ 2 ∷ 2 ∷ 2 ∷ 2 ∷ 2 ∷ 2 ∷ 2 ∷ 2 ∷ 2 ∷ [])
    (2 ∷ 2 ∷ 4 ∷ 10 ∷ 10 ∷ 10 ∷ 10 ∷ 10 ∷ 10 ∷ 10 ∷ 10 ∷ 10 ∷ 10 ∷ 10 ∷ 10 ∷ 10 ∷ []))
    ∷
    (row
    (DAA ∷ CBA ∷ LBEQ ∷ TRAP ∷ TRAP ∷ TRAP ∷ TRAP ∷ TRAP ∷ TRAP ∷ TRAP ∷ TRAP ∷ TRAP ∷ TRAP ∷ TRAP ∷ TRAP ∷ TRAP ∷ [])
    (IH ∷ IH ∷ RL ∷ IH ∷ IH ∷ IH ∷ IH ∷ IH ∷ IH ∷ IH ∷ IH ∷ IH ∷ IH ∷ IH ∷ IH ∷ IH ∷ [])
    (2 ∷ 2 ∷ 4 ∷ 2 ∷ 2 ∷ 2 ∷ 2 ∷ 2 ∷ 2 ∷ 2 ∷ 2 ∷ 2 ∷ 2 ∷ 2 ∷ 2 ∷ 2 ∷ [])
    (3 ∷ 2 ∷ 4 ∷ 10 ∷ 10 ∷ 10 ∷ 10 ∷ 10 ∷ 10 ∷ 10 ∷ 10 ∷ 10 ∷ 10 ∷ 10 ∷ 10 ∷ 10 ∷ []))
    ∷
    (row
    (MOVB ∷ MAXA ∷ LBVC ∷ TRAP ∷ TRAP ∷ TRAP ∷ TRAP ∷ TRAP ∷ TRAP ∷ TRAP ∷ TRAP ∷ TRAP ∷ TRAP ∷ TRAP ∷ TRAP ∷ TRAP ∷ [])
    (IM_ID ∷ ID ∷ RL ∷ IH ∷ IH ∷ IH ∷ IH ∷ IH ∷ IH ∷ IH ∷ IH ∷ IH ∷ IH ∷ IH ∷ IH ∷ IH ∷ [])
    (4 ∷ 3 ∷ 4 ∷ 2 ∷ 2 ∷ 2 ∷ 2 ∷ 2 ∷ 2 ∷ 2 ∷ 2 ∷ 2 ∷ 2 ∷ 2 ∷ 2 ∷ 2 ∷ [])
    (4 ∷ 4 ∷ 4 ∷ 10 ∷ 10 ∷ 10 ∷ 10 ∷ 10 ∷ 10 ∷ 10 ∷ 10 ∷ 10 ∷ 10 ∷ 10 ∷ 10 ∷ 10 ∷ []))
    ∷
    (row
    (MOVB ∷ MINA ∷ LBVS ∷ TRAP ∷ TRAP ∷ TRAP ∷ TRAP ∷ TRAP ∷ TRAP ∷ TRAP ∷ TRAP ∷ TRAP ∷ TRAP ∷ TRAP ∷ TRAP ∷ TRAP ∷ [])
    (EX_ID ∷ ID ∷ RL ∷ IH ∷ IH ∷ IH ∷ IH ∷ IH ∷ IH ∷ IH ∷ IH ∷ IH ∷ IH ∷ IH ∷ IH ∷ IH ∷ [])
    (5 ∷ 3 ∷ 4 ∷ 2 ∷ 2 ∷ 2 ∷ 2 ∷ 2 ∷ 2 ∷ 2 ∷ 2 ∷ 2 ∷ 2 ∷ 2 ∷ 2 ∷ 2 ∷ [])
    (5 ∷ 4 ∷ 4 ∷ 10 ∷ 10 ∷ 10 ∷ 10 ∷ 10 ∷ 10 ∷ 10 ∷ 10 ∷ 10 ∷ 10 ∷ 10 ∷ 10 ∷ 10 ∷ []))
    ∷
    (row
    (MOVB ∷ EMAXD ∷ LBPL ∷ REV ∷ TRAP ∷ TRAP ∷ TRAP ∷ TRAP ∷ TRAP ∷ TRAP ∷ TRAP ∷ TRAP ∷ TRAP ∷ TRAP ∷ TRAP ∷ TRAP ∷ [])
    (ID_ID ∷ ID ∷ RL ∷ SP ∷ IH ∷ IH ∷ IH ∷ IH ∷ IH ∷ IH ∷ IH ∷ IH ∷ IH ∷ IH ∷ IH ∷ IH ∷ [])
    (4 ∷ 3 ∷ 4 ∷ 2 ∷ 2 ∷ 2 ∷ 2 ∷ 2 ∷ 2 ∷ 2 ∷ 2 ∷ 2 ∷ 2 ∷ 2 ∷ 2 ∷ 2 ∷ [])
    (5 ∷ 4 ∷ 4 ∷ 0 ∷ 10 ∷ 10 ∷ 10 ∷ 10 ∷ 10 ∷ 10 ∷ 10 ∷ 10 ∷ 10 ∷ 10 ∷ 10 ∷ 10 ∷ []))
    ∷
    (row
    (MOVB ∷ EMIND ∷ LBMI ∷ REVW ∷ TRAP ∷ TRAP ∷ TRAP ∷ TRAP ∷ TRAP ∷ TRAP ∷ TRAP ∷ TRAP ∷ TRAP ∷ TRAP ∷ TRAP ∷ TRAP ∷ [])
    (IM_EX ∷ ID ∷ RL ∷ SP ∷ IH ∷ IH ∷ IH ∷ IH ∷ IH ∷ IH ∷ IH ∷ IH ∷ IH ∷ IH ∷ IH ∷ IH ∷ [])
    (5 ∷ 3 ∷ 4 ∷ 2 ∷ 2 ∷ 2 ∷ 2 ∷ 2 ∷ 2 ∷ 2 ∷ 2 ∷ 2 ∷ 2 ∷ 2 ∷ 2 ∷ 2 ∷ [])
    (4 ∷ 4 ∷ 4 ∷ 0 ∷ 10 ∷ 10 ∷ 10 ∷ 10 ∷ 10 ∷ 10 ∷ 10 ∷ 10 ∷ 10 ∷ 10 ∷ 10 ∷ 10 ∷ []))
    ∷
    (row
    (MOVB ∷ MAXM ∷ LBGE ∷ WAV ∷ TRAP ∷ TRAP ∷ TRAP ∷ TRAP ∷ TRAP ∷ TRAP ∷ TRAP ∷ TRAP ∷ TRAP ∷ TRAP ∷ TRAP ∷ TRAP ∷ [])
    (EX_EX ∷ ID ∷ RL ∷ SP ∷ IH ∷ IH ∷ IH ∷ IH ∷ IH ∷ IH ∷ IH ∷ IH ∷ IH ∷ IH ∷ IH ∷ IH ∷ [])
    (6 ∷ 3 ∷ 4 ∷ 2 ∷ 2 ∷ 2 ∷ 2 ∷ 2 ∷ 2 ∷ 2 ∷ 2 ∷ 2 ∷ 2 ∷ 2 ∷ 2 ∷ 2 ∷ [])
    (6 ∷ 4 ∷ 4 ∷ 0 ∷ 10 ∷ 10 ∷ 10 ∷ 10 ∷ 10 ∷ 10 ∷ 10 ∷ 10 ∷ 10 ∷ 10 ∷ 10 ∷ 10 ∷ []))
    ∷
    (row
    (MOVB ∷ MINM ∷ LBLT ∷ TBL ∷ TRAP ∷ TRAP ∷ TRAP ∷ TRAP ∷ TRAP ∷ TRAP ∷ TRAP ∷ TRAP ∷ TRAP ∷ TRAP ∷ TRAP ∷ TRAP ∷ [])
    (ID_EX ∷ ID ∷ RL ∷ ID ∷ IH ∷ IH ∷ IH ∷ IH ∷ IH ∷ IH ∷ IH ∷ IH ∷ IH ∷ IH ∷ IH ∷ IH ∷ [])
    (5 ∷ 3 ∷ 4 ∷ 3 ∷ 2 ∷ 2 ∷ 2 ∷ 2 ∷ 2 ∷ 2 ∷ 2 ∷ 2 ∷ 2 ∷ 2 ∷ 2 ∷ 2 ∷ [])
    (5 ∷ 4 ∷ 4 ∷ 6 ∷ 10 ∷ 10 ∷ 10 ∷ 10 ∷ 10 ∷ 10 ∷ 10 ∷ 10 ∷ 10 ∷ 10 ∷ 10 ∷ 10 ∷ []))
    ∷
    (row
    (TAB ∷ EMAXM ∷ LBGT ∷ STOP ∷ TRAP ∷ TRAP ∷ TRAP ∷ TRAP ∷ TRAP ∷ TRAP ∷ TRAP ∷ TRAP ∷ TRAP ∷ TRAP ∷ TRAP ∷ TRAP ∷ [])
    (IH ∷ ID ∷ RL ∷ IH ∷ IH ∷ IH ∷ IH ∷ IH ∷ IH ∷ IH ∷ IH ∷ IH ∷ IH ∷ IH ∷ IH ∷ IH ∷ [])
    (2 ∷ 3 ∷ 4 ∷ 2 ∷ 2 ∷ 2 ∷ 2 ∷ 2 ∷ 2 ∷ 2 ∷ 2 ∷ 2 ∷ 2 ∷ 2 ∷ 2 ∷ 2 ∷ [])
    (2 ∷ 4 ∷ 4 ∷ 0 ∷ 10 ∷ 10 ∷ 10 ∷ 10 ∷ 10 ∷ 10 ∷ 10 ∷ 10 ∷ 10 ∷ 10 ∷ 10 ∷ 10 ∷ []))
    ∷
    (row
    (TBA ∷ EMINM ∷ LBLE ∷ ETBL ∷ TRAP ∷ TRAP ∷ TRAP ∷ TRAP ∷ TRAP ∷ TRAP ∷ TRAP ∷ TRAP ∷ TRAP ∷ TRAP ∷ TRAP ∷ TRAP ∷ [])
    (IH ∷ ID ∷ RL ∷ ID ∷ IH ∷ IH ∷ IH ∷ IH ∷ IH ∷ IH ∷ IH ∷ IH ∷ IH ∷ IH ∷ IH ∷ IH ∷ [])
    (2 ∷ 3 ∷ 4 ∷ 3 ∷ 2 ∷ 2 ∷ 2 ∷ 2 ∷ 2 ∷ 2 ∷ 2 ∷ 2 ∷ 2 ∷ 2 ∷ 2 ∷ 2 ∷ [])
    (2 ∷ 4 ∷ 4 ∷ 10 ∷ 10 ∷ 10 ∷ 10 ∷ 10 ∷ 10 ∷ 10 ∷ 10 ∷ 10 ∷ 10 ∷ 10 ∷ 10 ∷ 10 ∷ []))
    ∷
    []

-- the cell in a column of a row
abbrev pub cell_on : Lines → ℕ → Cell
cell_on r column =
    cell_is (get_or r.names column BGND) (get_or r.modes column IM) (get_or r.lengths column 0) (get_or r.costs column 0)

-- the cell of an opcode: its row by the second digit, its column by the first
abbrev pub cell_in : List Lines → ℕ → Cell
cell_in page opcode = cell_on (get_or page (opcode % 16) no_row) (opcode / 16)

-- cells are numbered 0 to 255 on page 1 and 256 to 511 on page 2
abbrev pub cell_number : Bool → ℕ → ℕ
cell_number second opcode = pick second (256 + opcode) opcode

-- the cell of a number
unfoldable pub cell_of : ℕ → Cell
unfolding page_one page_two
cell_of k = pick (ltb k 256) (cell_in page_one k) (cell_in page_two (k - 256))

-- n cells from cell k on
abbrev pub cells_from : ℕ → ℕ → List Cell
cells_from zero k = []
cells_from (suc n) k = cell_of k ∷ cells_from n (suc k)

-- the map as the machine reads it: the 512 cells
unfoldable pub opcode_map : List Cell
opcode_map = cells_from 512 0
