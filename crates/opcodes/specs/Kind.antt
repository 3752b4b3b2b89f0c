-- A number for each instruction of the opcode map, by its name in source document 002. The number without its last hexadecimal digit
-- is the group and the last digit the member, so that a group has at most sixteen members; there may be more than 256 kinds. The kinds
-- are declared in src/kind.rt, a variant a group.
use Rattle.std.specs.Prelude.{ℕ, ◌+◌, ◌*◌, Bool, ◌&&◌, eqb}
use Rattle.opcodes.specs.declared.kind.Kind.{Kind}
use Rattle.opcodes.specs.declared.kind.Kind.TheVariants.{Stops, Prebyte, ShortBranch, LongBranch, WithA, WithB, WithWord, Store, InMemory, InA, InB, Registers, Product, Stack, Control, Address, Choose, Move, LookUp, Bits}
use Rattle.opcodes.specs.declared.kind.Stopping.{Stopping}
use Rattle.opcodes.specs.declared.kind.Stopping.TheVariants.{Bgnd, Mem, Rtc, Wavr, Call, Rev, Revw, Wav, Stop}
use Rattle.opcodes.specs.declared.kind.Condition.{Condition}
use Rattle.opcodes.specs.declared.kind.Condition.TheVariants.{Ra, Rn, Hi, Ls, Cc, Cs, Ne, Eq, Vc, Vs, Pl, Mi, Ge, Lt, Gt, Le}
use Rattle.opcodes.specs.declared.kind.ByteOp.{ByteOp}
use Rattle.opcodes.specs.declared.kind.ByteOp.TheVariants.{Sub, Cmp, Sbc, And, Bit, Ld, Eor, Adc, Or, Add}
use Rattle.opcodes.specs.declared.kind.WordOp.{WordOp}
use Rattle.opcodes.specs.declared.kind.WordOp.TheVariants.{Subd, Addd, Cpd, Cpy, Cpx, Cps, Ldd, Ldy, Ldx, Lds}
use Rattle.opcodes.specs.declared.kind.StoreOp.{StoreOp}
use Rattle.opcodes.specs.declared.kind.StoreOp.TheVariants.{Staa, Stab, Std, Sty, Stx, Sts}
use Rattle.opcodes.specs.declared.kind.Change.{Change}
use Rattle.opcodes.specs.declared.kind.Change.TheVariants.{Neg, Com, Inc, Dec, Lsr, Rol, Ror, Asr, Asl, Clr, Tst}
use Rattle.opcodes.specs.declared.kind.RegisterOp.{RegisterOp}
use Rattle.opcodes.specs.declared.kind.RegisterOp.TheVariants.{Lsrd, Asld, Inx, Iny, Dex, Dey, Aba, Sba, Cba, Daa, Tab, Tba, Andcc, Orcc, TfrExg, Nop}
use Rattle.opcodes.specs.declared.kind.ProductOp.{ProductOp}
use Rattle.opcodes.specs.declared.kind.ProductOp.TheVariants.{Mul, Emul, Emuls, Emacs, Ediv, Edivs, Idiv, Idivs, Fdiv}
use Rattle.opcodes.specs.declared.kind.StackOp.{StackOp}
use Rattle.opcodes.specs.declared.kind.StackOp.TheVariants.{Pulx, Puly, Pula, Pulb, Pshx, Pshy, Psha, Pshb, Pulc, Pshc, Puld, Pshd}
use Rattle.opcodes.specs.declared.kind.ControlOp.{ControlOp}
use Rattle.opcodes.specs.declared.kind.ControlOp.TheVariants.{Bsr, Rts, Rti, Swi, Trap, Wai, Loop}
use Rattle.opcodes.specs.declared.kind.AddressOp.{AddressOp}
use Rattle.opcodes.specs.declared.kind.AddressOp.TheVariants.{Leay, Leax, Leas, Jmp, Jsr}
use Rattle.opcodes.specs.declared.kind.Choice.{Choice}
use Rattle.opcodes.specs.declared.kind.Choice.TheVariants.{Maxa, Mina, Emaxd, Emind, Maxm, Minm, Emaxm, Eminm}
use Rattle.opcodes.specs.declared.kind.MoveOp.{MoveOp}
use Rattle.opcodes.specs.declared.kind.MoveOp.TheVariants.{Movb, Movw}
use Rattle.opcodes.specs.declared.kind.Lookup.{Lookup}
use Rattle.opcodes.specs.declared.kind.Lookup.TheVariants.{Tbl, Etbl}
use Rattle.opcodes.specs.declared.kind.BitOp.{BitOp}
use Rattle.opcodes.specs.declared.kind.BitOp.TheVariants.{Bset, Bclr, Brset, Brclr}

-- the members of each set, as the last digit of their numbers
abbrev pub stopping_number : Stopping → ℕ
stopping_number Bgnd = 0x0
stopping_number Mem = 0x1
stopping_number Rtc = 0x2
stopping_number Wavr = 0x3
stopping_number Call = 0x4
stopping_number Rev = 0x5
stopping_number Revw = 0x6
stopping_number Wav = 0x7
stopping_number Stop = 0x8

abbrev pub condition_number : Condition → ℕ
condition_number Ra = 0x0
condition_number Rn = 0x1
condition_number Hi = 0x2
condition_number Ls = 0x3
condition_number Cc = 0x4
condition_number Cs = 0x5
condition_number Ne = 0x6
condition_number Eq = 0x7
condition_number Vc = 0x8
condition_number Vs = 0x9
condition_number Pl = 0xA
condition_number Mi = 0xB
condition_number Ge = 0xC
condition_number Lt = 0xD
condition_number Gt = 0xE
condition_number Le = 0xF

abbrev pub byte_number : ByteOp → ℕ
byte_number Sub = 0x0
byte_number Cmp = 0x1
byte_number Sbc = 0x2
byte_number And = 0x4
byte_number Bit = 0x5
byte_number Ld = 0x6
byte_number Eor = 0x8
byte_number Adc = 0x9
byte_number Or = 0xA
byte_number Add = 0xB

abbrev pub word_number : WordOp → ℕ
word_number Subd = 0x0
word_number Addd = 0x1
word_number Cpd = 0x2
word_number Cpy = 0x3
word_number Cpx = 0x4
word_number Cps = 0x5
word_number Ldd = 0x6
word_number Ldy = 0x7
word_number Ldx = 0x8
word_number Lds = 0x9

abbrev pub store_number : StoreOp → ℕ
store_number Staa = 0xA
store_number Stab = 0xB
store_number Std = 0xC
store_number Sty = 0xD
store_number Stx = 0xE
store_number Sts = 0xF

abbrev pub change_number : Change → ℕ
change_number Neg = 0x0
change_number Com = 0x1
change_number Inc = 0x2
change_number Dec = 0x3
change_number Lsr = 0x4
change_number Rol = 0x5
change_number Ror = 0x6
change_number Asr = 0x7
change_number Asl = 0x8
change_number Clr = 0x9
change_number Tst = 0xA

abbrev pub register_number : RegisterOp → ℕ
register_number Lsrd = 0x0
register_number Asld = 0x1
register_number Inx = 0x2
register_number Iny = 0x3
register_number Dex = 0x4
register_number Dey = 0x5
register_number Aba = 0x6
register_number Sba = 0x7
register_number Cba = 0x8
register_number Daa = 0x9
register_number Tab = 0xA
register_number Tba = 0xB
register_number Andcc = 0xC
register_number Orcc = 0xD
register_number TfrExg = 0xE
register_number Nop = 0xF

abbrev pub product_number : ProductOp → ℕ
product_number Mul = 0x0
product_number Emul = 0x1
product_number Emuls = 0x2
product_number Emacs = 0x3
product_number Ediv = 0x4
product_number Edivs = 0x5
product_number Idiv = 0x6
product_number Idivs = 0x7
product_number Fdiv = 0x8

abbrev pub stack_number : StackOp → ℕ
stack_number Pulx = 0x0
stack_number Puly = 0x1
stack_number Pula = 0x2
stack_number Pulb = 0x3
stack_number Pshx = 0x4
stack_number Pshy = 0x5
stack_number Psha = 0x6
stack_number Pshb = 0x7
stack_number Pulc = 0x8
stack_number Pshc = 0x9
stack_number Puld = 0xA
stack_number Pshd = 0xB

abbrev pub control_number : ControlOp → ℕ
control_number Bsr = 0x0
control_number Rts = 0x1
control_number Rti = 0x2
control_number Swi = 0x3
control_number Trap = 0x4
control_number Wai = 0x5
control_number Loop = 0x6

abbrev pub address_number : AddressOp → ℕ
address_number Leay = 0x0
address_number Leax = 0x1
address_number Leas = 0x2
address_number Jmp = 0x3
address_number Jsr = 0x4

abbrev pub choice_number : Choice → ℕ
choice_number Maxa = 0x0
choice_number Mina = 0x1
choice_number Emaxd = 0x2
choice_number Emind = 0x3
choice_number Maxm = 0x4
choice_number Minm = 0x5
choice_number Emaxm = 0x6
choice_number Eminm = 0x7

abbrev pub move_number : MoveOp → ℕ
move_number Movb = 0x0
move_number Movw = 0x1

abbrev pub lookup_number : Lookup → ℕ
lookup_number Tbl = 0x0
lookup_number Etbl = 0x1

abbrev pub bit_number : BitOp → ℕ
bit_number Bset = 0x0
bit_number Bclr = 0x1
bit_number Brset = 0x2
bit_number Brclr = 0x3

-- the group of a kind
abbrev pub group_of : Kind → ℕ
group_of (Stops k) = 0x0
group_of Prebyte = 0x0
group_of (ShortBranch k) = 0x1
group_of (LongBranch k) = 0x2
group_of (WithA k) = 0x3
group_of (WithB k) = 0x4
group_of (WithWord k) = 0x5
group_of (Store k) = 0x6
group_of (InMemory k) = 0x7
group_of (InA k) = 0x8
group_of (InB k) = 0x9
group_of (Registers k) = 0xA
group_of (Product k) = 0xB
group_of (Stack k) = 0xC
group_of (Control k) = 0xD
group_of (Address k) = 0xE
group_of (Choose k) = 0xF
group_of (Move k) = 0x10
group_of (LookUp k) = 0x11
group_of (Bits k) = 0x12

-- and the member
abbrev pub member_of : Kind → ℕ
member_of (Stops k) = stopping_number k
member_of Prebyte = 0x9
member_of (ShortBranch k) = condition_number k
member_of (LongBranch k) = condition_number k
member_of (WithA k) = byte_number k
member_of (WithB k) = byte_number k
member_of (WithWord k) = word_number k
member_of (Store k) = store_number k
member_of (InMemory k) = change_number k
member_of (InA k) = change_number k
member_of (InB k) = change_number k
member_of (Registers k) = register_number k
member_of (Product k) = product_number k
member_of (Stack k) = stack_number k
member_of (Control k) = control_number k
member_of (Address k) = address_number k
member_of (Choose k) = choice_number k
member_of (Move k) = move_number k
member_of (LookUp k) = lookup_number k
member_of (Bits k) = bit_number k

-- the number of a kind
abbrev pub kind_number : Kind → ℕ
kind_number kind = group_of kind * 16 + member_of kind

-- whether two kinds are the same member of the same group
abbrev pub same : Kind → Kind → Bool
same a b = eqb (group_of a) (group_of b) && eqb (member_of a) (member_of b)

-- what stops the machine (the ten encodings of docs/MACHINE.md, "The machine"; CALL has two), and the prebyte
abbrev pub BGND : Kind
BGND = Stops Bgnd

abbrev pub MEM : Kind
MEM = Stops Mem

abbrev pub RTC : Kind
RTC = Stops Rtc

abbrev pub wavr : Kind
wavr = Stops Wavr

abbrev pub CALL : Kind
CALL = Stops Call

abbrev pub REV : Kind
REV = Stops Rev

abbrev pub REVW : Kind
REVW = Stops Revw

abbrev pub WAV : Kind
WAV = Stops Wav

abbrev pub STOP : Kind
STOP = Stops Stop

abbrev pub PAGE2 : Kind
PAGE2 = Prebyte

-- short branches, in the order of opcodes 20 to 2F
abbrev pub BRA : Kind
BRA = ShortBranch Ra

abbrev pub BRN : Kind
BRN = ShortBranch Rn

abbrev pub BHI : Kind
BHI = ShortBranch Hi

abbrev pub BLS : Kind
BLS = ShortBranch Ls

abbrev pub BCC : Kind
BCC = ShortBranch Cc

abbrev pub BCS : Kind
BCS = ShortBranch Cs

abbrev pub BNE : Kind
BNE = ShortBranch Ne

abbrev pub BEQ : Kind
BEQ = ShortBranch Eq

abbrev pub BVC : Kind
BVC = ShortBranch Vc

abbrev pub BVS : Kind
BVS = ShortBranch Vs

abbrev pub BPL : Kind
BPL = ShortBranch Pl

abbrev pub BMI : Kind
BMI = ShortBranch Mi

abbrev pub BGE : Kind
BGE = ShortBranch Ge

abbrev pub BLT : Kind
BLT = ShortBranch Lt

abbrev pub BGT : Kind
BGT = ShortBranch Gt

abbrev pub BLE : Kind
BLE = ShortBranch Le

-- long branches, in the order of page 2's 20 to 2F
abbrev pub LBRA : Kind
LBRA = LongBranch Ra

abbrev pub LBRN : Kind
LBRN = LongBranch Rn

abbrev pub LBHI : Kind
LBHI = LongBranch Hi

abbrev pub LBLS : Kind
LBLS = LongBranch Ls

abbrev pub LBCC : Kind
LBCC = LongBranch Cc

abbrev pub LBCS : Kind
LBCS = LongBranch Cs

abbrev pub LBNE : Kind
LBNE = LongBranch Ne

abbrev pub LBEQ : Kind
LBEQ = LongBranch Eq

abbrev pub LBVC : Kind
LBVC = LongBranch Vc

abbrev pub LBVS : Kind
LBVS = LongBranch Vs

abbrev pub LBPL : Kind
LBPL = LongBranch Pl

abbrev pub LBMI : Kind
LBMI = LongBranch Mi

abbrev pub LBGE : Kind
LBGE = LongBranch Ge

abbrev pub LBLT : Kind
LBLT = LongBranch Lt

abbrev pub LBGT : Kind
LBGT = LongBranch Gt

abbrev pub LBLE : Kind
LBLE = LongBranch Le

-- A with an operand, by the opcode's second digit
abbrev pub SUBA : Kind
SUBA = WithA Sub

abbrev pub CMPA : Kind
CMPA = WithA Cmp

abbrev pub SBCA : Kind
SBCA = WithA Sbc

abbrev pub ANDA : Kind
ANDA = WithA And

abbrev pub BITA : Kind
BITA = WithA Bit

abbrev pub LDAA : Kind
LDAA = WithA Ld

abbrev pub EORA : Kind
EORA = WithA Eor

abbrev pub ADCA : Kind
ADCA = WithA Adc

abbrev pub ORAA : Kind
ORAA = WithA Or

abbrev pub ADDA : Kind
ADDA = WithA Add

-- B with an operand, by the opcode's second digit
abbrev pub SUBB : Kind
SUBB = WithB Sub

abbrev pub CMPB : Kind
CMPB = WithB Cmp

abbrev pub SBCB : Kind
SBCB = WithB Sbc

abbrev pub ANDB : Kind
ANDB = WithB And

abbrev pub BITB : Kind
BITB = WithB Bit

abbrev pub LDAB : Kind
LDAB = WithB Ld

abbrev pub EORB : Kind
EORB = WithB Eor

abbrev pub ADCB : Kind
ADCB = WithB Adc

abbrev pub ORAB : Kind
ORAB = WithB Or

abbrev pub ADDB : Kind
ADDB = WithB Add

-- D, X, Y or SP with an operand
abbrev pub SUBD : Kind
SUBD = WithWord Subd

abbrev pub ADDD : Kind
ADDD = WithWord Addd

abbrev pub CPD : Kind
CPD = WithWord Cpd

abbrev pub CPY : Kind
CPY = WithWord Cpy

abbrev pub CPX : Kind
CPX = WithWord Cpx

abbrev pub CPS : Kind
CPS = WithWord Cps

abbrev pub LDD : Kind
LDD = WithWord Ldd

abbrev pub LDY : Kind
LDY = WithWord Ldy

abbrev pub LDX : Kind
LDX = WithWord Ldx

abbrev pub LDS : Kind
LDS = WithWord Lds

-- stores, by the opcode's second digit
abbrev pub STAA : Kind
STAA = Store Staa

abbrev pub STAB : Kind
STAB = Store Stab

abbrev pub STD : Kind
STD = Store Std

abbrev pub STY : Kind
STY = Store Sty

abbrev pub STX : Kind
STX = Store Stx

abbrev pub STS : Kind
STS = Store Sts

-- a byte of memory is read, changed and written back; cleared; tested
abbrev pub NEG : Kind
NEG = InMemory Neg

abbrev pub COM : Kind
COM = InMemory Com

abbrev pub INC : Kind
INC = InMemory Inc

abbrev pub DEC : Kind
DEC = InMemory Dec

abbrev pub LSR : Kind
LSR = InMemory Lsr

abbrev pub ROL : Kind
ROL = InMemory Rol

abbrev pub ROR : Kind
ROR = InMemory Ror

abbrev pub ASR : Kind
ASR = InMemory Asr

abbrev pub ASL : Kind
ASL = InMemory Asl

abbrev pub CLR : Kind
CLR = InMemory Clr

abbrev pub TST : Kind
TST = InMemory Tst

-- the same in A
abbrev pub NEGA : Kind
NEGA = InA Neg

abbrev pub COMA : Kind
COMA = InA Com

abbrev pub INCA : Kind
INCA = InA Inc

abbrev pub DECA : Kind
DECA = InA Dec

abbrev pub LSRA : Kind
LSRA = InA Lsr

abbrev pub ROLA : Kind
ROLA = InA Rol

abbrev pub RORA : Kind
RORA = InA Ror

abbrev pub ASRA : Kind
ASRA = InA Asr

abbrev pub ASLA : Kind
ASLA = InA Asl

abbrev pub CLRA : Kind
CLRA = InA Clr

abbrev pub TSTA : Kind
TSTA = InA Tst

-- the same in B
abbrev pub NEGB : Kind
NEGB = InB Neg

abbrev pub COMB : Kind
COMB = InB Com

abbrev pub INCB : Kind
INCB = InB Inc

abbrev pub DECB : Kind
DECB = InB Dec

abbrev pub LSRB : Kind
LSRB = InB Lsr

abbrev pub ROLB : Kind
ROLB = InB Rol

abbrev pub RORB : Kind
RORB = InB Ror

abbrev pub ASRB : Kind
ASRB = InB Asr

abbrev pub ASLB : Kind
ASLB = InB Asl

abbrev pub CLRB : Kind
CLRB = InB Clr

abbrev pub TSTB : Kind
TSTB = InB Tst

-- registers and condition codes alone
abbrev pub LSRD : Kind
LSRD = Registers Lsrd

abbrev pub ASLD : Kind
ASLD = Registers Asld

abbrev pub INX : Kind
INX = Registers Inx

abbrev pub INY : Kind
INY = Registers Iny

abbrev pub DEX : Kind
DEX = Registers Dex

abbrev pub DEY : Kind
DEY = Registers Dey

abbrev pub ABA : Kind
ABA = Registers Aba

abbrev pub SBA : Kind
SBA = Registers Sba

abbrev pub CBA : Kind
CBA = Registers Cba

abbrev pub DAA : Kind
DAA = Registers Daa

abbrev pub TAB : Kind
TAB = Registers Tab

abbrev pub TBA : Kind
TBA = Registers Tba

abbrev pub ANDCC : Kind
ANDCC = Registers Andcc

abbrev pub ORCC : Kind
ORCC = Registers Orcc

abbrev pub TFR/EXG : Kind
TFR/EXG = Registers TfrExg

abbrev pub NOP : Kind
NOP = Registers Nop

-- products and quotients
abbrev pub MUL : Kind
MUL = Product Mul

abbrev pub EMUL : Kind
EMUL = Product Emul

abbrev pub EMULS : Kind
EMULS = Product Emuls

abbrev pub EMACS : Kind
EMACS = Product Emacs

abbrev pub EDIV : Kind
EDIV = Product Ediv

abbrev pub EDIVS : Kind
EDIVS = Product Edivs

abbrev pub IDIV : Kind
IDIV = Product Idiv

abbrev pub IDIVS : Kind
IDIVS = Product Idivs

abbrev pub FDIV : Kind
FDIV = Product Fdiv

-- pulls and pushes
abbrev pub PULX : Kind
PULX = Stack Pulx

abbrev pub PULY : Kind
PULY = Stack Puly

abbrev pub PULA : Kind
PULA = Stack Pula

abbrev pub PULB : Kind
PULB = Stack Pulb

abbrev pub PSHX : Kind
PSHX = Stack Pshx

abbrev pub PSHY : Kind
PSHY = Stack Pshy

abbrev pub PSHA : Kind
PSHA = Stack Psha

abbrev pub PSHB : Kind
PSHB = Stack Pshb

abbrev pub PULC : Kind
PULC = Stack Pulc

abbrev pub PSHC : Kind
PSHC = Stack Pshc

abbrev pub PULD : Kind
PULD = Stack Puld

abbrev pub PSHD : Kind
PSHD = Stack Pshd

-- subroutines, interrupts and loops: what changes the flow and has no operand in memory
abbrev pub BSR : Kind
BSR = Control Bsr

abbrev pub RTS : Kind
RTS = Control Rts

abbrev pub RTI : Kind
RTI = Control Rti

abbrev pub SWI : Kind
SWI = Control Swi

abbrev pub TRAP : Kind
TRAP = Control Trap

abbrev pub WAI : Kind
WAI = Control Wai

abbrev pub LOOP : Kind
LOOP = Control Loop

-- what takes the operand's address alone
abbrev pub LEAY : Kind
LEAY = Address Leay

abbrev pub LEAX : Kind
LEAX = Address Leax

abbrev pub LEAS : Kind
LEAS = Address Leas

abbrev pub JMP : Kind
JMP = Address Jmp

abbrev pub JSR : Kind
JSR = Address Jsr

-- the larger or smaller of two
abbrev pub MAXA : Kind
MAXA = Choose Maxa

abbrev pub MINA : Kind
MINA = Choose Mina

abbrev pub EMAXD : Kind
EMAXD = Choose Emaxd

abbrev pub EMIND : Kind
EMIND = Choose Emind

abbrev pub MAXM : Kind
MAXM = Choose Maxm

abbrev pub MINM : Kind
MINM = Choose Minm

abbrev pub EMAXM : Kind
EMAXM = Choose Emaxm

abbrev pub EMINM : Kind
EMINM = Choose Eminm

-- moves
abbrev pub MOVB : Kind
MOVB = Move Movb

abbrev pub MOVW : Kind
MOVW = Move Movw

-- table lookup
abbrev pub TBL : Kind
TBL = LookUp Tbl

abbrev pub ETBL : Kind
ETBL = LookUp Etbl

-- bits of memory: changed, or tested for a branch
abbrev pub BSET : Kind
BSET = Bits Bset

abbrev pub BCLR : Kind
BCLR = Bits Bclr

abbrev pub BRSET : Kind
BRSET = Bits Brset

abbrev pub BRCLR : Kind
BRCLR = Bits Brclr

-- the groups, each by the first of its kinds
abbrev pub STOPS : ℕ
STOPS = group_of BGND

abbrev pub SHORT_BRANCHES : ℕ
SHORT_BRANCHES = group_of BRA

abbrev pub LONG_BRANCHES : ℕ
LONG_BRANCHES = group_of LBRA

abbrev pub WITH_A : ℕ
WITH_A = group_of SUBA

abbrev pub WITH_B : ℕ
WITH_B = group_of SUBB

abbrev pub WITH_WORD : ℕ
WITH_WORD = group_of SUBD

abbrev pub STORES : ℕ
STORES = group_of STAA

abbrev pub IN_MEMORY : ℕ
IN_MEMORY = group_of NEG

abbrev pub IN_A : ℕ
IN_A = group_of NEGA

abbrev pub IN_B : ℕ
IN_B = group_of NEGB

abbrev pub REGISTERS : ℕ
REGISTERS = group_of LSRD

abbrev pub PRODUCTS : ℕ
PRODUCTS = group_of MUL

abbrev pub STACK : ℕ
STACK = group_of PULX

abbrev pub CONTROL : ℕ
CONTROL = group_of BSR

abbrev pub ADDRESSES : ℕ
ADDRESSES = group_of LEAY

abbrev pub CHOICES : ℕ
CHOICES = group_of MAXA

abbrev pub MOVES : ℕ
MOVES = group_of MOVB

abbrev pub LOOKUPS : ℕ
LOOKUPS = group_of TBL

abbrev pub BITS : ℕ
BITS = group_of BSET
