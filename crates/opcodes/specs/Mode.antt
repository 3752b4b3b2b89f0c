-- The opcode map's abbreviations of the addressing modes (source document 003, table A-2; source document 002, p. A-20).
-- The first three are numbered as the grid's columns, and those with an indexed postbyte come last.
use Rattle.std.specs.Prelude.{ℕ}
use Rattle.opcodes.specs.declared.mode.Mode.{Mode}
use Rattle.opcodes.specs.declared.mode.Mode.TheVariants.{Im, Di, Ex, Ih, Rl, Sp, ImEx, ExEx, Id, ImId, ExId, IdId, IdEx}

-- the number of a mode
abbrev pub mode_number : Mode → ℕ
mode_number Im = 0
mode_number Di = 1
mode_number Ex = 2
mode_number Ih = 3
mode_number Rl = 4
mode_number Sp = 5
mode_number ImEx = 6
mode_number ExEx = 7
mode_number Id = 8
mode_number ImId = 9
mode_number ExId = 10
mode_number IdId = 11
mode_number IdEx = 12

-- immediate
abbrev pub IM : Mode
IM = Im

-- direct
abbrev pub DI : Mode
DI = Di

-- extended
abbrev pub EX : Mode
EX = Ex

-- inherent
abbrev pub IH : Mode
IH = Ih

-- relative
abbrev pub RL : Mode
RL = Rl

-- special
abbrev pub SP : Mode
SP = Sp

-- the moves: the source, then the destination
abbrev pub IM_EX : Mode
IM_EX = ImEx

abbrev pub EX_EX : Mode
EX_EX = ExEx

-- indexed
abbrev pub ID : Mode
ID = Id

abbrev pub IM_ID : Mode
IM_ID = ImId

abbrev pub EX_ID : Mode
EX_ID = ExId

abbrev pub ID_ID : Mode
ID_ID = IdId

abbrev pub ID_EX : Mode
ID_EX = IdEx
