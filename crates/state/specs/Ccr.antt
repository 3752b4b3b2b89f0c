-- The condition code register (source document 002, section 2.1.5, p. 2-3): S X H I N Z V C, from bit 7 to bit 0.
use Rattle.std.specs.Prelude.{ℕ, ◌+◌, ◌<◌, ◌≡◌, Bool, true, false, ◌&&◌}
use Rattle.word.specs.Word.{bit_of}
use Rattle.state.specs.declared.Flags.{Flags}

abbrev pub no_flags : Flags
no_flags = record { s = false; x = false; h = false; i = false; n = false; z = false; v = false; c = false }

-- S, the STOP disable bit
abbrev pub set_s : Flags → Bool → Flags
set_s f t = record { s = t; x = f.x; h = f.h; i = f.i; n = f.n; z = f.z; v = f.v; c = f.c }

-- X, the XIRQ mask
abbrev pub set_x : Flags → Bool → Flags
set_x f t = record { s = f.s; x = t; h = f.h; i = f.i; n = f.n; z = f.z; v = f.v; c = f.c }

-- H, the half carry
abbrev pub set_h : Flags → Bool → Flags
set_h f t = record { s = f.s; x = f.x; h = t; i = f.i; n = f.n; z = f.z; v = f.v; c = f.c }

-- I, the mask of the other requests
abbrev pub set_i : Flags → Bool → Flags
set_i f t = record { s = f.s; x = f.x; h = f.h; i = t; n = f.n; z = f.z; v = f.v; c = f.c }

-- N, negative
abbrev pub set_n : Flags → Bool → Flags
set_n f t = record { s = f.s; x = f.x; h = f.h; i = f.i; n = t; z = f.z; v = f.v; c = f.c }

-- Z, zero
abbrev pub set_z : Flags → Bool → Flags
set_z f t = record { s = f.s; x = f.x; h = f.h; i = f.i; n = f.n; z = t; v = f.v; c = f.c }

-- V, overflow
abbrev pub set_v : Flags → Bool → Flags
set_v f t = record { s = f.s; x = f.x; h = f.h; i = f.i; n = f.n; z = f.z; v = t; c = f.c }

-- C, carry or borrow
abbrev pub set_c : Flags → Bool → Flags
set_c f t = record { s = f.s; x = f.x; h = f.h; i = f.i; n = f.n; z = f.z; v = f.v; c = t }

-- what a flag adds to the byte
abbrev pub weight_of : Bool → ℕ → ℕ
weight_of true w = w
weight_of false w = 0

-- the byte of the flags
abbrev pub ccr_of : Flags → ℕ
ccr_of f = weight_of f.s 128 + weight_of f.x 64 + weight_of f.h 32 + weight_of f.i 16 + weight_of f.n 8 + weight_of f.z 4 + weight_of f.v 2 + weight_of f.c 1

-- the flags of a byte
abbrev pub flags_of : ℕ → Flags
flags_of b = record { s = bit_of 7 b; x = bit_of 6 b; h = bit_of 5 b; i = bit_of 4 b; n = bit_of 3 b; z = bit_of 2 b; v = bit_of 1 b; c = bit_of 0 b }

-- A byte taken into the flags by an instruction: the flags of the byte, but X is set only where it was set before
-- (docs/MACHINE.md, "Codes and undefined results"; source document 002, section 2.1.5.2, p. 2-3).
abbrev pub take_ccr : Flags → ℕ → Flags
take_ccr old b = set_x (flags_of b) (old.x && bit_of 6 b)

-- The laws, each proved under the same name in proofs/Laws.antt.

-- a byte, taken to flags and back
abbrev pub ByteAgain : Type 0
ByteAgain = (b : ℕ) → b < 256 → ccr_of (flags_of b) ≡ b

-- the flags, taken to a byte and back
abbrev pub FlagsAgain : Type 0
FlagsAgain = (f : Flags) → flags_of (ccr_of f) ≡ f

-- no byte that is taken turns X from 0 to 1
abbrev pub NeverSetsX : Type 0
NeverSetsX = (old : Flags) (b : ℕ) → (take_ccr old b).x ≡ true → old.x ≡ true
