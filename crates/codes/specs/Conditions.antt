-- The condition code register under instructions that take a whole byte into it, and the branch conditions, from the glossary of source
-- document 002 (section 6.6).
use Rattle.std.specs.Prelude.{◌≡◌, ℕ, Bool, true, false, not, ◌||◌, List, [], ◌∷◌, bit_and, bit_or, slice_index_or}
use Rattle.state.specs.declared.Flags.{Flags}
use Rattle.results.specs.Results.{exclusive_or}
use Rattle.state.specs.Ccr.{ccr_of, flags_of, take_ccr}

-- ANDCC (p. 6-18): (CCR) · (Mask); and CLC (6-54), CLI (6-55) and CLV (6-59), which are ANDCC with a mask
abbrev pub andcc_of : Flags → ℕ → Flags
andcc_of f mask = take_ccr f (bit_and (ccr_of f) mask)

-- ORCC (p. 6-153): (CCR) + (M). "The X interrupt mask cannot be set by any software instruction". And SEC (6-182), SEI (6-183) and
-- SEV (6-184), which are ORCC with a mask
abbrev pub orcc_of : Flags → ℕ → Flags
orcc_of f mask = take_ccr f (bit_or (ccr_of f) mask)

-- N ⊕ V
abbrev pub sign_wrong : Flags → Bool
sign_wrong f = exclusive_or f.n f.v

-- The branch conditions in the order of their codes, which are the members of the branches' groups and the low digits of the opcodes 20
-- to 2F: each page's "If ..", that the formula is 1, or `not` of it where the page says that it is 0. BHS is BCC and BLO is BCS. The long
-- branches, each beside its short one, have the same.
abbrev pub conditions : Flags → List Bool
conditions f =
    true  -- BRA (p. 6-44), LBRA (6-118): always
    ∷ false  -- BRN (p. 6-46), LBRN (6-119): never
    ∷ not (f.c || f.z)  -- BHI (p. 6-33), LBHI (6-109): C + Z = 0
    ∷ (f.c || f.z)  -- BLS (p. 6-39), LBLS (6-113): C + Z = 1
    ∷ not f.c  -- BCC (p. 6-26), LBCC (6-104), BHS (6-34), LBHS (6-110): C = 0
    ∷ f.c  -- BCS (p. 6-28), LBCS (6-105), BLO (6-38), LBLO (6-112): C = 1
    ∷ not f.z  -- BNE (p. 6-42), LBNE (6-116): Z = 0
    ∷ f.z  -- BEQ (p. 6-29), LBEQ (6-106): Z = 1
    ∷ not f.v  -- BVC (p. 6-50), LBVC (6-120): V = 0
    ∷ f.v  -- BVS (p. 6-51), LBVS (6-121): V = 1
    ∷ not f.n  -- BPL (p. 6-43), LBPL (6-117): N = 0
    ∷ f.n  -- BMI (p. 6-41), LBMI (6-115): N = 1
    ∷ not (sign_wrong f)  -- BGE (p. 6-30), LBGE (6-107): N ⊕ V = 0
    ∷ sign_wrong f  -- BLT (p. 6-40), LBLT (6-114): N ⊕ V = 1
    ∷ not (f.z || sign_wrong f)  -- BGT (p. 6-32), LBGT (6-108): Z + (N ⊕ V) = 0
    ∷ (f.z || sign_wrong f)  -- BLE (p. 6-37), LBLE (6-111): Z + (N ⊕ V) = 1
    ∷ []

-- the condition of a code; a code past 15 is none, and never branches
abbrev pub condition_of : Flags → ℕ → Bool
condition_of f code = slice_index_or (conditions f) code false

-- The laws, each proved under the same name in proofs/Laws.antt.

-- neither ANDCC nor ORCC turns X from 0 to 1
abbrev pub AndccKeepsX : Type 0
AndccKeepsX = (f : Flags) (mask : ℕ) → (andcc_of f mask).x ≡ true → f.x ≡ true

abbrev pub OrccKeepsX : Type 0
OrccKeepsX = (f : Flags) (mask : ℕ) → (orcc_of f mask).x ≡ true → f.x ≡ true

-- row 7 of docs/MACHINE.md: ORCC #FF on CCR 00 gives BF
abbrev pub RowSeven : Type 0
RowSeven = ccr_of (orcc_of (flags_of 0) 255) ≡ 191
