-- TBL (p. 6-201) and ETBL (6-89), from their glossary pages in source document 002.
use Rattle.std.specs.Prelude.{◌≡◌, ℕ, ◌+◌, ◌-◌, ◌*◌, ◌/◌, ◌<◌, ◌==◌, nat_le}
use Rattle.word.specs.Word.{bit_of, pick}
use Rattle.state.specs.declared.Flags.{Flags}
use Rattle.state.specs.Ccr.{set_n, set_z}
use Rattle.results.specs.Results.{Byte, Word, byte_of, wide_of}

-- Y1 + [(B) × (Y2 - Y1)]: the product has its radix point between bits 7 and 8, and its integer part is added to Y1. Where the
-- table falls the product is below zero, and its integer part, rounded down too, takes away the magnitude rounded up. The sum lies
-- between the two entries, so that nothing of it is cut off.
abbrev pub lookup_of : ℕ → ℕ → ℕ → ℕ
lookup_of b y1 y2 =
    pick (nat_le y1 y2) (y1 + b * (y2 - y1) / 256)
    (y1 - (b * (y1 - y2) + 255) / 256)

-- N and Z from the result; V is not affected; C: undefined, and so as it was (docs/MACHINE.md, "Codes and undefined results")
abbrev pub lookup_codes : ℕ → Flags → ℕ → Flags
lookup_codes k f r = set_z (set_n f (bit_of k r)) (r == 0)

-- TBL (p. 6-201): two entries of a byte
abbrev pub tbl_byte : Flags → ℕ → ℕ → ℕ → Byte
tbl_byte f b y1 y2 = byte_of (lookup_of b y1 y2) (lookup_codes 7 f)

-- ETBL (p. 6-89): two entries of a word
abbrev pub etbl_word : Flags → ℕ → ℕ → ℕ → Word
etbl_word f b y1 y2 = wide_of (lookup_of b y1 y2) (lookup_codes 15 f)

-- The law, proved under the same name in proofs/Laws.antt.

-- both are one fraction, which is never below zero: Y1 less its share B, and the share B of Y2, cut once
abbrev pub OneFraction : Type 0
OneFraction = (b y1 y2 : ℕ) → b < 256 → lookup_of b y1 y2 ≡ (y1 * 256 + b * y2 - b * y1) / 256
