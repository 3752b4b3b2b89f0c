-- The memories that are computed with: 65,536 bytes, zero but for a few that stand at addresses.
use Rattle.std.specs.Prelude.{ℕ, ◌+◌, ◌-◌, List, [], ◌∷◌, ◌++◌, length, replicate}
use Rattle.machine.specs.Names.{memory_size}

-- bytes, and the address of the first
pub record Piece : Type 0 where
  pub at : ℕ
  pub bytes : List ℕ

abbrev pub bytes_at : ℕ → List ℕ → Piece
bytes_at a bytes = record { at = a; bytes = bytes }

-- what stands from an address on: zeros up to the next piece, its bytes, and so on; after the last piece zeros to the memory's end
abbrev pub image_from : ℕ → List Piece → List ℕ
image_from a [] = replicate (memory_size - a) 0
image_from a (p ∷ ps) = replicate (p.at - a) 0 ++ (p.bytes ++ image_from (p.at + length p.bytes) ps)

-- Pieces by rising address. Pieces in another order, over each other or past the memory's end make no memory of 65,536 bytes.
abbrev pub image : List Piece → List ℕ
image pieces = image_from 0 pieces
