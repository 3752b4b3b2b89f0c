-- An image is a memory of 65,536 bytes, so that a step over it is not refused. Assumes nothing.
use Prim.Native.Nat.{ℕ, ◌+◌, ◌≤◌}
use native.Mathlib.Omega.{arith}
use mathlib.Core.Path.{◌≡◌}
use mathlib.Core.Bool.{Bool, ◌&&◌}
use mathlib.Core.List.{List, [], ◌∷◌}
use lib.Dec.{T, leb, leb→le}
use lib.ListN.{length, length-append, length-replicate}
use Rattle.word.proofs.Table.{and_left, and_right}
use Rattle.machine.specs.Names.{memory_size}
use Rattle.witness.specs.Image.{Piece, image_from, image}

-- the pieces from an address on stand by rising address, apart, and within the memory
abbrev pub in_order : ℕ → List Piece → Bool
in_order a [] = leb a memory_size
in_order a (p ∷ ps) = leb a p.at && in_order (p.at + length p.bytes) ps

from_there : (a : ℕ) (ps : List Piece) → T (in_order a ps) → a + length (image_from a ps) ≡ memory_size
from_there a [] t = simp length-replicate (omega (arith, leb→le a memory_size t))
from_there a (p ∷ ps) t =
    let next = p.at + length p.bytes in
    let rising : a ≤ p.at = leb→le _ _ (and_left (leb a p.at) (in_order next ps) t) in
    let rest : next + length (image_from next ps) ≡ memory_size
    = from_there next ps (and_right (leb a p.at) (in_order next ps) t) in
    simp (length-append, length-replicate) (omega (arith, rising, rest))

pub whole_memory : (ps : List Piece) → T (in_order 0 ps) → length (image ps) ≡ memory_size
whole_memory ps t = omega (arith, from_there 0 ps t)
