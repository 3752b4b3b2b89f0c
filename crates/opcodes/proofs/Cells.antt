-- The laws of the table, each by one test over all 512 cells. Assumes nothing.
use Prim.Native.Nat.{ℕ, zero, suc, ◌+◌, ◌-◌, ◌/◌, ◌%◌, ◌<◌, ◌≤◌}
use mathlib.Core.Path.{◌≡◌, refl, sym, ◌∙◌, ap}
use mathlib.Core.Bool.{Bool, true, false, ◌&&◌, not}
use mathlib.Core.List.{List, [], ◌∷◌}
use native.Mathlib.Omega.{arith}
use lib.Dec.{T, leb, ltb, eqb, eqb→eq, leb→le}
use borrow.Author.Tests.{eq-eqb, lt-ltb, le-ltb}
use lib.ListN.{length, get_or, replicate, get_or-replicate, get_or-eq_default, get_or-map}
use native.Mathlib.Decide.{dec_lt}
use Rattle.word.specs.Word.{pick}
use Rattle.word.proofs.Table.{at_entry, at_number, every_below, all, holds, same as agree, same_is}
use Rattle.opcodes.specs.declared.Cell.{Cell}
use Rattle.opcodes.specs.Kind.{BGND, RTI, TRAP, PAGE2, TFR/EXG, LOOP, group_of, kind_number, same, STOPS, MOVES}
use Rattle.opcodes.specs.Mode.{mode_number, IM, ID}
use Rattle.opcodes.specs.Grid.{families, family_of, family_number, grid, grid_at}
use Rattle.opcodes.specs.Map.{Lines, no_row, page_one, page_two, cell_is, cell_in, cell_of, cell_number, cells_from, opcode_map}
use Rattle.opcodes.specs.Postbyte.{IDX, form_of, extension_of, indexed_of, form_reserved, reserved_of, length_in, length_of, cost_in, cost_of, untaken_of}
use Rattle.opcodes.specs.Rules.{stops_of, stop_cell, trap_cell, prebyte_cell, runs, regular, column, moves_mode, widths, Sixteens, SixteenBySixteen, CostsByOpcode, EveryCell, EveryInstruction, MovesHaveTwoPlaces, MovesArePlain, PastIdMoves, plain_group, PlainUnindexed, FirstGroupStops, OneRti}
use Rattle.opcodes.proofs.Postbytes.{one_of_five}

-- entry i of n cells from cell k on
cells_at : (n k i : ℕ) (d : Cell) → i < n → get_or (cells_from n k) i d ≡ cell_of (k + i)
cells_at zero k i d h = absurd (omega (arith, h))
cells_at (suc n) k zero d h = ap cell_of (omega arith)
cells_at (suc n) k (suc i) d h = cells_at n (suc k) i d (omega (arith, h)) ∙ ap cell_of (omega arith)

-- the map has the cell of each number
pub map_at : (k : ℕ) (d : Cell) → k < 512 → get_or opcode_map k d ≡ cell_of k
unfolding opcode_map
map_at k d h = cells_at 512 0 k d h ∙ ap cell_of (omega arith)

pub cell_number_below : (second : Bool) {opcode : ℕ} → opcode < 256 → cell_number second opcode < 512
cell_number_below true h = omega arith
cell_number_below false h = omega arith

-- past the last row, and past the last column, the grid has nothing
pub past_rows : (family column : ℕ) → 18 ≤ family → grid_at family column ≡ 0
unfolding grid_at grid
past_rows family column h = rw (get_or-eq_default grid [] h)

pub past_columns : (family column : ℕ) → 8 ≤ column → grid_at family column ≡ 0
unfolding grid_at grid
past_columns family column h = go (dec_lt family 18)
  where
    go : Dec (family < 18) → grid_at family column ≡ 0
    go (yes b) =
        let wide : length (get_or grid family []) ≡ 8 = eqb→eq _ _ (at_entry (λ k r. eqb (length r) 8) [] grid tt family b) in
        get_or-eq_default (get_or grid family []) 0 (omega arith)
    go (no n) = past_rows family column (omega arith)

-- the rules of a cell, as tests
rules : ℕ → List Bool
rules k =
    let c = cell_of k in
    agree (same c.kind TRAP) (trap_cell k)
    ∷ agree (stops_of c) (stop_cell k)
    ∷ agree (same c.kind PAGE2) (prebyte_cell k)
    ∷ leb 1 c.length
    ∷ leb c.length 6
    ∷ leb c.cost 13
    ∷ pick (regular c) (eqb c.cost (grid_at (family_number c.family) (column c))) true
    ∷ pick (eqb (group_of c.kind) MOVES) (moves_mode c.mode) true
    ∷ pick (ltb (mode_number ID) (mode_number c.mode)) (eqb (group_of c.kind) MOVES) true
    ∷ pick (plain_group (group_of c.kind)) (not (indexed_of c)) true
    ∷ pick (prebyte_cell k) true (pick (eqb (group_of c.kind) STOPS) (stops_of c) true)
    ∷ pick (same c.kind RTI) (eqb k 0x0B) true
    ∷ []

-- the one test over the whole table
tested : (k : ℕ) → k < 512 → T (all (rules k))
unfolding rules cell_of page_one page_two family_of families grid_at grid
tested k h = at_number (λ k. all (rules k)) 512 tt k h

pub every_cell : EveryCell
unfolding rules
every_cell k h =
    let pass = holds (rules k) (tested k h) in
    record {
      traps = same_is (same (cell_of k).kind TRAP) (trap_cell k) (pass 0);
      stops = same_is (stops_of (cell_of k)) (stop_cell k) (pass 1);
      prebyte = same_is (same (cell_of k).kind PAGE2) (prebyte_cell k) (pass 2);
      length_low = leb→le 1 (cell_of k).length (pass 3);
      length_high = leb→le (cell_of k).length 6 (pass 4);
      bound = leb→le (cell_of k).cost 13 (pass 5);
      priced = λ r. eqb→eq _ _ (rw r at (pass 6));
    }

-- a form that the cell does not have
missing : Cell → ℕ → Bool
missing c j = pick (indexed_of c) (eqb (grid_at (family_number c.family) (3 + j)) 0) false

-- a test that is asked only of cells that run, in the forms that they have
asked : ℕ → ℕ → Bool → Bool
asked k j t = pick (runs k) (pick (missing (cell_of k) j) true t) true

bounds : ℕ → ℕ → List Bool
bounds k j =
    let c = cell_of k in
    asked k j (leb 1 (cost_in c j))
    ∷ asked k j (leb (cost_in c j) 13)
    ∷ asked k j (pick (indexed_of c) true (leb 1 (untaken_of c)))
    ∷ asked k j (leb (untaken_of c) 13)
    ∷ asked k j (leb 1 (length_in c j))
    ∷ asked k j (leb (length_in c j) 6)
    ∷ pick (indexed_of c) (not (same c.kind TFR/EXG) && not (same c.kind LOOP)) true
    ∷ pick (missing c j) true (pick (ltb (mode_number ID) (mode_number c.mode)) (eqb j IDX) true)
    ∷ []

-- the one test over every cell in every form
bounded : (k j : ℕ) → k < 512 → j < 5 → T (all (bounds k j))
unfolding bounds asked missing cell_of page_one page_two family_of families grid_at grid extension_of untaken_of
bounded k j h i = at_number (λ j. all (bounds k j)) 5 (at_number (λ k. every_below (λ j. all (bounds k j)) 5) 512 tt k h) j i

-- what a test says, of a cell that runs and in a form that it has
said : (k j : ℕ) (t : Bool) → runs k ≡ true → missing (cell_of k) j ≡ false → T (asked k j t) → T t
unfolding asked
said k j t r m a = rw (r, m) at a

-- an indexed cell is no transfer and no loop, so what is reserved in it is a form
form_alone : (x a b t l f : Bool) → T (pick x (not a && not b) true) → pick a t (pick b l (pick x f false)) ≡ false → pick x f false ≡ false
form_alone false a b t l f h r = refl
form_alone true false false t l f h r = r
form_alone true false true t l f h r = absurd h
form_alone true true b t l f h r = absurd h

-- a postbyte that is not reserved has a form that the cell has
not_missing : (k postbyte : ℕ) → k < 512 → reserved_of (cell_of k) postbyte ≡ false → missing (cell_of k) (form_of postbyte) ≡ false
unfolding missing reserved_of bounds
not_missing k postbyte h r =
    let c = cell_of k in
    let j = form_of postbyte in
    form_alone (indexed_of c) (same c.kind TFR/EXG) (same c.kind LOOP) _ _ (form_reserved c postbyte)
    (holds (bounds k j) (bounded k j h (one_of_five postbyte)) 6)
    r

pub every_instruction : EveryInstruction
unfolding bounds cost_of length_of
every_instruction k p h i r n =
    let j = form_of p in
    let pass = holds (bounds k j) (bounded k j h (one_of_five p)) in
    let m = not_missing k p h n in
    record {
      cost_low = leb→le 1 _ (said k j _ r m (pass 0));
      cost_high = leb→le _ 13 (said k j _ r m (pass 1));
      untaken_low = λ e. leb→le 1 _ (rw e at (said k j _ r m (pass 2)));
      untaken_high = leb→le _ 13 (said k j _ r m (pass 3));
      length_low = leb→le 1 _ (said k j _ r m (pass 4));
      length_high = leb→le _ 6 (said k j _ r m (pass 5));
    }

pub sixteen_by_sixteen : SixteenBySixteen
unfolding page_one page_two
sixteen_by_sixteen = (refl, refl)

-- the widths of the lines of one row
row_widths : (page : List Lines) → Sixteens page → (k : ℕ) → k < 16 → widths (get_or page k no_row) ≡ replicate 4 16
row_widths page wide k h =
    sym (get_or-map widths page k no_row)
    ∙ ap (λ (l : List (List ℕ)). get_or l k (widths no_row)) wide
    ∙ get_or-replicate 16 k (replicate 4 16) (widths no_row) h

past_line : {A : Type 0} (line : List A) (d : A) (opcode : ℕ) → length line ≡ 16 → 256 ≤ opcode → get_or line (opcode / 16) d ≡ d
past_line line d opcode wide h = get_or-eq_default line d (omega (arith, wide, h))

-- past the last cell there is none
past_page : (opcode : ℕ) → 256 ≤ opcode → cell_in page_two opcode ≡ cell_is BGND IM 0 0
past_page opcode h =
    let r = get_or page_two (opcode % 16) no_row in
    let wide = row_widths page_two sixteen_by_sixteen.1 (opcode % 16) (omega arith) in
    let width : (k : ℕ) → get_or (widths r) k 0 ≡ get_or (replicate 4 16) k 0 = λ k. ap (λ (l : List ℕ). get_or l k 0) wide in
    rw (past_line _ _ _ (width 0) h, past_line _ _ _ (width 1) h, past_line _ _ _ (width 2) h, past_line _ _ _ (width 3) h)

past_cells : (k : ℕ) → 512 ≤ k → cell_of k ≡ cell_is BGND IM 0 0
unfolding cell_of
past_cells k h = rw (le-ltb k 256 (omega arith)) (past_page (k - 256) (omega arith))

pub moves_have_two_places : MovesHaveTwoPlaces
unfolding rules
moves_have_two_places k is = go (dec_lt k 512)
  where
    go : Dec (k < 512) → moves_mode (cell_of k).mode ≡ true
    go (yes h) = sym (same_is true _ (rw (eq-eqb _ _ is) at (holds (rules k) (tested k h) 7)))
    go (no n) = let none = rw (past_cells k (omega arith)) at is in absurd (omega (arith, none))

pub moves_are_plain : MovesArePlain
unfolding bounds
moves_are_plain k p past free = go (dec_lt k 512)
  where
    go : Dec (k < 512) → form_of p ≡ IDX
    go (yes h) =
        let j = form_of p in
        eqb→eq _ _ (rw (not_missing k p h free, lt-ltb _ _ past) at (holds (bounds k j) (bounded k j h (one_of_five p)) 7))
    go (no n) = let none = rw (past_cells k (omega arith)) at past in absurd (omega (arith, none))

pub past_id_moves : PastIdMoves
unfolding rules
past_id_moves k past = go (dec_lt k 512)
  where
    go : Dec (k < 512) → group_of (cell_of k).kind ≡ MOVES
    go (yes h) = eqb→eq _ _ (rw (lt-ltb _ _ past) at (holds (rules k) (tested k h) 8))
    go (no n) = let none = rw (past_cells k (omega arith)) at past in absurd (omega (arith, none))

pub plain_unindexed : PlainUnindexed
unfolding rules
plain_unindexed k is = go (dec_lt k 512)
  where
    go : Dec (k < 512) → indexed_of (cell_of k) ≡ false
    go (yes h) = sym (same_is false _ (rw is at (holds (rules k) (tested k h) 9)))
    go (no n) = rw (past_cells k (omega arith))

pub first_group_stops : FirstGroupStops
unfolding rules
first_group_stops k free is = go (dec_lt k 512)
  where
    go : Dec (k < 512) → stops_of (cell_of k) ≡ true
    go (yes h) = sym (same_is true _ (rw (free, eq-eqb _ _ is) at (holds (rules k) (tested k h) 10)))
    go (no n) = rw (past_cells k (omega arith))

pub one_rti : OneRti
unfolding rules
one_rti k is = go (dec_lt k 512)
  where
    go : Dec (k < 512) → k ≡ 0x0B
    go (yes h) = eqb→eq _ _ (rw is at (holds (rules k) (tested k h) 11))
    go (no n) = let none : kind_number BGND ≡ kind_number RTI = ap kind_number (rw (past_cells k (omega arith)) at is) in absurd (omega (arith, none))

pub costs_by_opcode : CostsByOpcode
unfolding cell_of
costs_by_opcode = refl
