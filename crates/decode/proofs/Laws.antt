-- What is fetched has read what stands in the memory. On the definitions alone. Assumes nothing.
use Prim.Native.Nat.{ℕ, ◌+◌, ◌<◌}
use native.Mathlib.Nat.{add-zero}
use native.Mathlib.Decide.{dec_lt}
use native.Mathlib.Omega.{arith}
use mathlib.Core.Path.{◌≡◌, refl, sym, ap, ◌∙◌}
use mathlib.Core.Bool.{Bool, true, false, ◌&&◌, ◌||◌, true≢false}
use lib.Dec.{eqb}
use mathlib.Core.List.{List}
use Rattle.std.specs.Prelude.{Result, Ok, Err}
use Rattle.std.proofs.Math.Bool.{or-false}
use borrow.Author.Tests.{eq-eqb, ne_eqb, lt-leb}
use Rattle.word.specs.Word.{pick, plus_w}
use Rattle.word.proofs.Laws.{neither}
use Rattle.memory.specs.Memory.{byte_at}
use Rattle.opcodes.specs.declared.Cell.{Cell}
use Rattle.opcodes.specs.declared.kind.Kind.{Kind}
use Rattle.opcodes.specs.Kind.{TFR/EXG, LOOP, group_of, kind_number, same, STOPS, REGISTERS, CONTROL, MOVES}
use Rattle.opcodes.specs.Mode.{mode_number, ID, ID_ID}
use Rattle.opcodes.specs.Postbyte.{IDX, form_of, indexed_of, transfer_reserved, loop_reserved, form_reserved, reserved_of, cost_of}
use Rattle.opcodes.proofs.Cells.{moves_have_two_places, moves_are_plain, past_id_moves, plain_unindexed, first_group_stops}
use Rattle.opcodes.specs.Rules.{stops_of, plain_group}
use Rattle.opcodes.specs.Map.{cell_of}
use Rattle.decode.specs.declared.Opcode.{Opcode}
use Rattle.decode.specs.declared.Decoded.{Decoded}
use Rattle.decode.specs.declared.Halt.{Halt}
use Rattle.decode.specs.declared.Halt.TheVariants.{Stopped, Reserved}
use Rattle.decode.specs.Decode.{on_page_two, cell_at, after_opcode, opcode_at, reserved_at, decoded_of, plain_of, fetched_of, Faithful, FetchedFaithfully, StopFetched, BareFetched, RegistersFetched, ControlFetched, OperandFetched, FetchedKind, HaltsAsFetched}

-- a property of the instruction that was fetched, if one was
Of : (Decoded → Type 0) → Result Decoded Halt → Type 0
Of P (Err halt) = Unit
Of P (Ok d) = P d

pub fetched_faithfully : FetchedFaithfully
unfolding fetched_of Of
fetched_faithfully m pc d is =
    rw is at (go (stops_of (cell_at m pc)) (reserved_at m (cell_at m pc) (after_opcode m pc)) refl)
  where
    at : ℕ
    at = after_opcode m pc

    plain : (p : ℕ) → mode_number ID < mode_number (cell_at m pc).mode → reserved_of (cell_at m pc) p ≡ false → form_of p ≡ IDX
    plain = moves_are_plain _

    go :
        (st rs : Bool) → reserved_at m (cell_at m pc) at ≡ rs →
        Of (Faithful m) (pick st (Err Stopped) (pick rs (Err Reserved) (Ok (decoded_of m pc (cell_at m pc) at))))
    go true rs e = tt
    go false true e = tt
    go false false e =
        let free = neither (reserved_of (cell_at m pc) (byte_at m at)) _ e in
        record {
          postbyte = refl;
          moves = moves_have_two_places _;
          first = λ past. plain (byte_at m at) past free.0;
          second = λ two. plain (byte_at m (plus_w at 1)) (omega (arith, ap mode_number two)) (rw (eq-eqb _ _ (ap mode_number two)) at free.1);
        }

-- the parts of an opcode
abbrev pub cell_of_lem : Opcode → Cell
cell_of_lem o = o.cell

abbrev pub at_of : Opcode → ℕ
at_of o = o.at

-- the prebyte leads to the second page, so it is no opcode of its own
pub stop_fetched : StopFetched
unfolding fetched_of
stop_fetched m pc o is group = go (on_page_two m pc) refl
  where
    stops : (k : ℕ) → cell_at m pc ≡ cell_of k → eqb k 0x18 ≡ false → stops_of (cell_at m pc) ≡ true
    stops k at other =
        rw at (first_group_stops k other (rw (← at, ← (ap cell_of_lem is)) group))

    go : (second : Bool) → on_page_two m pc ≡ second → fetched_of m pc ≡ Err Stopped
    go true e = rw (stops (256 + byte_at m (plus_w pc 1)) (rw e) (ne_eqb (256 + byte_at m (plus_w pc 1)) 0x18 (λ q. omega (arith, q))))
    go false e = rw (stops (byte_at m pc) (rw e) e)

-- what does not belong to the first group does not stop
runs : (c : Cell) → (group_of c.kind ≡ STOPS → ⊥) → stops_of c ≡ false
runs c other = go (dec_lt 8 (kind_number c.kind))
  where
    go : Dec (8 < kind_number c.kind) → stops_of c ≡ false
    go (yes h) = lt-leb _ _ h
    go (no n) = absurd (other (omega arith))

-- what runs and has at most one postbyte
one_postbyte :
    (m : List ℕ) (pc : ℕ) (o : Opcode) →
    o ≡ opcode_at m pc →
    stops_of o.cell ≡ false →
    eqb (mode_number o.cell.mode) (mode_number ID_ID) ≡ false →
    fetched_of m pc
    ≡ pick (reserved_of o.cell (byte_at m o.at)) (Err Reserved) (Ok (decoded_of m pc o.cell o.at))
unfolding fetched_of
one_postbyte m pc o is run one =
    rw (← (ap cell_of_lem is), ← (ap at_of is), run, one, or-false (reserved_of o.cell (byte_at m o.at)))

-- which is so where the group is none of the first and of the moves
outside :
    (m : List ℕ) (pc : ℕ) (o : Opcode) →
    o ≡ opcode_at m pc →
    (group_of o.cell.kind ≡ STOPS → ⊥) →
    (group_of o.cell.kind ≡ MOVES → ⊥) →
    fetched_of m pc
    ≡ pick (reserved_of o.cell (byte_at m o.at)) (Err Reserved) (Ok (decoded_of m pc o.cell o.at))
outside m pc o is first moves = one_postbyte m pc o is (runs o.cell first) (ne_eqb _ _ two)
  where
    two : mode_number o.cell.mode ≡ mode_number ID_ID → ⊥
    two e =
        let past : mode_number ID < mode_number o.cell.mode = omega (arith, e) in
        moves (rw (ap cell_of_lem is) (past_id_moves _ (rw (ap cell_of_lem is) at past)))

-- kinds of two groups are two
ne_same : (a b : Kind) → (group_of a ≡ group_of b → ⊥) → same a b ≡ false
ne_same a b other = rw (ne_eqb _ _ other)

-- and of a plain group
plain :
    (m : List ℕ) (pc : ℕ) (o : Opcode) →
    o ≡ opcode_at m pc →
    plain_group (group_of o.cell.kind) ≡ true →
    fetched_of m pc
    ≡ pick
    (pick (same o.cell.kind TFR/EXG) (transfer_reserved (byte_at m o.at))
    (pick (same o.cell.kind LOOP) (loop_reserved (byte_at m o.at)) false))
    (Err Reserved)
    (Ok (plain_of m pc o))
unfolding reserved_of cost_of
plain m pc o is group =
    let unindexed : indexed_of o.cell ≡ false = rw (ap cell_of_lem is) (plain_unindexed _ (rw (ap cell_of_lem is) at group)) in
    outside m pc o is (λ e. true≢false (sym (rw e at group))) (λ e. true≢false (sym (rw e at group)))
    ∙ rw (unindexed, add-zero o.cell.length)

-- of two tests the second is asked where the first holds
if_both : (a b : Bool) → pick a b false ≡ (a && b)
if_both true b = refl
if_both false b = refl

pub bare_fetched : BareFetched
bare_fetched m pc o is group =
    plain m pc o is (either (eqb (group_of o.cell.kind) REGISTERS) (eqb (group_of o.cell.kind) CONTROL) _ group)
    ∙ rw (
      ne_same o.cell.kind TFR/EXG (λ e. true≢false (sym (rw e at group))),
      ne_same o.cell.kind LOOP (λ e. true≢false (sym (rw e at group))),
    )
  where
    either : (a b c : Bool) → c ≡ true → (a || (b || c)) ≡ true
    either true b c t = refl
    either false true c t = refl
    either false false c t = t

pub registers_fetched : RegistersFetched
registers_fetched m pc o is group =
    plain m pc o is (rw group)
    ∙ rw (
      ne_same o.cell.kind LOOP (λ e. omega (arith, rw e at group)),
      if_both (same o.cell.kind TFR/EXG) (transfer_reserved (byte_at m o.at)),
    )

pub control_fetched : ControlFetched
control_fetched m pc o is group =
    plain m pc o is (rw group)
    ∙ rw (
      ne_same o.cell.kind TFR/EXG (λ e. omega (arith, rw e at group)),
      if_both (same o.cell.kind LOOP) (loop_reserved (byte_at m o.at)),
    )

pub operand_fetched : OperandFetched
unfolding reserved_of
operand_fetched m pc o is group =
    outside m pc o is (λ e. true≢false (rw e at group)) (λ e. true≢false (rw e at group))
    ∙ rw (
      ne_same o.cell.kind TFR/EXG (λ e. true≢false (rw e at group)),
      ne_same o.cell.kind LOOP (λ e. true≢false (rw e at group)),
      if_both (indexed_of o.cell) (form_reserved o.cell (byte_at m o.at)),
    )

pub halts_as_fetched : HaltsAsFetched
halts_as_fetched Stopped = refl
halts_as_fetched Reserved = refl

pub fetched_kind : FetchedKind
unfolding fetched_of Of
fetched_kind m pc d is = rw is at (go (stops_of (cell_at m pc)) (reserved_at m (cell_at m pc) (after_opcode m pc)))
  where
    go :
        (st rs : Bool) →
        Of (λ d. d.kind ≡ (cell_at m pc).kind)
        (pick st (Err Stopped) (pick rs (Err Reserved) (Ok (decoded_of m pc (cell_at m pc) (after_opcode m pc)))))
    go true rs = tt
    go false true = tt
    go false false = refl
