-- The bench rows, by computation. Assumes nothing.
use Prim.Native.Nat.{ℕ, ◌≤◌}
use mathlib.Core.Path.{◌≡◌, refl, sym, subst}
use mathlib.Core.Bool.{Bool, true, false, ◌&&◌}
use mathlib.Core.List.{List, [], ◌∷◌}
use lib.Dec.{T, leb, leb→le}
use lib.ListN.{length}
use borrow.Author.Tests.{eq-eqb, le-ltb}
use Rattle.word.specs.Word.{pick}
use Rattle.word.proofs.Table.{and_left, and_right}
use Rattle.memory.specs.Memory.{lowest_bytes, store_all}
use Rattle.schedule.specs.Schedule.{rising_after, rising, any_withdrawn, in_force}
use Rattle.opcodes.specs.Grid.{grid, grid_at, families, family_of}
use Rattle.opcodes.specs.Map.{cell_of}
use Rattle.opcodes.specs.Postbyte.{form_of, extension_of, reserved_of, length_of, cost_of, untaken_of}
use Rattle.operand.specs.Indexed.{stepped_place, constant_place, indexed_place}
use Rattle.operand.specs.Operand.{operand_place}
use Rattle.decode.specs.Decode.{fetched_of}
use Rattle.execute8.specs.Bytes.{accumulated, changed, with_a_effect, in_a_effect}
use Rattle.execute16.specs.Words.{worded, with_word_effect}
use Rattle.execute16.specs.Registers.{first_registers, second_registers, registered, registers_effect}
use Rattle.products.specs.Products.{multiplied, product_effect}
use Rattle.flow.specs.Branches.{short_effect, long_effect}
use Rattle.frames.specs.Frames.{interrupt_effect}
use Rattle.moves.specs.Addresses.{addressed, address_effect}
use Rattle.machine.specs.Names.{memory_size, step_limit}
use Rattle.requests.specs.Requests.{allowed_line}
use Rattle.turn.specs.Turn.{controlled, with_operand, executed, instructed, turn_of}
use Rattle.state.specs.declared.State.{State}
use Rattle.steps.specs.End.{End}
use Rattle.steps.specs.Steps.{turn_end, goes_on}
use Rattle.run.specs.Step.{step_of}
use Rattle.run.specs.Run.{run_of}
use Rattle.witness.specs.Image.{bytes_at}
use Rattle.witness.specs.Bench.{BenchRow, Hold, code, step, bench_table, long_branches, BenchRows, MoreRows}
use Rattle.witness.proofs.Image.{in_order, whole_memory}

-- A step that is not refused is its turn. So said it computes sooner: the length of the memory is known by a law, not counted.
abbrev admitted : State → List ℕ → Bool
admitted s bytes = in_order 0 (bytes_at s.pc bytes ∷ []) && leb s.clock step_limit

abbrev turned : State → List ℕ → End
turned s bytes = pick (admitted s bytes) (turn_end s (code s bytes) 0) (step s bytes)

step_is_turned : (s : State) (bytes : List ℕ) → step s bytes ≡ turned s bytes
unfolding step_of
step_is_turned s bytes = go (admitted s bytes) refl
  where
    go : (b : Bool) → admitted s bytes ≡ b → step s bytes ≡ pick b (turn_end s (code s bytes) 0) (step s bytes)
    go false e = refl
    go true e =
        let pieces = bytes_at s.pc bytes ∷ [] in
        let fits = in_order 0 pieces in
        let near = leb s.clock step_limit in
        let t : T (admitted s bytes) = subst T (sym e) tt in
        let whole : length (code s bytes) ≡ memory_size = whole_memory pieces (and_left fits near t) in
        let early : s.clock ≤ step_limit = leb→le _ _ (and_right fits near t) in
        rw (eq-eqb _ _ whole, le-ltb _ _ early)

-- so rows hold of a step where they hold of it as its turn
by_turns : (rows : (State → List ℕ → End) → List BenchRow) → Hold (rows turned) → Hold (rows step)
by_turns rows h = subst Hold (λ i. rows (λ s bytes. sym (step_is_turned s bytes) i)) h

pub bench_rows : BenchRows
unfolding bench_table lowest_bytes store_all rising any_withdrawn in_force goes_on run_of turn_of allowed_line instructed fetched_of cell_of grid grid_at families
    family_of form_of extension_of reserved_of length_of cost_of untaken_of stepped_place constant_place indexed_place operand_place executed
    with_operand controlled accumulated changed with_a_effect in_a_effect first_registers second_registers registered registers_effect
    multiplied product_effect short_effect interrupt_effect addressed address_effect
bench_rows = by_turns bench_table refl

pub more_rows : MoreRows
unfolding long_branches lowest_bytes store_all rising rising_after any_withdrawn in_force goes_on step_of run_of turn_of allowed_line instructed fetched_of cell_of
    grid grid_at families family_of form_of extension_of reserved_of length_of cost_of untaken_of indexed_place operand_place executed with_operand
    first_registers second_registers registered registers_effect accumulated with_a_effect worded with_word_effect long_effect
more_rows =
    record {
      wrapped = refl;
      unspent = refl;
      spent = refl;
      sixty_four = refl;
      sixty_five = refl;
      long_branch = by_turns long_branches refl;
      stop = refl;
    }
