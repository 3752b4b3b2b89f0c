-- The reply to what stands at PC, by its cases, and what stands there, by the group of its opcode. Assumes nothing.
use Prim.Native.Nat.{ℕ}
use mathlib.Core.Path.{◌≡◌, refl, sym, ◌∙◌, ap}
use mathlib.Core.Bool.{Bool, true, false, ◌&&◌, true≢false}
use mathlib.Core.List.{List}
use lib.Dec.{eqb}
use borrow.Author.Tests.{ne_eqb}
use Rattle.std.specs.Prelude.{Option, None, Some, Ok, Err}
use Rattle.word.specs.Word.{pick}
use Rattle.memory.specs.Memory.{byte_at}
use Rattle.state.specs.declared.State.{State}
use Rattle.opcodes.specs.Kind.{LOOP, TFR/EXG, group_of, same, SHORT_BRANCHES, LONG_BRANCHES, IN_A, IN_B, REGISTERS, PRODUCTS, STACK, CONTROL, MOVES}
use Rattle.opcodes.specs.Postbyte.{transfer_reserved, loop_reserved}
use Rattle.opcodes.specs.Rules.{bare_group, unplaced}
use Rattle.decode.specs.declared.Opcode.{Opcode}
use Rattle.decode.specs.declared.Halt.{Halt}
use Rattle.decode.specs.declared.Halt.TheVariants.{Stopped, Reserved}
use Rattle.decode.specs.Decode.{opcode_at, plain_of, fetched_of}
use Rattle.decode.proofs.Laws.{bare_fetched, registers_fetched, control_fetched, operand_fetched}
use Rattle.effect.specs.Effect.{quiet}
use Rattle.machine.specs.declared.Reply.TheVariants.{Done, ReservedPostbyte}
use Rattle.operand.specs.declared.Found.{Found}
use Rattle.operand.specs.Operand.{located_of}
use Rattle.execute8.specs.Bytes.{with_a_effect, with_b_effect, in_memory_effect}
use Rattle.execute16.specs.Words.{with_word_effect, store_effect, choose_effect}
use Rattle.execute16.specs.Lookups.{lookup_effect}
use Rattle.moves.specs.Addresses.{address_effect}
use Rattle.moves.specs.Bits.{bits_effect}
use Rattle.turn.specs.Turn.{with_operand, placed, PlacedFirst, executed, turn_is, ran_of, turn_from, instructed, RepliesAsFetched}

pub replies_as_fetched : RepliesAsFetched
unfolding instructed
replies_as_fetched s m line (Err Stopped) = refl
replies_as_fetched s m line (Err Reserved) = refl
replies_as_fetched s m line (Ok d) = refl

pub placed_first : PlacedFirst
unfolding with_operand placed with_a_effect with_b_effect with_word_effect store_effect in_memory_effect address_effect choose_effect lookup_effect bits_effect
placed_first group s m d = refl

-- what halts the machine is answered as it was fetched
pub halts : (s : State) (m : List ℕ) (line : ℕ) (h : Halt) → turn_from s (Err h) ≡ instructed s m line (Err h)
unfolding instructed
halts s m line Stopped = refl
halts s m line Reserved = refl

-- an instruction of a group without a postbyte that may be reserved
pub bare_done :
    (s : State) (m : List ℕ) (line : ℕ) {o : Opcode} →
    o ≡ opcode_at m s.pc →
    bare_group (group_of o.cell.kind) ≡ true →
    instructed s m line (fetched_of m s.pc) ≡ ran_of s m line (plain_of m s.pc o)
unfolding instructed
bare_done s m line {o} is bare = rw (bare_fetched m s.pc o is bare)

-- a transfer, and what else works on registers
pub registers_free :
    (m : List ℕ) (pc : ℕ) {o : Opcode} {p : ℕ} {chosen asked t : Bool} →
    o ≡ opcode_at m pc →
    group_of o.cell.kind ≡ REGISTERS →
    p ≡ byte_at m o.at →
    chosen ≡ same o.cell.kind TFR/EXG →
    asked ≡ transfer_reserved p →
    (chosen && asked) ≡ t →
    fetched_of m pc ≡ pick t (Err Reserved) (Ok (plain_of m pc o))
registers_free m pc {o} {t = t} is group read chose asks told =
    let answer : (same o.cell.kind TFR/EXG && transfer_reserved (byte_at m o.at)) ≡ t = rw (← read, ← asks, ← chose) told in
    registers_fetched m pc o is group ∙ rw answer

-- a loop primitive, and what else controls the flow
pub control_free :
    (m : List ℕ) (pc : ℕ) {o : Opcode} {p : ℕ} {chosen asked t : Bool} →
    o ≡ opcode_at m pc →
    group_of o.cell.kind ≡ CONTROL →
    p ≡ byte_at m o.at →
    chosen ≡ same o.cell.kind LOOP →
    asked ≡ loop_reserved p →
    (chosen && asked) ≡ t →
    fetched_of m pc ≡ pick t (Err Reserved) (Ok (plain_of m pc o))
control_free m pc {o} {t = t} is group read chose asks told =
    let answer : (same o.cell.kind LOOP && loop_reserved (byte_at m o.at)) ≡ t = rw (← read, ← asks, ← chose) told in
    control_fetched m pc o is group ∙ rw answer

-- a group is none of those that it is not among
other : (g k : ℕ) → unplaced g ≡ false → unplaced k ≡ true → eqb g k ≡ false
other g k out in-it = ne_eqb g k (λ e. true≢false (sym in-it ∙ (sym (ap unplaced e) ∙ out)))

-- what an option that is chosen by a test says of the test, and of its value
abbrev there_is : {A : Type 0} → Option A → Bool
there_is None = false
there_is (Some x) = true

abbrev value_or : {A : Type 0} → A → Option A → A
value_or d None = d
value_or d (Some x) = x

none_chosen : {A : Type 0} (t : Bool) (x : A) → None ≡ pick t None (Some x) → t ≡ true
none_chosen true x e = refl
none_chosen false x e = absurd (true≢false (sym (ap there_is e)))

some_chosen : {A : Type 0} (t : Bool) (x y : A) → Some y ≡ pick t None (Some x) → (t ≡ false) × (y ≡ x)
some_chosen true x y e = absurd (true≢false (ap there_is e))
some_chosen false x y e = (refl, ap (value_or y) e)

-- what is done with an operand, by what was found of it
pub operand_reserved :
    (s : State) (m : List ℕ) (line : ℕ) {o : Opcode} →
    o ≡ opcode_at m s.pc →
    unplaced (group_of o.cell.kind) ≡ false →
    None ≡ located_of s m o.cell o.at →
    instructed s m line (fetched_of m s.pc) ≡ turn_is ReservedPostbyte (quiet s 0)
unfolding instructed located_of
operand_reserved s m line {o} is out none = rw (operand_fetched m s.pc o is out, none_chosen _ _ none)

pub operand_done :
    (s : State) (m : List ℕ) (line : ℕ) {o : Opcode} {found : Found} →
    o ≡ opcode_at m s.pc →
    unplaced (group_of o.cell.kind) ≡ false →
    Some found ≡ located_of s m o.cell o.at →
    instructed s m line (fetched_of m s.pc) ≡ turn_is Done (placed (group_of o.cell.kind) found.place m o.cell.kind found.cost)
unfolding instructed located_of executed
operand_done s m line {o} is out located =
    let g = group_of o.cell.kind in
    let some = some_chosen _ _ _ located in
    rw (
      operand_fetched m s.pc o is out,
      some.0,
      some.1,
      other g SHORT_BRANCHES out refl,
      other g LONG_BRANCHES out refl,
      other g IN_A out refl,
      other g IN_B out refl,
      other g REGISTERS out refl,
      other g PRODUCTS out refl,
      other g STACK out refl,
      other g CONTROL out refl,
      other g MOVES out refl,
      placed_first,
    )
