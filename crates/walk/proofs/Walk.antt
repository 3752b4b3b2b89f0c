-- The one walk through every instruction: the list of the groups. It says which effects an instruction can give, and that it has the
-- same at every clock. On the definitions alone. Assumes nothing.
use Prim.Native.Nat.{ℕ}
use mathlib.Core.Path.{◌≡◌, refl}
use mathlib.Core.Bool.{Bool, true, false}
use mathlib.Core.List.{List}
use lib.Dec.{eqb}
use borrow.Author.Tests.{eqb-true}
use Rattle.word.specs.Word.{pick}
use Rattle.state.specs.declared.State.{State}
use Rattle.state.specs.Ccr.{set_i}
use Rattle.opcodes.specs.declared.kind.ControlOp.TheVariants.{Rti}
use Rattle.opcodes.specs.Kind.{RTI, SWI, TRAP, group_of, same, SHORT_BRANCHES, LONG_BRANCHES, WITH_A, WITH_B, WITH_WORD, STORES, IN_MEMORY, IN_A, IN_B}
use Rattle.opcodes.specs.Kind.{REGISTERS, PRODUCTS, STACK, CONTROL, ADDRESSES, CHOICES, MOVES, LOOKUPS}
use Rattle.decode.specs.declared.Decoded.{Decoded}
use Rattle.effect.specs.declared.Effect.{Effect}
use Rattle.turn.specs.Turn.{controlled, with_operand, executed}
use Rattle.walk.specs.Walk.{Before, before, EveryInstructionGives}
use Rattle.walk.specs.Walk.IsBranch.{short, long}
use Rattle.walk.proofs.Settings.{Yields, Yielding, start, if◌does◌else◌}
use Rattle.walk.proofs.Control.{same_control}
use Rattle.walk.proofs.Execute8.{with_a_lem, with_b_lem, in_memory, in_a_lem, in_b}
use Rattle.walk.proofs.Execute16.{with_word_operand, store, choose, registers, product, look_up}
use Rattle.walk.proofs.Flow.{stack, interrupt, short_branch, long_branch, control, rti, address, bits, move}

-- one of two effects, where the first leans on the test that picked it
infixr 0 if◌leans◌else◌
if◌leans◌else◌ :
    {b : Before} {c : ℕ} (t : Bool) {e e' f f' : Effect} →
    (t ≡ true → Yields b c e f) → Yields b c e' f' → Yields b c (pick t e e') (pick t f f')
if◌leans◌else◌ true first other = first refl
if◌leans◌else◌ false first other = other

module _ (s : State) (m : List ℕ) (line : ℕ) (d : Decoded) (c : ℕ) where
  abbrev b : Before
  b = before s m line d

  control_or_entry : Yielding b c s (λ z. controlled z m line d)
  unfolding controlled
  control_or_entry =
      if same d.kind SWI does interrupt start _ (set_i s.flags true) refl else
      if same d.kind TRAP does interrupt start _ (set_i s.flags true) refl else
      if same d.kind RTI leans (λ e. rti s m line d c (same_control d.kind Rti e)) else
      control s m line d c

  operand_taken : (group : ℕ) → Yielding b c s (λ z. with_operand group z m d)
  unfolding with_operand
  operand_taken group =
      if eqb group WITH_A does with_a_lem s m line d c else
      if eqb group WITH_B does with_b_lem s m line d c else
      if eqb group WITH_WORD does with_word_operand s m line d c else
      if eqb group STORES does store s m line d c else
      if eqb group IN_MEMORY does in_memory s m line d c else
      if eqb group ADDRESSES does address s m line d c else
      if eqb group CHOICES does choose s m line d c else
      if eqb group LOOKUPS does look_up s m line d c else
      bits s m line d c

  pub every_instruction : Yielding b c s (λ z. executed z m line d)
  unfolding executed
  every_instruction =
      let group = group_of d.kind in
      if eqb group SHORT_BRANCHES leans (λ e. short_branch s m line d c (short (eqb-true group SHORT_BRANCHES e))) else
      if eqb group LONG_BRANCHES leans (λ e. long_branch s m line d c (long (eqb-true group LONG_BRANCHES e))) else
      if eqb group IN_A does in_a_lem s m line d c else
      if eqb group IN_B does in_b s m line d c else
      if eqb group REGISTERS does registers s m line d c else
      if eqb group PRODUCTS does product s m line d c else
      if eqb group STACK does stack s m line d c else
      if eqb group CONTROL does control_or_entry else
      if eqb group MOVES does move s m line d c else
      operand_taken group

pub every_instruction_gives : EveryInstructionGives
every_instruction_gives s m line d = (every_instruction s m line d 0).gives
