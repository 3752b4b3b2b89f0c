use mathlib.Core.Path.{◌∙◌, ap}
use mathlib.Core.Logic.{inl, inr}
use Rattle.state.specs.declared.State.{State}
use Rattle.opcodes.specs.declared.kind.Kind.TheVariants.{ShortBranch, LongBranch}
use Rattle.opcodes.specs.Kind.{group_of}
use Rattle.opcodes.specs.Postbyte.{untaken_of}
use Rattle.decode.proofs.Laws.{stop_fetched}
use Rattle.execute8.specs.Bytes.{in_a_effect, in_b_effect}
use Rattle.products.specs.Products.{product_effect}
use Rattle.stack.specs.Stack.{stack_effect}
use Rattle.flow.specs.Branches.{short_branched, short_effect, long_branched, long_effect}
use Rattle.turn.specs.Turn.{executed, instructed}
use Rattle.turn.proofs.Laws.{bare_done}
use Rattle.turn.proofs.at_pc.Goals as goal

pub returns-in-Stops : goal.returns-in-Stops
unfolding instructed
returns-in-Stops c =
    rw (stop_fetched _ _ _ c.opcode_at-opcode.ensures (elim c.in-Stops.is [ inl w ↦ ap group_of w.1 | inr e ↦ ap group_of e ]))

pub returns-in-ShortBranch : goal.returns-in-ShortBranch
unfolding executed short_effect untaken_of
returns-in-ShortBranch c =
    rw (
      bare_done _ _ _ c.opcode_at-opcode.ensures (rw c.in-ShortBranch.is),
      c.short_branch.ensures ∙ ap (λ (z : State). short_branched z (ShortBranch c.in-ShortBranch.condition) c.read_byte.result c.opcode_at-opcode.result.cell.cost 1) c.past.ensures,
      c.read_byte.ensures,
      c.in-ShortBranch.is,
    )

pub returns-in-LongBranch : goal.returns-in-LongBranch
unfolding executed long_effect untaken_of
returns-in-LongBranch c =
    rw (
      bare_done _ _ _ c.opcode_at-opcode.ensures (rw c.in-LongBranch.is),
      c.long_branch.ensures ∙ ap (λ (z : State). long_branched z (LongBranch c.in-LongBranch.condition) c.read_word.result c.opcode_at-opcode.result.cell.cost 3) c.past-in-LongBranch.ensures,
      c.read_word.ensures,
      c.in-LongBranch.is,
    )

pub returns-in-InA : goal.returns-in-InA
unfolding executed in_a_effect
returns-in-InA c =
    rw (
      bare_done _ _ _ c.opcode_at-opcode.ensures (rw c.in-InA.is),
      c.in_accumulator.ensures,
      c.past-in-InA.ensures,
      c.in-InA.is,
    )

pub returns-in-InB : goal.returns-in-InB
unfolding executed in_b_effect
returns-in-InB c =
    rw (
      bare_done _ _ _ c.opcode_at-opcode.ensures (rw c.in-InB.is),
      c.in_accumulator-in-InB.ensures,
      c.past-in-InB.ensures,
      c.in-InB.is,
    )

pub returns-in-Product : goal.returns-in-Product
unfolding executed product_effect
returns-in-Product c =
    rw (
      bare_done _ _ _ c.opcode_at-opcode.ensures (rw c.in-Product.is),
      c.products.ensures,
      c.past-in-Product.ensures,
      c.in-Product.is,
    )

pub returns-in-Stack : goal.returns-in-Stack
unfolding executed stack_effect
returns-in-Stack c =
    rw (
      bare_done _ _ _ c.opcode_at-opcode.ensures (rw c.in-Stack.is),
      c.stack.ensures,
      c.past-in-Stack.ensures,
      c.in-Stack.is,
    )
