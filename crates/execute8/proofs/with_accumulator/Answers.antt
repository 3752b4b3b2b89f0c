-- As equations, so that what starts from another register is refused by its difference (must-fail/b_works_on_a.edit).
use Rattle.std.proofs.Common.{ℕ, ◌≡◌, refl}
use Rattle.state.specs.declared.State.{State}
use Rattle.opcodes.specs.declared.kind.ByteOp.{ByteOp}
use Rattle.opcodes.specs.Kind.{byte_number}
use Rattle.effect.specs.Effect.{quiet}
use Rattle.execute8.specs.declared.Accumulator.{Accumulator}
use Rattle.execute8.specs.declared.Accumulator.TheVariants.{A, B}
use Rattle.execute8.specs.Bytes.{accumulated, accumulator_of, accumulator_result, accumulator_with}
use Rattle.execute8.proofs.with_accumulator.Goals as goal

-- A or B with an operand, by the register's name
named :
    (x : Accumulator) (s : State) (op : ByteOp) (v cost : ℕ) →
    quiet (accumulator_result x s (accumulated (byte_number op) s.flags (accumulator_of x s) v)) cost ≡ accumulator_with x s op v cost
named A s op v cost = refl
named B s op v cost = refl

pub returns : goal.returns
returns c =
    rw (c.quiet.ensures, c.result.ensures, c.accumulated-r.ensures, c.of.ensures) (named c.args.x _ _ _ _)
