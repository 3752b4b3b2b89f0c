-- What the test for a kind of the control group says of a kind. On the definitions alone. Assumes nothing.
use Rattle.std.proofs.Common.{◌≡◌, true, false, refl, eqb-true, sym, ◌∙◌, ap, [], ◌∷◌, get_or}
use borrow.Author.Tests.{eqb-false}
use mathlib.Core.Bool.{false≢true}
use Rattle.opcodes.specs.declared.kind.Kind.{Kind}
use Rattle.opcodes.specs.declared.kind.Kind.TheVariants.{Stops, Prebyte, ShortBranch, LongBranch, WithA, WithB, WithWord, Store, InMemory, InA, InB, Registers, Product, Stack, Control, Address, Choose, Move, LookUp, Bits}
use Rattle.opcodes.specs.declared.kind.ControlOp.{ControlOp}
use Rattle.opcodes.specs.declared.kind.ControlOp.TheVariants.{Bsr, Rts, Rti, Swi, Trap, Wai, Loop}
use Rattle.opcodes.specs.Kind.{control_number, same}

-- a member of the group by its number
numbered : (op : ControlOp) → get_or (Bsr ∷ Rts ∷ Rti ∷ Swi ∷ Trap ∷ Wai ∷ Loop ∷ []) (control_number op) Bsr ≡ op
numbered Bsr = refl
numbered Rts = refl
numbered Rti = refl
numbered Swi = refl
numbered Trap = refl
numbered Wai = refl
numbered Loop = refl

-- it is that kind where it passes, and is not where it fails
pub same_control : (kind : Kind) (op : ControlOp) → same kind (Control op) ≡ true → kind ≡ Control op
same_control (Control k) op e =
    let at = ap (λ n. get_or (Bsr ∷ Rts ∷ Rti ∷ Swi ∷ Trap ∷ Wai ∷ Loop ∷ []) n Bsr) (eqb-true (control_number k) (control_number op) e) in
    ap Control (sym (numbered k) ∙ at ∙ numbered op)
same_control (Stops k) op e = absurd (false≢true e)
same_control Prebyte op e = absurd (false≢true e)
same_control (ShortBranch k) op e = absurd (false≢true e)
same_control (LongBranch k) op e = absurd (false≢true e)
same_control (WithA k) op e = absurd (false≢true e)
same_control (WithB k) op e = absurd (false≢true e)
same_control (WithWord k) op e = absurd (false≢true e)
same_control (Store k) op e = absurd (false≢true e)
same_control (InMemory k) op e = absurd (false≢true e)
same_control (InA k) op e = absurd (false≢true e)
same_control (InB k) op e = absurd (false≢true e)
same_control (Registers k) op e = absurd (false≢true e)
same_control (Product k) op e = absurd (false≢true e)
same_control (Stack k) op e = absurd (false≢true e)
same_control (Address k) op e = absurd (false≢true e)
same_control (Choose k) op e = absurd (false≢true e)
same_control (Move k) op e = absurd (false≢true e)
same_control (LookUp k) op e = absurd (false≢true e)
same_control (Bits k) op e = absurd (false≢true e)

pub not_control : (kind : Kind) (op : ControlOp) → same kind (Control op) ≡ false → kind ≡ Control op → ⊥
not_control kind op e is = eqb-false (control_number op) (control_number op) (rw is at e) refl
