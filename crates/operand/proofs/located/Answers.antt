-- As equations, so that another address for PC is refused by its difference (must-fail/pc_base_from_the_opcode.edit).
use Rattle.std.proofs.Common.{ℕ, ◌≡◌, Bool, true, false, ◌&&◌, eqb, refl}
use Rattle.word.specs.Word.{pick}
use Rattle.opcodes.specs.declared.mode.Mode.{Mode}
use Rattle.opcodes.specs.declared.mode.Mode.TheVariants.{Im, Di, Ex, Ih, Rl, Sp, ImEx, ExEx, Id, ImId, ExId, IdId, IdEx}
use Rattle.opcodes.specs.Mode.{mode_number}
use Rattle.opcodes.specs.Postbyte.{cost_of}
use Rattle.operand.specs.declared.Place.{Place}
use Rattle.operand.specs.Operand.{operand_place, located_of}
use Rattle.operand.proofs.located.Goals as goal

-- of a cell that has an indexed postbyte the cost is the grid's entry
entry_free :
    {asked : Bool} {cost : ℕ} (indexed : Bool) (entry own : ℕ) →
    asked ≡ indexed →
    cost ≡ pick indexed entry own →
    (asked && eqb cost 0) ≡ (indexed && eqb entry 0)
entry_free true entry own is paid = rw (is, paid)
entry_free false entry own is paid = rw is

-- what is none of the first three modes has its operand at the place that a postbyte names
named : (mode : Mode) → (mode ≡ Im → ⊥) → (mode ≡ Di → ⊥) → (mode ≡ Ex → ⊥) → (at byte word place : Place) →
    pick (eqb (mode_number mode) 0) at (pick (eqb (mode_number mode) 1) byte (pick (eqb (mode_number mode) 2) word place)) ≡ place
named Im im di ex at byte word place = absurd (im refl)
named Di im di ex at byte word place = absurd (di refl)
named Ex im di ex at byte word place = absurd (ex refl)
named Ih im di ex at byte word place = refl
named Rl im di ex at byte word place = refl
named Sp im di ex at byte word place = refl
named ImEx im di ex at byte word place = refl
named ExEx im di ex at byte word place = refl
named Id im di ex at byte word place = refl
named ImId im di ex at byte word place = refl
named ExId im di ex at byte word place = refl
named IdId im di ex at byte word place = refl
named IdEx im di ex at byte word place = refl

pub returns-in_default : goal.returns-in_default
unfolding located_of operand_place cost_of
returns-in_default c =
    rw (
      ← (entry_free _ _ _ c.indexed.ensures (rw (c.form_of-form.ensures, c.read_byte-postbyte.ensures) at c.full_cost-cost.ensures)),
      c.if-indexed-cost.false,
      c.found_is.ensures,
      c.indexed_place-place.ensures,
      c.with_pc.ensures,
      c.plus-after.ensures,
      c.full_length.ensures,
      c.full_cost-cost.ensures,
      c.form_of-form.ensures,
      c.read_byte-postbyte.ensures,
      named _ c.in_default.not-Im c.in_default.not-Di c.in_default.not-Ex,
    )
