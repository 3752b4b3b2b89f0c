-- The place that a postbyte names, by its bits and by its form. On the definitions alone. Assumes nothing.
use Prim.Native.Nat.{ℕ, zero, suc, ◌/◌, ◌%◌, ◌<◌}
use native.Mathlib.Omega.{arith}
use mathlib.Core.Path.{◌≡◌, refl, sym, ◌∙◌, ap}
use mathlib.Core.Bool.{Bool, true, false, not, ◌&&◌}
use mathlib.Core.List.{List}
use lib.Dec.{eqb}
use Rattle.word.specs.Word.{pick, bit_of}
use Rattle.memory.specs.Memory.{byte_at}
use Rattle.state.specs.declared.State.{State}
use Rattle.opcodes.specs.Postbyte.{form_of, IDX, IDX1, IDX2, [D:IDX], [IDX2]}
use Rattle.operand.specs.declared.Place.{Place}
use Rattle.operand.specs.Indexed.{five_place, stepped_place, nine_bits, sixteen_bits, through_sixteen, through_d}
use Rattle.operand.specs.Indexed.{plain_accumulator, constant_place, accumulator_place, indexed_place, place_in, ByItsForm, PlainByItsForm, AddsUnsigned, AmountsAsListed}

-- the two choices, each for any truth of the bits that they look at
agree :
    (b5 top b2 b1 b0 d : Bool) (five stepped plain pointer nine sixteen through : Place) →
    (let form = pick (not b5) IDX
    (pick (not top) IDX
    (pick (not b2) (pick (not b1) IDX1 (pick (not b0) IDX2 [IDX2])) (pick d [D:IDX] IDX))) in
    pick (b5 && not top) stepped
    (pick (eqb form IDX) (pick b5 plain five)
    (pick (eqb form IDX1) nine (pick (eqb form IDX2) sixteen (pick (eqb form [D:IDX]) pointer through)))))
    ≡ pick b5 (pick top (pick b2 (pick d pointer plain) (pick b1 (pick b0 through sixteen) nine)) stepped) five
agree false top b2 b1 b0 d five stepped plain pointer nine sixteen through = refl
agree true false b2 b1 b0 d five stepped plain pointer nine sixteen through = refl
agree true true false false b0 d five stepped plain pointer nine sixteen through = refl
agree true true false true false d five stepped plain pointer nine sixteen through = refl
agree true true false true true d five stepped plain pointer nine sixteen through = refl
agree true true true b1 b0 false five stepped plain pointer nine sixteen through = refl
agree true true true b1 b0 true five stepped plain pointer nine sixteen through = refl

-- of four numbers the fourth is asked first, and not last
fourth_first :
    (n : ℕ) → n < 4 → (a b d pointer : Place) →
    pick (eqb n 3) pointer (pick (eqb n 0) a (pick (eqb n 1) b d)) ≡ pick (eqb n 0) a (pick (eqb n 1) b (pick (eqb n 2) d pointer))
fourth_first zero h a b d pointer = refl
fourth_first (suc zero) h a b d pointer = refl
fourth_first (suc (suc zero)) h a b d pointer = refl
fourth_first (suc (suc (suc zero))) h a b d pointer = refl
fourth_first (suc (suc (suc (suc n)))) h a b d pointer = absurd (omega (arith, h))

pub by_its_form : ByItsForm
unfolding place_in indexed_place form_of constant_place accumulator_place
by_its_form s m at pc =
    let p = byte_at m at in
    agree (bit_of 5 p) (eqb (p / 64) 3) (bit_of 2 p) (bit_of 1 p) (bit_of 0 p) (eqb (p % 4) 3) (five_place s pc p) (stepped_place s p)
    (plain_accumulator s pc p) (through_d s m pc p) (nine_bits s m at pc p) (sixteen_bits s m at pc p) (through_sixteen s m at pc p)
    ∙ ap
    (λ (place : Place). pick (bit_of 5 p) (pick (eqb (p / 64) 3) (pick (bit_of 2 p) place (constant_place s m at pc p)) (stepped_place s p)) (five_place s pc p))
    (fourth_first (p % 4) (omega arith) _ _ _ _)

-- a place by the form of the postbyte that stands there is the place that it names
pub by_form :
    (s : State) (m : List ℕ) (at pc : ℕ) {p form : ℕ} {place : Place} →
    p ≡ byte_at m at →
    form ≡ form_of p →
    place ≡ place_in form s m at pc p →
    place ≡ indexed_place s m at pc
by_form s m at pc is named placed = placed ∙ rw (named, is) (by_its_form s m at pc)

pub plain_by_its_form : PlainByItsForm
unfolding place_in
plain_by_its_form s m at pc is = ap (λ form. place_in form s m at pc (byte_at m at)) (sym is) ∙ by_its_form s m at pc

pub adds_unsigned : AddsUnsigned
unfolding indexed_place accumulator_place
adds_unsigned s m at pc = (λ is. rw is, λ is. rw is, λ is. rw is)

pub amounts_as_listed : AmountsAsListed
amounts_as_listed = refl
