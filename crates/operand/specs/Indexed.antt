-- The effective address of an indexed operand, and the base register's update with it (docs/MACHINE.md, "Addresses"; source document
-- 002, section 3.8, pp. 3-5 to 3-10, and table A-5; 000, table 4).
use Rattle.std.specs.Prelude.{ℕ, ◌+◌, ◌-◌, ◌*◌, ◌/◌, ◌%◌, ◌≡◌, Bool, not, ◌&&◌, List, [], ◌∷◌, map, eqb, replicate}
use Rattle.word.specs.Word.{pick, bit_of, plus_w, extend9}
use Rattle.memory.specs.Memory.{byte_at, word_at}
use Rattle.state.specs.declared.State.{State}
use Rattle.state.specs.State.{with_x, with_y, with_sp, d_of}
use Rattle.opcodes.specs.Postbyte.{form_of, IDX, IDX1, IDX2, [D:IDX]}
use Rattle.operand.specs.declared.Place.{Place}
use Rattle.operand.specs.declared.Base.{Base}
use Rattle.operand.specs.declared.Base.TheVariants.{X, Y, Sp, Pc}

abbrev pub place_is : ℕ → State → Place
place_is address state = record { address = address; state = state }

-- the bits rr of a base register that the code names
abbrev pub base_number : Base → ℕ
base_number X = 0
base_number Y = 1
base_number Sp = 2
base_number Pc = 3

-- the base register of rr: X, Y, SP, and PC as whatever address stands for it
abbrev pub base_of : State → ℕ → ℕ → ℕ
base_of s pc rr = pick (eqb rr 0) s.x (pick (eqb rr 1) s.y (pick (eqb rr 2) s.sp pc))

-- the state with the base register of rr, which is not PC, set anew
abbrev pub with_base : State → ℕ → ℕ → State
with_base s rr v = pick (eqb rr 0) (with_x s v) (pick (eqb rr 1) (with_y s v) (with_sp s v))

-- nnnnn as a signed number of 5 bits: 16 to 31 stand for -16 to -1
abbrev pub offset5 : ℕ → ℕ
offset5 p = pick (bit_of 4 p) (p % 32 + 65504) (p % 32)

-- nnnn as the amount of a step: 0 to 7 add 1 to 8, 8 to 15 add -8 to -1
abbrev pub step_amount : ℕ → ℕ
step_amount p = pick (bit_of 3 p) (p % 16 + 65520) (p % 16 + 1)

-- The sixteen amounts as the papers list them, modulo 65,536 (003, table A-3; 002, p. A-22, and the ends of both halves in table 3-2,
-- p. 3-6). Four stand in a line, for nnnn from 0, 4, 8 and 12 on: number twelve, 1100, is -4.
abbrev pub step_amounts : List ℕ
step_amounts =
    1 ∷ 2 ∷ 3 ∷ 4
    ∷ 5 ∷ 6 ∷ 7 ∷ 8
    ∷ (65536 - 8) ∷ (65536 - 7) ∷ (65536 - 6) ∷ (65536 - 5)
    ∷ (65536 - 4) ∷ (65536 - 3) ∷ (65536 - 2) ∷ (65536 - 1) ∷ []

-- what the rule gives down a column of table A-3, for the sixteen postbytes that begin with one digit
abbrev pub amounts_below : ℕ → List ℕ
amounts_below column =
    map (λ row. step_amount (column * 16 + row)) (0 ∷ 1 ∷ 2 ∷ 3 ∷ 4 ∷ 5 ∷ 6 ∷ 7 ∷ 8 ∷ 9 ∷ 10 ∷ 11 ∷ 12 ∷ 13 ∷ 14 ∷ 15 ∷ [])

-- The rule gives the list in each of the six columns that step: 2 and 3 for X, 6 and 7 for Y, A and B for SP. Proved under this name
-- in proofs/Forms.antt.
abbrev pub AmountsAsListed : Type 0
AmountsAsListed = map amounts_below (0x2 ∷ 0x3 ∷ 0x6 ∷ 0x7 ∷ 0xA ∷ 0xB ∷ []) ≡ replicate 6 step_amounts

-- rr0nnnnn: a signed 5-bit offset
abbrev pub five_place : State → ℕ → ℕ → Place
five_place s pc p = place_is (plus_w (base_of s pc (p / 64)) (offset5 p)) s

-- rr1pnnnn, rr not 3: the register steps, and the address is the stepped one where p is 0 and the old one where p is 1
unfoldable pub stepped_place : State → ℕ → Place
stepped_place s p =
    let old = base_of s 0 (p / 64) in
    let new = plus_w old (step_amount p) in
    pick (bit_of 4 p) (place_is old (with_base s (p / 64) new)) (place_is new (with_base s (p / 64) new))

-- 111rr0zs: z = 0 a 9-bit offset with the sign s, zs = 10 a 16-bit one, zs = 11 indirect through a 16-bit one
abbrev pub nine_bits : State → List ℕ → ℕ → ℕ → ℕ → Place
nine_bits s m at pc p = place_is (plus_w (base_of s pc (p / 8 % 4)) (extend9 (bit_of 0 p) (byte_at m (plus_w at 1)))) s

abbrev pub sixteen_bits : State → List ℕ → ℕ → ℕ → ℕ → Place
sixteen_bits s m at pc p = place_is (plus_w (base_of s pc (p / 8 % 4)) (word_at m (plus_w at 1))) s

abbrev pub through_sixteen : State → List ℕ → ℕ → ℕ → ℕ → Place
through_sixteen s m at pc p = place_is (word_at m (sixteen_bits s m at pc p).address) s

unfoldable pub constant_place : State → List ℕ → ℕ → ℕ → ℕ → Place
constant_place s m at pc p =
    pick (bit_of 1 p) (pick (bit_of 0 p) (through_sixteen s m at pc p) (sixteen_bits s m at pc p)) (nine_bits s m at pc p)

-- 111rr1aa: unsigned A, unsigned B, D, or indirect through D
unfoldable pub accumulator_place : State → List ℕ → ℕ → ℕ → Place
accumulator_place s m pc p =
    let base = base_of s pc (p / 8 % 4) in
    pick (eqb (p % 4) 0) (place_is (plus_w base s.a) s)
    (pick (eqb (p % 4) 1) (place_is (plus_w base s.b) s)
    (pick (eqb (p % 4) 2) (place_is (plus_w base (d_of s)) s) (place_is (word_at m (plus_w base (d_of s))) s)))

-- The place that the postbyte at an address names, with the bytes after it. `pc` is what PC stands for as a base: the address
-- after the whole instruction, and in a move that address as table 3-3 corrects it.
unfoldable pub indexed_place : State → List ℕ → ℕ → ℕ → Place
indexed_place s m at pc =
    let p = byte_at m at in
    pick (bit_of 5 p)
    (pick (eqb (p / 64) 3) (pick (bit_of 2 p) (accumulator_place s m pc p) (constant_place s m at pc p)) (stepped_place s p))
    (five_place s pc p)

-- The same places as the code finds them, by the postbyte's form. The laws at the end say that they are the same.

-- whether a postbyte is rr1pnnnn, rr not 3, and so steps its base register
abbrev pub steps_of : ℕ → Bool
steps_of p = bit_of 5 p && not (eqb (p / 64) 3)

-- an accumulator's place that is no pointer, and the one that is
abbrev pub plain_accumulator : State → ℕ → ℕ → Place
plain_accumulator s pc p =
    let from = base_of s pc (p / 8 % 4) in
    pick (eqb (p % 4) 0) (place_is (plus_w from s.a) s)
    (pick (eqb (p % 4) 1) (place_is (plus_w from s.b) s) (place_is (plus_w from (d_of s)) s))

abbrev pub through_d : State → List ℕ → ℕ → ℕ → Place
through_d s m pc p = place_is (word_at m (plus_w (base_of s pc (p / 8 % 4)) (d_of s))) s

-- The places of the form IDX, those without a further byte or a pointer: the base register steps, or an accumulator is added to it, or 5
-- bits are.
abbrev pub unstepped_place : State → ℕ → ℕ → Place
unstepped_place s pc p = pick (bit_of 5 p) (plain_accumulator s pc p) (five_place s pc p)

abbrev pub plain_place : State → ℕ → ℕ → Place
plain_place s pc p = pick (steps_of p) (stepped_place s p) (unstepped_place s pc p)

-- The place of any postbyte by its form, which `form_of` gives: that it is the one which the bits name is `ByItsForm`, proved under that
-- name in proofs/Forms.antt.
unfoldable pub place_in : ℕ → State → List ℕ → ℕ → ℕ → ℕ → Place
place_in form s m at pc p =
    pick (steps_of p) (stepped_place s p)
    (pick (eqb form IDX) (unstepped_place s pc p)
    (pick (eqb form IDX1) (nine_bits s m at pc p)
    (pick (eqb form IDX2) (sixteen_bits s m at pc p)
    (pick (eqb form [D:IDX]) (through_d s m pc p) (through_sixteen s m at pc p)))))

abbrev pub ByItsForm : Type 0
ByItsForm =
    (s : State) (m : List ℕ) (at pc : ℕ) →
    place_in (form_of (byte_at m at)) s m at pc (byte_at m at) ≡ indexed_place s m at pc

-- and so a postbyte of the form IDX names a plain place
abbrev pub PlainByItsForm : Type 0
PlainByItsForm =
    (s : State) (m : List ℕ) (at pc : ℕ) →
    form_of (byte_at m at) ≡ IDX →
    plain_place s pc (byte_at m at) ≡ indexed_place s m at pc

-- An accumulator is added to X without a sign (docs/MACHINE.md, "Traps for the hasty"), by the postbytes E4, E5 and E6: so it cannot be
-- taken for signed here and in the code together. Proved under this name in proofs/Forms.antt.
abbrev pub AddsUnsigned : Type 0
AddsUnsigned =
    (s : State) (m : List ℕ) (at pc : ℕ) →
    (byte_at m at ≡ 0xE4 → (indexed_place s m at pc).address ≡ (s.x + s.a) % 65536)
    × (byte_at m at ≡ 0xE5 → (indexed_place s m at pc).address ≡ (s.x + s.b) % 65536)
    × (byte_at m at ≡ 0xE6 → (indexed_place s m at pc).address ≡ (s.x + (s.a * 256 + s.b)) % 65536)
