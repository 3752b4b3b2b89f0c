-- The instructions in plain numbers, each by computing its opcode. On the definitions alone. Assumes nothing.
use Prim.Native.Nat.{ℕ, ◌+◌, ◌*◌, ◌/◌, ◌%◌, ◌<◌, ◌≤◌}
use native.Mathlib.Nat.{le-div_iff_mul-le}
use native.Mathlib.Omega.{arith}
use Rattle.std.proofs.Common.{Result, Ok, Err}
use Rattle.std.proofs.Math.Bool.{or-true, or-false}
use mathlib.Core.Path.{◌≡◌, refl, sym, ◌∙◌, ap}
use mathlib.Core.Bool.{Bool, true, false, ◌&&◌, ◌||◌}
use mathlib.Core.List.{List}
use lib.Dec.{T, eqb, leb, eqb→eq}
use borrow.Author.Tests.{eq-eqb, ne_eqb, le-leb}
use Rattle.word.specs.Word.{pick, plus_w, bit_of}
use Rattle.word.proofs.Laws.{both, high_word_lem, low_word_lem}
use Rattle.word.proofs.Table.{same_is, and_left, and_right, every_below, at_number}
use Rattle.memory.specs.Memory.{byte_at}
use Rattle.state.specs.declared.Flags.{Flags}
use Rattle.state.specs.declared.State.{State}
use Rattle.state.specs.Ccr.{set_i}
use Rattle.state.specs.State.{with_pc, d_of}
use Rattle.opcodes.specs.declared.Cell.{Cell}
use Rattle.opcodes.specs.declared.kind.ControlOp.TheVariants.{Trap}
use Rattle.opcodes.specs.Kind.{TRAP, same}
use Rattle.opcodes.specs.Mode.{mode_number}
use Rattle.opcodes.specs.Grid.{grid, grid_at, families, family_of}
use Rattle.opcodes.specs.Map.{cell_of}
use Rattle.opcodes.specs.Postbyte.{form_of, extension_of, reserved_of, cost_of, untaken_of}
use Rattle.opcodes.specs.Rules.{stops_of}
use Rattle.decode.specs.declared.Decoded.{Decoded}
use Rattle.decode.specs.declared.Halt.{Halt}
use Rattle.decode.specs.declared.Halt.TheVariants.{Reserved}
use Rattle.decode.specs.Decode.{reserved_at, decoded_of}
use Rattle.decimal.proofs.Laws.{factor_is, corrected_is}
use Rattle.decimal.specs.Decimal.{table, factor_of, corrected_of}
use Rattle.quotient.proofs.Laws.{divisor_zero}
use Rattle.execute8.specs.Bytes.{changed, memory_changed, in_memory_effect, in_a_effect, in_b_effect}
use Rattle.execute16.specs.Words.{worded, with_word_effect}
use Rattle.execute16.specs.Registers.{first_registers, second_registers, registered, registers_effect}
use Rattle.products.specs.Products.{multiplied, accumulate_effect, product_effect}
use Rattle.operand.specs.declared.Place.{Place}
use Rattle.operand.specs.Operand.{operand_place}
use Rattle.operand.specs.Indexed.{with_base, stepped_place, constant_place, accumulator_place, indexed_place}
use Rattle.moves.specs.Addresses.{addressed, address_effect}
use Rattle.frames.specs.Frames.{wait_effect, pulled_frame, interrupt_effect}
use Rattle.flow.specs.Branches.{short_effect}
use Rattle.flow.specs.Control.{control_done, control_effect}
use Rattle.machine.specs.declared.Reply.TheVariants.{Done}
use Rattle.turn.specs.Turn.{Turn, turn_is, controlled, with_operand, executed, instructed, turn_of}
use Rattle.walk.proofs.Control.{same_control}
use Rattle.walk.proofs.Registers.{set_pc}
use Rattle.promises.specs.Plain.{At, AtTwo, done, EnteredBy, EveryInterrupt, EveryReturn, EveryCost, EveryReset, EveryAddress, KeptButNZV, KeptButZ, EveryCode, EveryInstructionKeepsX, EveryUndefined}
use Rattle.promises.proofs.Lines.{of_cost, of_state, of_flags, framed, entered_by, cell_turn, turn_one, turn_two, postbyte_turn, turn_postbyte, none_up, rti_alone}
use Rattle.promises.proofs.Masks.{x_stays_clear}

-- SWI, the traps, WAI.

swi_turn : (s : State) (m : List ℕ) → At s m 0x3F → turn_of s m 0 ≡ turn_is Done (interrupt_effect (with_pc s (plus_w s.pc 1)) m 0xFFF6 (set_i s.flags true) 9)
unfolding cell_of reserved_of cost_of instructed executed controlled
swi_turn s m at = turn_one s m 0x3F at refl

-- every trap code has the same cell
is_trap : ℕ → Bool
is_trap code =
    let c = cell_of (256 + code) in
    same c.kind TRAP && (eqb (mode_number c.mode) 3 && (eqb c.length 2 && eqb c.cost 10))

abbrev trap_code : ℕ → Bool
trap_code code = pick (leb 0x30 code && (leb code 0x39 || leb 0x40 code)) (is_trap code) true

every_trap_code : T (every_below trap_code 256)
unfolding is_trap cell_of
every_trap_code = tt

-- what such a cell does
trap_cell_lem :
    (s : State) (m : List ℕ) (c : Cell) (at : ℕ) → c.kind ≡ TRAP → mode_number c.mode ≡ 3 → c.length ≡ 2 → c.cost ≡ 10 →
    cell_turn s m c at ≡ turn_is Done (interrupt_effect (with_pc s (plus_w s.pc 2)) m 0xFFF8 (set_i s.flags true) 10)
unfolding reserved_of cost_of instructed executed controlled
trap_cell_lem s m c at kind mode long cost = rw (kind, mode, long, cost)

trap_turn :
    (s : State) (m : List ℕ) (code : ℕ) → code < 256 → (leb 0x30 code && (leb code 0x39 || leb 0x40 code)) ≡ true → AtTwo s m 0x18 code →
    turn_of s m 0 ≡ turn_is Done (interrupt_effect (with_pc s (plus_w s.pc 2)) m 0xFFF8 (set_i s.flags true) 10)
unfolding is_trap
trap_turn s m code low among at =
    let c = cell_of (256 + code) in
    let kind = same c.kind TRAP in
    let mode = eqb (mode_number c.mode) 3 in
    let long = eqb c.length 2 in
    let cost = eqb c.cost 10 in
    let all = rw among at (at_number trap_code 256 every_trap_code code low) in
    let rest = and_right kind (mode && (long && cost)) all in
    let last = and_right mode (long && cost) rest in
    turn_two s m code at
    ∙ trap_cell_lem s m c (plus_w s.pc 2) (same_control c.kind Trap (sym (same_is true kind (and_left kind (mode && (long && cost)) all))))
    (eqb→eq _ _ (and_left mode (long && cost) rest)) (eqb→eq _ _ (and_left long cost last)) (eqb→eq _ _ (and_right long cost last))

wai_turn : (s : State) (m : List ℕ) → At s m 0x3E → turn_of s m 0 ≡ turn_is Done (wait_effect (with_pc s (plus_w s.pc 1)) 7)
unfolding cell_of reserved_of cost_of instructed executed controlled control_effect control_done
wai_turn s m at = turn_one s m 0x3E at refl

pub every_interrupt : EveryInterrupt
unfolding wait_effect
every_interrupt s m words whole =
    record {
      swi = λ at. entered_by s m 0 0xFFF6 9 (plus_w s.pc 1) (set_i s.flags true) (swi_turn s m at) refl words (omega arith) whole;
      trap_low = λ code from to at. trap code (omega (arith, to)) (rw (le-leb 0x30 code from, le-leb code 0x39 to)) at;
      trap_high = λ code from to at.
          trap code (omega (arith, to)) (rw (le-leb 0x30 code (omega (arith, from)), le-leb 0x40 code from) (or-true (leb code 0x39))) at;
      wai = λ at.
          rw (wai_turn s m at)
          (framed m (with_pc s (plus_w s.pc 1)) (set_pc words (omega arith)) whole);
      wai_sp = λ at. ap (λ t. (of_state t).sp) (wai_turn s m at);
      wai_waits = λ at. ap (λ t. (of_state t).standing.waiting) (wai_turn s m at);
    }
  where
    trap : (code : ℕ) → code < 256 → (leb 0x30 code && (leb code 0x39 || leb 0x40 code)) ≡ true → AtTwo s m 0x18 code → EnteredBy 0xFFF8 10 (plus_w s.pc 2) s.flags.x s m 0
    trap code low among at =
        entered_by s m 0 0xFFF8 10 (plus_w s.pc 2) (set_i s.flags true) (trap_turn s m code low among at) refl words (omega arith) whole

-- RTI.
pub every_return : EveryReturn
unfolding pulled_frame
every_return s m at =
    let turn = rti_alone s m at in
    record {
      b = ap (λ t. (of_state t).b) turn;
      a = ap (λ t. (of_state t).a) turn;
      x = ap (λ t. (of_state t).x) turn;
      y = ap (λ t. (of_state t).y) turn;
      pc = ap (λ t. (of_state t).pc) turn;
      sp = ap (λ t. (of_state t).sp) turn;
      s_bit = ap (λ t. (of_flags t).s) turn;
      x_bit = ap (λ t. (of_flags t).x) turn;
      h_bit = ap (λ t. (of_flags t).h) turn;
      i_bit = ap (λ t. (of_flags t).i) turn;
      n_bit = ap (λ t. (of_flags t).n) turn;
      z_bit = ap (λ t. (of_flags t).z) turn;
      v_bit = ap (λ t. (of_flags t).v) turn;
      c_bit = ap (λ t. (of_flags t).c) turn;
      cost = ap of_cost turn;
    }

pub every_cost : EveryCost
unfolding cell_of reserved_of cost_of instructed executed controlled control_effect control_done wait_effect product_effect accumulate_effect
every_cost s m =
    record {
      wai = λ at. ap of_cost (turn_one s m 0x3E at refl);
      mul = λ at. ap of_cost (turn_one s m 0x12 at refl);
      emul = λ at. ap of_cost (turn_one s m 0x13 at refl);
      emuls = λ at. ap of_cost (turn_two s m 0x13 at);
      emacs = λ at. ap of_cost (turn_two s m 0x12 at);
      ediv = λ at. ap of_cost (turn_one s m 0x11 at refl);
      edivs = λ at. ap of_cost (turn_two s m 0x14 at);
      idiv = λ at. ap of_cost (turn_two s m 0x10 at);
      idivs = λ at. ap of_cost (turn_two s m 0x15 at);
      fdiv = λ at. ap of_cost (turn_two s m 0x11 at);
    }

pub every_reset : EveryReset
every_reset m whole =
    record {
      pc = rw (eq-eqb _ _ whole);
      ccr = refl;
      a = refl;
      b = refl;
      x = refl;
      y = refl;
      sp = refl;
      clock = refl;
      awake = refl;
    }

-- Addresses.
module _ (s : State) (m : List ℕ) where
  -- LEAX with a postbyte, and LEAY
  lea_x : (p : ℕ) → AtTwo s m 0x1A p → (done s m).state.x ≡ (of_state (postbyte_turn s m (cell_of 0x1A) p)).x
  lea_x p at = ap (λ t. (of_state t).x) (turn_postbyte s m 0x1A p at refl)

  lea_y :
      (p : ℕ) → AtTwo s m 0x19 p →
      ((done s m).state.y ≡ (of_state (postbyte_turn s m (cell_of 0x19) p)).y)
      × ((done s m).state.x ≡ (of_state (postbyte_turn s m (cell_of 0x19) p)).x)
  lea_y p at =
      let turn = turn_postbyte s m 0x19 p at refl in
      (ap (λ t. (of_state t).y) turn, ap (λ t. (of_state t).x) turn)

  -- the byte after the postbyte
  next : plus_w (plus_w s.pc 1) 1 ≡ plus_w s.pc 2
  next = omega arith

pub every_address : EveryAddress
unfolding cell_of reserved_of form_of cost_of untaken_of grid grid_at families family_of extension_of instructed executed with_operand address_effect
    addressed operand_place indexed_place accumulator_place constant_place stepped_place short_effect registers_effect registered second_registers
    with_word_effect worded
every_address s m words =
    record {
      five_most = λ at. lea_x s m 0x0F at ∙ rw at.1;
      five_least = λ at. lea_x s m 0x10 at ∙ rw at.1 (omega arith);
      nine_most = λ at byte. lea_x s m 0xE0 at ∙ rw (at.1, next s m, byte);
      nine_least = λ at byte. lea_x s m 0xE1 at ∙ rw (at.1, next s m, byte) (omega arith);
      a_x = λ at. lea_x s m 0xE4 at ∙ rw at.1;
      b_x = λ at. lea_x s m 0xE5 at ∙ rw at.1;
      d_x = λ at. lea_x s m 0xE6 at ∙ rw at.1;
      pc_five = λ at. lea_x s m 0xC0 at ∙ rw at.1 (omega arith);
      pc_nine = λ at zero. lea_x s m 0xF8 at ∙ rw (at.1, next s m, zero) (omega arith);
      pc_sixteen = λ at zero. lea_x s m 0xFA at ∙ rw (at.1, next s m, zero) (omega arith);
      before_plus = λ at. ((lea_y s m 0x27 at).0 ∙ rw at.1, (lea_y s m 0x27 at).1 ∙ rw at.1);
      before_minus = λ at. ((lea_y s m 0x28 at).0 ∙ rw at.1 (omega arith), (lea_y s m 0x28 at).1 ∙ rw at.1 (omega arith));
      after_plus = λ at. ((lea_y s m 0x37 at).0 ∙ rw at.1, (lea_y s m 0x37 at).1 ∙ rw at.1);
      after_minus = λ at. ((lea_y s m 0x38 at).0 ∙ rw at.1, (lea_y s m 0x38 at).1 ∙ rw at.1 (omega arith));
      branch = λ at. ap (λ t. (of_state t).pc) (turn_postbyte s m 0x20 0xFE at refl) ∙ rw at.1 (omega (arith, words.pc));
      pc_wraps = λ at last. ap (λ t. (of_state t).pc) (turn_one s m 0xA7 at refl) ∙ rw last;
      word_wraps = λ at last. ap (λ t. (of_state t).x) (turn_postbyte s m 0xEE 0x00 at refl) ∙ rw (at.1, last);
    }

-- Codes.

kept_but_nzv : {f : Flags} {t u : Turn} → t ≡ u → KeptButNZV f (of_flags u) → KeptButNZV f (of_flags t)
kept_but_nzv is kept = rw is kept

kept_but_z : {f : Flags} {t u : Turn} → t ≡ u → KeptButZ f (of_flags u) → KeptButZ f (of_flags t)
kept_but_z is kept = rw is kept

-- an operand's place leaves the codes
base_kept : (s : State) (rr v : ℕ) → (with_base s rr v).flags ≡ s.flags
base_kept s rr v =
    let Kept : State → Type 0 = λ t. t.flags ≡ s.flags in
    both Kept (eqb rr 0) _ _ refl (both Kept (eqb rr 1) _ _ refl refl)

place_kept : (s : State) (m : List ℕ) (at pc : ℕ) → (indexed_place s m at pc).state.flags ≡ s.flags
unfolding indexed_place accumulator_place constant_place stepped_place
place_kept s m at pc =
    let p = byte_at m at in
    let Kept : Place → Type 0 = λ q. q.state.flags ≡ s.flags in
    both Kept (bit_of 5 p) _ _
    (both Kept (eqb (p / 64) 3) _ _
    (both Kept (bit_of 2 p) _ _
    (both Kept (eqb (p % 4) 0) _ _ refl (both Kept (eqb (p % 4) 1) _ _ refl (both Kept (eqb (p % 4) 2) _ _ refl refl)))
    (both Kept (bit_of 1 p) _ _ (both Kept (bit_of 0 p) _ _ refl refl) refl))
    (both Kept (bit_of 4 p) _ _ (base_kept s (p / 64) _) (base_kept s (p / 64) _)))
    refl

-- an instruction that leaves the codes, whether its postbyte is reserved or not
lea_kept :
    (s : State) (m : List ℕ) (c : Cell) (at : ℕ) → stops_of c ≡ false →
    (executed (with_pc s (decoded_of m s.pc c at).next) m 0 (decoded_of m s.pc c at)).state.flags ≡ s.flags →
    of_flags (cell_turn s m c at) ≡ s.flags
unfolding instructed
lea_kept s m c at on kept =
    let Kept : Result Decoded Halt → Type 0 = λ f. (instructed s m 0 f).effect.state.flags ≡ s.flags in
    rw on (both Kept (reserved_at m c at) (Err Reserved) (Ok (decoded_of m s.pc c at)) refl kept)

pub every_code : EveryCode
unfolding cell_of reserved_of form_of cost_of untaken_of grid grid_at families family_of extension_of instructed executed in_a_effect in_b_effect
    changed with_operand in_memory_effect memory_changed address_effect addressed operand_place indexed_place stepped_place registers_effect
    registered first_registers
every_code s m =
    record {
      inca = λ at. kept_but_nzv (turn_one s m 0x42 at refl) kept;
      deca = λ at. kept_but_nzv (turn_one s m 0x43 at refl) kept;
      incb = λ at. kept_but_nzv (turn_one s m 0x52 at refl) kept;
      decb = λ at. kept_but_nzv (turn_one s m 0x53 at refl) kept;
      inc = λ at. kept_but_nzv (turn_one s m 0x72 at refl) kept;
      dec = λ at. kept_but_nzv (turn_one s m 0x73 at refl) kept;
      inx = λ at. kept_but_z (turn_one s m 0x08 at refl) (record { others = kept; n = refl; v = refl });
      iny = λ at. kept_but_z (turn_one s m 0x02 at refl) (record { others = kept; n = refl; v = refl });
      dex = λ at. kept_but_z (turn_one s m 0x09 at refl) (record { others = kept; n = refl; v = refl });
      dey = λ at. kept_but_z (turn_one s m 0x03 at refl) (record { others = kept; n = refl; v = refl });
      leax = λ at. ap of_flags (turn_one s m 0x1A at refl) ∙ lea_kept s m (cell_of 0x1A) (plus_w s.pc 1) refl (place_kept _ m _ _);
      leay = λ at. ap of_flags (turn_one s m 0x19 at refl) ∙ lea_kept s m (cell_of 0x19) (plus_w s.pc 1) refl (place_kept _ m _ _);
      leas = λ at. ap of_flags (turn_one s m 0x1B at refl) ∙ lea_kept s m (cell_of 0x1B) (plus_w s.pc 1) refl (place_kept _ m _ _);
      ins = λ at. ap (λ t. (of_state t).sp) (turn_postbyte s m 0x1B 0x81 at refl) ∙ rw at.1;
      des = λ at. ap (λ t. (of_state t).sp) (turn_postbyte s m 0x1B 0x9F at refl) ∙ rw at.1 (omega arith);
    }
  where
    kept : {n z v : Bool} → KeptButNZV s.flags (record { s = s.flags.s; x = s.flags.x; h = s.flags.h; i = s.flags.i; n = n; z = z; v = v; c = s.flags.c })
    kept = record { s = refl; x = refl; h = refl; i = refl; c = refl }

pub every_instruction_keeps_x : EveryInstructionKeepsX
every_instruction_keeps_x s m clear = x_stays_clear s m 0 (λ e. let none = none_up s.flags in omega (arith, e, none)) clear

-- Undefined results.

d_again : (s : State) → s.b < 256 → (d_of s / 256 ≡ s.a) × (d_of s % 256 ≡ s.b)
d_again s low = (high_word_lem s.a low, low_word_lem s.a low)

-- Y : D over X overflows where Y is not below X
too_large_lem : (y d x : ℕ) → 0 < x → x ≤ y → leb 65536 ((y * 65536 + d) / x) ≡ true
too_large_lem y d x some least =
    le-leb 65536 ((y * 65536 + d) / x) ((le-div_iff_mul-le {k = x} {x = 65536} {y = y * 65536 + d} some).1 (omega (arith, least)))

no_row : (c : Bool) (a : ℕ) → a < 256 → 4 ≤ a % 16 → (factor_of table c true a ≡ 0) × (corrected_of table c true a ≡ c)
no_row c a low past =
    let is = le-leb 4 (a % 16) past in
    (sym (factor_is c true a low) ∙ rw is, sym (corrected_is c true a low) ∙ rw is (or-false c))

pub every_undefined : EveryUndefined
unfolding cell_of reserved_of cost_of instructed executed product_effect multiplied registers_effect registered second_registers
every_undefined s m words =
    record {
      idiv = λ at zero.
          let turn = turn_two s m 0x10 at in
          let d = d_again s words.b in (
            ap (λ t. (of_state t).x) turn ∙ rw zero,
            ap (λ t. (of_flags t).c) turn ∙ rw zero,
            ap (λ t. (of_state t).a) turn ∙ rw zero d.0,
            ap (λ t. (of_state t).b) turn ∙ rw zero d.1,
          );
      ediv = λ at some least.
          let turn = turn_one s m 0x11 at refl in
          let is = divisor_zero s.x words.x ∙ ne_eqb s.x 0 (λ e. omega (arith, e, some)) in
          let large = too_large_lem s.y (d_of s) s.x some least in
          let d = d_again s words.b in (
            ap (λ t. (of_flags t).v) turn ∙ rw (is, large),
            ap (λ t. (of_state t).y) turn ∙ rw (is, large),
            ap (λ t. (of_state t).a) turn ∙ rw (is, large) d.0,
            ap (λ t. (of_state t).b) turn ∙ rw (is, large) d.1,
          );
      daa = λ at half past.
          let turn = turn_two s m 0x07 at in
          let none = no_row s.flags.c s.a words.a past in
          (ap (λ t. (of_state t).a) turn ∙ rw (half, none.0) (omega (arith, words.a)), ap (λ t. (of_flags t).c) turn ∙ rw (half, none.1));
      tfr_plus = λ at low.
          ap (λ t. (of_state t).x) (turn_postbyte s m 0xB7 0x05 at refl)
          ∙ rw (at.1, ne_eqb (s.a / 128 % 2) 1 (λ e. omega (arith, e, low))) (omega arith);
      tfr_minus = λ at high.
          ap (λ t. (of_state t).x) (turn_postbyte s m 0xB7 0x05 at refl)
          ∙ rw (at.1, eq-eqb (s.a / 128 % 2) 1 (omega (arith, high, words.a))) (omega arith);
    }
