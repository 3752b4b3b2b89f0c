-- The walk through the groups of words, of registers, of products and of lookups, a lemma for each definition (crate execute16). On the
-- definitions alone. Assumes nothing.
use Prim.Native.Nat.{ℕ, ◌/◌, ◌%◌, ◌<◌, min, max}
use native.Mathlib.Omega.{arith}
use mathlib.Core.Path.{refl}
use mathlib.Core.Bool.{false}
use mathlib.Core.List.{List}
use lib.Dec.{leb, ltb, eqb}
use Rattle.word.specs.Word.{bit_of, plus_w}
use Rattle.memory.specs.Memory.{byte_at, word_at}
use Rattle.state.specs.declared.State.{State}
use Rattle.state.specs.State.{with_d, with_y, with_clock, d_of}
use Rattle.state.proofs.Laws.{never_sets_x}
use Rattle.transfers.specs.Registers.{byte_from, moved, sign_fill, back_fill, transferred}
use Rattle.word.proofs.Laws.{both}
use Rattle.codes.proofs.Laws.{andcc_keeps_x, orcc_keeps_x}
use Rattle.quotient.specs.Divide.{idiv_of, fdiv_of, ediv_of, idivs_of, edivs_of}
use Rattle.product.proofs.Laws.{below, signed_below}
use Rattle.opcodes.specs.declared.kind.Kind.{Kind}
use Rattle.opcodes.specs.Kind.{kind_number, same, SUBD, ADDD, CPD, CPY, CPX, CPS, LDD, LDY, LDX, STAA, STAB, STD, STY, STX, MAXA, MINA, EMAXD, EMIND, MAXM, MINM, EMAXM}
use Rattle.opcodes.specs.Kind.{LSRD, ASLD, INX, INY, DEX, DEY, ABA, CBA, DAA, TAB, TBA, ANDCC, ORCC, TFR/EXG}
use Rattle.opcodes.specs.Kind.{MUL, EMUL, EMULS, EMACS, EDIV, EDIVS, IDIV, IDIVS, TBL}
use Rattle.opcodes.specs.Postbyte.{transfer_reserved}
use Rattle.decode.specs.declared.Decoded.{Decoded}
use Rattle.execute16.specs.Words.{worded, with_word_effect, stored, store_effect, chosen, choose_effect}
use Rattle.execute16.specs.Registers.{first_registers, second_registers, registered, registers_effect}
use Rattle.products.specs.Products.{multiplied, accumulate_effect, product_effect}
use Rattle.execute16.specs.Lookups.{looked_up, lookup_effect}
use Rattle.walk.specs.Walk.{Before, before, Fits}
use Rattle.walk.proofs.Results.{max_below, min_below, right_below, lookup_fits}
use Rattle.walk.proofs.Results.{AreWords, idiv_words, fdiv_words, ediv_words, idivs_words, edivs_words}
use Rattle.walk.proofs.Codes.{ediv_x, idivs_x, edivs_x}
use Rattle.walk.proofs.Registers.{byte_from_lem, word_from_lem}
use Rattle.walk.proofs.Settings.{Leads, Leading, Yielding, byte_in_lem, word_in, x_before, start, fit, d_fit}
use Rattle.walk.proofs.Settings.{set_a, set_b, set_d, set_x_lem, set_y, set_sp, put_codes, take_codes, set_codes}
use Rattle.walk.proofs.Settings.{quietly, with_byte_lem, with_word, with_words, if◌then◌else◌, if◌does◌else◌}
use Rattle.walk.proofs.Places.{place}

module _ {b : Before} {c : ℕ} {s : State} (w : Leads b c s (with_clock s c)) where
  words_done : (kind : Kind) {v : ℕ} → (Fits b → v < 65536) → Leading b c s (λ z. worded kind z v)
  unfolding worded
  words_done kind h =
      if same kind SUBD then set_codes (set_d w (λ k. omega arith)) refl else
      if same kind ADDD then set_codes (set_d w (λ k. omega arith)) refl else
      if same kind CPD then set_codes w refl else
      if same kind CPY then set_codes w refl else
      if same kind CPX then set_codes w refl else
      if same kind CPS then set_codes w refl else
      if same kind LDD then set_codes (set_d w h) refl else
      if same kind LDY then set_codes (set_y w h) refl else
      if same kind LDX then set_codes (set_x_lem w h) refl else
      set_codes (set_sp w h) refl

  storing : (kind : Kind) {a : ℕ} → (Fits b → a < 65536) → Yielding b c s (λ z. stored kind z b.decoded.cost a)
  unfolding stored
  storing kind h =
      if same kind STAA does with_byte_lem (set_codes w refl) h (λ k. (fit w k).a) else
      if same kind STAB does with_byte_lem (set_codes w refl) h (λ k. (fit w k).b) else
      if same kind STD does with_word (set_codes w refl) h (d_fit w) else
      if same kind STY does with_word (set_codes w refl) h (λ k. (fit w k).y) else
      if same kind STX does with_word (set_codes w refl) h (λ k. (fit w k).x) else
      with_word (set_codes w refl) h (λ k. (fit w k).sp)

  choosing : (kind : Kind) {a : ℕ} → (Fits b → a < 65536) → Yielding b c s (λ z. chosen kind z b.memory b.decoded.cost a)
  unfolding chosen
  choosing kind {a} h =
      let byte = byte_at b.memory a in
      let word = word_at b.memory a in
      let larger : Fits b → max s.a byte < 256 = λ k. max_below (fit w k).a (byte_in_lem k a) in
      let smaller : Fits b → min s.a byte < 256 = λ k. min_below s.a byte (fit w k).a in
      let larger-word : Fits b → max (d_of s) word < 65536 = λ k. max_below (d_fit w k) (word_in k a) in
      let smaller-word : Fits b → min (d_of s) word < 65536 = λ k. min_below (d_of s) word (d_fit w k) in
      if same kind MAXA does quietly (set_codes (set_a w larger) refl) else
      if same kind MINA does quietly (set_codes (set_a w smaller) refl) else
      if same kind EMAXD does quietly (set_codes (set_d w larger-word) refl) else
      if same kind EMIND does quietly (set_codes (set_d w smaller-word) refl) else
      if same kind MAXM does with_byte_lem (set_codes w refl) h larger else
      if same kind MINM does with_byte_lem (set_codes w refl) h smaller else
      if same kind EMAXM does with_word (set_codes w refl) h larger-word else
      with_word (set_codes w refl) h smaller-word

  first_registers_lem : (kind : Kind) → Leading b c s (λ z. first_registers kind z)
  unfolding first_registers
  first_registers_lem kind =
      if same kind LSRD then set_codes (set_d w (λ k. right_below 15 (d_of s) false (d_fit w k))) refl else
      if same kind ASLD then set_codes (set_d w (λ k. omega arith)) refl else
      if same kind INX then set_codes (set_x_lem w (λ k. omega arith)) refl else
      if same kind INY then set_codes (set_y w (λ k. omega arith)) refl else
      if same kind DEX then set_codes (set_x_lem w (λ k. omega arith)) refl else
      if same kind DEY then set_codes (set_y w (λ k. omega arith)) refl else
      if same kind ABA then set_codes (set_a w (λ k. omega arith)) refl else
      set_codes (set_a w (λ k. omega arith)) refl

-- what a register of the state `old` sends, put into a register of the state s; the codes come from `old`
module _ {b : Before} {c : ℕ} {s u old : State} (w : Leads b c s u) (v : Leads b c old (with_clock old c)) where
  move_between : (to from fill : ℕ) → fill < 256 → Leads b c (moved s old to from fill) (moved u (with_clock old c) to from fill)
  move_between to from fill h =
      let byte : Fits b → byte_from old from < 256 = λ k. byte_from_lem (fit v k) from in
      if leb 4 to then
      (if eqb to 4 then set_d w (λ k. word_from_lem (fit v k) h from) else
      if eqb to 5 then set_x_lem w (λ k. word_from_lem (fit v k) h from) else
      if eqb to 6 then set_y w (λ k. word_from_lem (fit v k) h from) else
      set_sp w (λ k. word_from_lem (fit v k) h from)) else
      if eqb to 0 then set_a w byte else
      if eqb to 1 then set_b w byte else
      put_codes w (λ e. x_before v.comes (never_sets_x old.flags (byte_from old from) e))

module _ {b : Before} {c : ℕ} {s : State} (w : Leads b c s (with_clock s c)) where
  transferring : (p : ℕ) → Leading b c s (λ z. transferred z p)
  transferring p =
      let r1 = p / 16 % 8 in
      let r2 = p % 8 in
      let back : back_fill r2 < 256 = both (λ (n : ℕ). n < 256) (eqb r2 0) 0 255 (omega arith) (omega arith) in
      let sign : sign_fill (byte_from s r1) < 256 = both (λ (n : ℕ). n < 256) (bit_of 7 (byte_from s r1)) 255 0 (omega arith) (omega arith) in
      if transfer_reserved p then w else
      if leb 128 p then move_between (move_between w w r1 r2 (back_fill r2) back) w r2 r1 0 (omega arith) else
      move_between w w r2 r1 (sign_fill (byte_from s r1)) sign

  second_registers_lem : (kind : Kind) (n : ℕ) → Leading b c s (λ z. second_registers kind z n)
  unfolding second_registers
  second_registers_lem kind n =
      if same kind CBA then set_codes w refl else
      if same kind DAA then set_codes (set_a w (λ k. omega arith)) refl else
      if same kind TAB then set_codes (set_b w (λ k. (fit w k).a)) refl else
      if same kind TBA then set_codes (set_a w (λ k. (fit w k).b)) refl else
      if same kind ANDCC then take_codes w (andcc_keeps_x s.flags n) else
      if same kind ORCC then take_codes w (orcc_keeps_x s.flags n) else
      if same kind TFR/EXG then transferring n else
      w

  -- a number of 32 bits in Y : D
  set_yd : {v : ℕ} → (Fits b → v < 4294967296) → Leading b c s (λ z. with_d (with_y z (v / 65536)) (v % 65536))
  set_yd h = set_d (set_y w (λ k. omega (arith, h k))) (λ k. omega arith)

  multiplying : (kind : Kind) → Leading b c s (λ z. multiplied kind z)
  unfolding multiplied
  multiplying kind =
      let f = s.flags in
      let d = d_of s in
      let x = s.x in
      let y = s.y in
      let idiv : Fits b → AreWords (idiv_of f d x) = λ k. idiv_words f d x (d_fit w k) in
      let fdiv : Fits b → AreWords (fdiv_of f d x) = λ k. fdiv_words f d x (d_fit w k) (fit w k).x in
      let ediv : Fits b → AreWords (ediv_of f y d x) = λ k. ediv_words f y d x (fit w k).y (d_fit w k) (fit w k).x in
      let idivs : Fits b → AreWords (idivs_of f d x) = λ k. idivs_words f d x (d_fit w k) (fit w k).x in
      let edivs : Fits b → AreWords (edivs_of f y d x) = λ k. edivs_words f y d x (fit w k).y (d_fit w k) (fit w k).x in
      if same kind MUL then set_codes (set_d w (λ k. below 8 (fit w k).a (fit w k).b)) refl else
      if same kind EMUL then set_codes (set_yd (λ k. below 16 (d_fit w k) (fit w k).y)) refl else
      if same kind EMULS then set_codes (set_yd (λ k. signed_below d y (d_fit w k) (fit w k).y)) refl else
      if same kind EDIV then set_codes (set_d (set_y w (λ k. (ediv k).quotient)) (λ k. (ediv k).remainder)) (ediv_x f y d x) else
      if same kind EDIVS then set_codes (set_d (set_y w (λ k. (edivs k).quotient)) (λ k. (edivs k).remainder)) (edivs_x f y d x) else
      if same kind IDIV then set_codes (set_d (set_x_lem w (λ k. (idiv k).quotient)) (λ k. (idiv k).remainder)) refl else
      if same kind IDIVS then set_codes (set_d (set_x_lem w (λ k. (idivs k).quotient)) (λ k. (idivs k).remainder)) (idivs_x f d x) else
      set_codes (set_d (set_x_lem w (λ k. (fdiv k).quotient)) (λ k. (fdiv k).remainder)) refl

  looking_up : (kind : Kind) (a : ℕ) → Leading b c s (λ z. looked_up kind z b.memory a)
  unfolding looked_up
  looking_up kind a =
      let byte : Fits b → s.b < 256 = λ k. (fit w k).b in
      if same kind TBL then set_codes (set_a w (λ k. lookup_fits s.b _ _ (byte k) (byte_in_lem k a) (byte_in_lem k (plus_w a 1)))) refl else
      set_codes (set_d w (λ k. lookup_fits s.b _ _ (byte k) (word_in k a) (word_in k (plus_w a 2)))) refl

  accumulating : {a : ℕ} → (Fits b → a < 65536) → Yielding b c s (λ z. accumulate_effect z b.memory b.decoded.cost a)
  unfolding accumulate_effect
  accumulating h = with_words (set_codes w refl) h (λ k. omega arith) (λ k. omega arith)

module _ (s : State) (m : List ℕ) (line : ℕ) (d : Decoded) (c : ℕ) where
  abbrev b : Before
  b = before s m line d

  pub with_word_operand : Yielding b c s (λ z. with_word_effect z m d)
  unfolding with_word_effect
  with_word_operand =
      let p = place s m line d c in
      rw p.same (quietly (words_done p.state d.kind (λ k. word_in k _)))

  pub store : Yielding b c s (λ z. store_effect z m d)
  unfolding store_effect
  store =
      let p = place s m line d c in
      rw p.same (storing p.state d.kind p.address)

  pub choose : Yielding b c s (λ z. choose_effect z m d)
  unfolding choose_effect
  choose =
      let p = place s m line d c in
      rw p.same (choosing p.state d.kind p.address)

  pub registers : Yielding b c s (λ z. registers_effect z m d)
  unfolding registers_effect registered
  registers =
      quietly (if ltb (kind_number d.kind) (kind_number CBA) then first_registers_lem start d.kind else second_registers_lem start d.kind _)

  pub product : Yielding b c s (λ z. product_effect z m d)
  unfolding product_effect
  product =
      if same d.kind EMACS does accumulating start (λ k. word_in k d.at) else
      quietly (multiplying start d.kind)

  pub look_up : Yielding b c s (λ z. lookup_effect z m d)
  unfolding lookup_effect
  look_up =
      let p = place s m line d c in
      rw p.same (quietly (looking_up p.state d.kind _))
