-- The walk through the stack, branches, what changes the flow, RTI, moves, addresses and bits, a lemma for each definition (crates stack,
-- flow, requests and moves). On the definitions alone. Assumes nothing.
use Prim.Native.Nat.{ℕ, ◌/◌, ◌%◌, ◌<◌}
use native.Mathlib.Omega.{arith}
use mathlib.Core.Path.{◌≡◌, refl}
use mathlib.Core.Bool.{Bool, true, false}
use mathlib.Core.List.{List}
use lib.Bits.{and_lt, or_lt}
use lib.Dec.{ltb, eqb}
use Rattle.word.specs.Word.{plus_w, minus_w}
use Rattle.memory.specs.Memory.{byte_at, word_at}
use Rattle.state.specs.declared.Flags.{Flags}
use Rattle.state.specs.declared.State.{State}
use Rattle.state.specs.State.{with_clock, d_of}
use Rattle.state.proofs.Laws.{never_sets_x}
use Rattle.logic.specs.Logic.{all_clear, all_set}
use Rattle.codes.specs.Conditions.{condition_of}
use Rattle.codes.specs.Loops.{count_byte, count_word}
use Rattle.state.proofs.Laws.{ccr_below}
use Rattle.opcodes.specs.declared.kind.Kind.{Kind}
use Rattle.opcodes.specs.Kind.{member_of, same, PULX, PULY, PULA, PULB, PSHX, PSHY, PSHA, PSHB, PULC, PSHC, PULD}
use Rattle.opcodes.specs.Kind.{BSR, RTS, RTI, WAI, LEAY, LEAX, LEAS, JMP, BSET, BCLR, BRSET, MOVB}
use Rattle.decode.specs.declared.Decoded.{Decoded}
use Rattle.stack.specs.Stack.{byte_pushed, word_pushed, pulled, stacked, stack_effect}
use Rattle.stack.specs.Stack.{subroutine_effect, return_effect}
use Rattle.frames.specs.Frames.{interrupt_effect, pulled_frame}
use Rattle.flow.specs.Branches.{branched, short_effect, long_effect, looped, loop_done}
use Rattle.flow.specs.Control.{control_done, control_effect}
use Rattle.machine.specs.Names.{no_line}
use Rattle.requests.specs.Requests.{allowed_line, rti_effect}
use Rattle.moves.specs.Moves.{byte_move_effect, word_move_effect, move_effect}
use Rattle.moves.specs.Addresses.{addressed, address_effect}
use Rattle.moves.specs.Bits.{bits_changed, bitted, bits_effect}
use Rattle.walk.specs.Walk.{Before, before, Fits, IsBranch}
use Rattle.walk.proofs.Results.{counted_below}
use Rattle.walk.proofs.Settings.{Leads, Leading, Yielding, byte_in_lem, word_in, start, fit, d_fit}
use Rattle.walk.proofs.Settings.{set_a, set_b, set_d, set_x_lem, set_y, set_sp, set_pc, set_codes, take_codes}
use Rattle.walk.proofs.Settings.{quietly, with_byte_lem, with_word, with_frame, staying, waiting, taking, if◌does◌else◌}
use Rattle.walk.proofs.Places.{place, way}

module _ {b : Before} {c : ℕ} {s : State} (w : Leads b c s (with_clock s c)) where
  -- pushed and pulled: SP falls, or rises
  push_byte : {v : ℕ} → (Fits b → v < 256) → Yielding b c s (λ z. byte_pushed z b.decoded.cost v)
  push_byte h = with_byte_lem (set_sp w (λ k. omega arith)) (λ k. omega arith) h

  push_word : {v : ℕ} → (Fits b → v < 65536) → Yielding b c s (λ z. word_pushed z b.decoded.cost v)
  push_word h = with_word (set_sp w (λ k. omega arith)) (λ k. omega arith) h

  pull : (n : ℕ) → Yielding b c s (λ z. pulled z n b.decoded.cost)
  pull n = quietly (set_sp w (λ k. omega arith))

module _ {b : Before} {c : ℕ} {s : State} (w : Leads b c s (with_clock s c)) where
  stacking : (kind : Kind) → Yielding b c s (λ z. stacked kind z b.memory b.decoded.cost)
  unfolding stacked
  stacking kind =
      let byte : Fits b → byte_at b.memory s.sp < 256 = λ k. byte_in_lem k s.sp in
      let word : Fits b → word_at b.memory s.sp < 65536 = λ k. word_in k s.sp in
      if same kind PULX does pull (set_x_lem w word) 2 else
      if same kind PULY does pull (set_y w word) 2 else
      if same kind PULA does pull (set_a w byte) 1 else
      if same kind PULB does pull (set_b w byte) 1 else
      if same kind PSHX does push_word w (λ k. (fit w k).x) else
      if same kind PSHY does push_word w (λ k. (fit w k).y) else
      if same kind PSHA does push_byte w (λ k. (fit w k).a) else
      if same kind PSHB does push_byte w (λ k. (fit w k).b) else
      if same kind PULC does pull (take_codes w (never_sets_x s.flags (byte_at b.memory s.sp))) 1 else
      if same kind PSHC does push_byte w (λ k. ccr_below s.flags) else
      if same kind PULD does pull (set_d w word) 2 else
      push_word w (d_fit w)

  -- a branch that costs the same whether it is taken or not
  branch : (taken : Bool) (offset : ℕ) → Yielding b c s (λ z. branched z taken offset b.decoded.cost b.decoded.cost)
  branch taken offset = if taken does quietly (set_pc w (λ k. omega arith)) else quietly w

  subroutine : {target : ℕ} → (Fits b → target < 65536) → Yielding b c s (λ z. subroutine_effect z b.decoded.cost target)
  unfolding subroutine_effect
  subroutine h = with_word (set_pc (set_sp w (λ k. omega arith)) h) (λ k. omega arith) (λ k. (fit w k).pc)

  return : Yielding b c s (λ z. return_effect z b.memory b.decoded.cost)
  unfolding return_effect
  return = quietly (set_pc (set_sp w (λ k. omega arith)) (λ k. word_in k s.sp))

  -- an entry whose codes have X as it was
  pub interrupt :
      (vector : ℕ) (after : Flags) → after.x ≡ s.flags.x → Yielding b c s (λ z. interrupt_effect z b.memory vector after b.decoded.cost)
  unfolding interrupt_effect
  interrupt vector after same = with_frame w (set_pc (set_codes (set_sp w (λ k. omega arith)) same) (λ k. word_in k vector))

  pulling : Leading b c s (λ z. pulled_frame z b.memory)
  unfolding pulled_frame
  pulling =
      let codes = never_sets_x s.flags (byte_at b.memory s.sp) in
      set_pc
      (set_y
      (set_x_lem
      (set_a (set_b (take_codes (set_sp w (λ k. omega arith)) codes) (λ k. byte_in_lem k _)) (λ k. byte_in_lem k _))
      (λ k. word_in k _))
      (λ k. word_in k _))
      (λ k. word_in k _)

module _ {b : Before} {c : ℕ} {s : State} (w : Leads b c s (with_clock s c)) (kind offset : ℕ) where
  looping : (counter : ℕ) → Yielding b c s (λ z. looped counter z kind offset b.decoded.cost)
  unfolding looped
  looping counter =
      if eqb counter 0 does branch (set_a w (λ k. counted_below 7 kind s.a (fit w k).a)) (count_byte kind s.a).taken offset else
      if eqb counter 1 does branch (set_b w (λ k. counted_below 7 kind s.b (fit w k).b)) (count_byte kind s.b).taken offset else
      if eqb counter 4 does branch (set_d w (λ k. counted_below 15 kind (d_of s) (d_fit w k))) (count_word kind (d_of s)).taken offset else
      if eqb counter 5 does branch (set_x_lem w (λ k. counted_below 15 kind s.x (fit w k).x)) (count_word kind s.x).taken offset else
      if eqb counter 6 does branch (set_y w (λ k. counted_below 15 kind s.y (fit w k).y)) (count_word kind s.y).taken offset else
      branch (set_sp w (λ k. counted_below 15 kind s.sp (fit w k).sp)) (count_word kind s.sp).taken offset

-- what takes the operand's address alone
module _ {b : Before} {c : ℕ} {s : State} (w : Leads b c s (with_clock s c)) where
  addressing : (kind : Kind) {a : ℕ} → (Fits b → a < 65536) → Yielding b c s (λ z. addressed z kind a b.decoded.cost)
  unfolding addressed
  addressing kind h =
      if same kind LEAY does quietly (set_y w h) else
      if same kind LEAX does quietly (set_x_lem w h) else
      if same kind LEAS does quietly (set_sp w h) else
      if same kind JMP does quietly (set_pc w h) else
      subroutine w h

  changing_bits :
      (set : Bool) (mask v : ℕ) {a : ℕ} → (Fits b → mask < 256) → (Fits b → v < 256) → (Fits b → a < 65536) →
      Yielding b c s (λ z. bits_changed z set mask v a b.decoded.cost)
  unfolding bits_changed
  changing_bits true mask v m h g = with_byte_lem (set_codes w refl) g (λ k. or_lt 8 _ _ (h k) (m k))
  changing_bits false mask v m h g = with_byte_lem (set_codes w refl) g (λ k. and_lt 8 _ _ (h k) (omega arith))

  on_bits : (kind : Kind) {a : ℕ} → (Fits b → a < 65536) → Yielding b c s (λ z. bitted z b.memory kind a b.decoded.cost)
  unfolding bitted
  on_bits kind {a} h =
      let m = b.memory in
      let v = byte_at m a in
      let last = byte_at m (minus_w s.pc 1) in
      let mask = byte_at m (minus_w s.pc 2) in
      if same kind BSET does changing_bits true last v (λ k. byte_in_lem k _) (λ k. byte_in_lem k _) h else
      if same kind BCLR does changing_bits false last v (λ k. byte_in_lem k _) (λ k. byte_in_lem k _) h else
      if same kind BRSET does branch w (all_set v mask) _ else
      branch w (all_clear v mask) _

module _ (s : State) (m : List ℕ) (line : ℕ) (d : Decoded) (c : ℕ) where
  abbrev b : Before
  b = before s m line d

  pub stack : Yielding b c s (λ z. stack_effect z m d)
  unfolding stack_effect
  stack = stacking start d.kind

  pub short_branch : IsBranch d → Yielding b c s (λ z. short_effect z m d)
  unfolding short_effect
  short_branch is =
      if condition_of s.flags (member_of d.kind) does quietly (set_pc start (λ k. omega arith)) else staying start is

  pub long_branch : IsBranch d → Yielding b c s (λ z. long_effect z m d)
  unfolding long_effect
  long_branch is =
      if condition_of s.flags (member_of d.kind) does quietly (set_pc start (λ k. omega arith)) else staying start is

  loop : Yielding b c s (λ z. loop_done z (byte_at m d.at) (byte_at m (plus_w d.at 1)) d.cost)
  unfolding loop_done
  loop = looping start (byte_at m d.at / 32) _ (byte_at m d.at % 8)

  pub control : Yielding b c s (λ z. control_effect z m d)
  unfolding control_effect control_done
  control =
      if same d.kind BSR does subroutine start (λ k. omega arith) else
      if same d.kind RTS does return start else
      if same d.kind WAI does waiting start else
      loop

  pub rti : d.kind ≡ RTI → Yielding b c s (λ z. rti_effect z m line d.cost)
  unfolding rti_effect pulled_frame
  rti is =
      let pulled = pulling start in
      if ltb (allowed_line (pulled_frame s m).flags line) no_line does taking (set_sp pulled (λ k. k.registers.sp)) is else
      quietly pulled

  pub address : Yielding b c s (λ z. address_effect z m d)
  unfolding address_effect
  address =
      let p = place s m line d c in
      rw p.same (addressing p.state d.kind p.address)

  pub bits : Yielding b c s (λ z. bits_effect z m d)
  unfolding bits_effect
  bits =
      let p = place s m line d c in
      rw p.same (on_bits p.state d.kind p.address)

  move_byte : Yielding b c s (λ z. byte_move_effect z m d)
  unfolding byte_move_effect
  move_byte =
      let p = way s m line d c 1 in
      rw p.same (with_byte_lem p.state p.target (λ k. byte_in_lem k _))

  move_word : Yielding b c s (λ z. word_move_effect z m d)
  unfolding word_move_effect
  move_word =
      let p = way s m line d c 2 in
      rw p.same (with_word p.state p.target (λ k. word_in k _))

  pub move : Yielding b c s (λ z. move_effect z m d)
  unfolding move_effect
  move = if same d.kind MOVB does move_byte else move_word
