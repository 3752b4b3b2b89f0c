-- An RTI that takes a request leaves what RTI and an ordinary entry leave. On the definitions alone. Assumes nothing.
use Prim.Native.Nat.{ℕ, zero, suc, ◌+◌, ◌/◌, ◌%◌, ◌<◌}
use native.Mathlib.Omega.{arith}
use mathlib.Core.Path.{◌≡◌, refl, sym, ◌∙◌, ap}
use mathlib.Core.Bool.{Bool, true, false, ◌&&◌}
use mathlib.Core.List.{List}
use lib.Dec.{ltb}
use lib.ListN.{length, get_or}
use borrow.Author.Tests.{ltb-true, eq-eqb, ne_eqb}
use Rattle.word.specs.Word.{pick, plus_w, minus_w, bit_of, high_of, low_of}
use Rattle.word.proofs.Laws.{high_word_lem, low_word_lem, minus_plus}
use Rattle.memory.specs.Memory.{byte_at, word_at, AreBytes, store_all, committed}
use Rattle.memory.proofs.Laws.{store_none, stores_exactly, store_by_byte}
use Rattle.state.specs.declared.Flags.{Flags}
use Rattle.state.specs.declared.State.{State}
use Rattle.state.specs.Ccr.{ccr_of, flags_of, take_ccr, set_x}
use Rattle.state.specs.State.{with_sp, with_pc, with_flags, with_clock}
use Rattle.state.proofs.Laws.{byte_again}
use Rattle.effect.specs.Effect.{quiet}
use Rattle.frames.specs.Frames.{frame_of, frame_store, interrupt_effect, pulled_frame}
use Rattle.machine.specs.declared.Reply.TheVariants.{Done}
use Rattle.machine.specs.Names.{line_vector}
use Rattle.requests.specs.Requests.{allowed_line, line_after_pull, masked, entry_effect, vectored}
use Rattle.turn.specs.Turn.{Turn, turn_is, turn_of}
use Rattle.refusals.specs.Given.{line_in}
use Rattle.steps.specs.Steps.{turn_state, next_state, next_memory}
use Rattle.walk.specs.Words.{Words}
use Rattle.walk.proofs.Registers.{frame_bytes}
use Rattle.promises.specs.BackToBack.{RtiTakes, between, memory_between, by_two, memory_by_two, BackToBack, TheLinesWhereRtiBegins}
use Rattle.promises.proofs.Lines.{of_cost, of_state, entry_turn, rti_plain, rti_taken, rti_alone}
use Rattle.promises.proofs.Words.{every_step_keeps_words}

-- The frame that was pulled, pushed again.

-- each of its bytes but the first is the byte that was pulled
module _ (s : State) (m : List ℕ) (bytes : AreBytes m) where
  -- a word's bytes
  high : (j : ℕ) → high_of (word_at m (plus_w s.sp j)) ≡ byte_at m (plus_w s.sp j)
  high j = high_word_lem (byte_at m (plus_w s.sp j)) (bytes (plus_w (plus_w s.sp j) 1))

  low : (j : ℕ) → low_of (word_at m (plus_w s.sp j)) ≡ byte_at m (plus_w s.sp (suc j))
  low j =
      let next : plus_w (plus_w s.sp j) 1 ≡ plus_w s.sp (suc j) = omega arith in
      low_word_lem (byte_at m (plus_w s.sp j)) (bytes (plus_w (plus_w s.sp j) 1)) ∙ ap (byte_at m) next

  pulled_byte : (j : ℕ) → j < 8 → get_or (frame_of (pulled_frame s m)) (suc j) 0 ≡ byte_at m (plus_w s.sp (suc j))
  unfolding pulled_frame
  pulled_byte zero h = refl
  pulled_byte (suc zero) h = refl
  pulled_byte (suc (suc zero)) h = high 3
  pulled_byte (suc (suc (suc zero))) h = low 3
  pulled_byte (suc (suc (suc (suc zero)))) h = high 5
  pulled_byte (suc (suc (suc (suc (suc zero))))) h = low 5
  pulled_byte (suc (suc (suc (suc (suc (suc zero)))))) h = high 7
  pulled_byte (suc (suc (suc (suc (suc (suc (suc zero))))))) h = low 7
  pulled_byte (suc (suc (suc (suc (suc (suc (suc (suc j)))))))) h = absurd (omega (arith, h))

-- the byte of the codes, taken in under the rule for X
same_codes : (f : Flags) (b : ℕ) → b < 256 → (f.x ≡ false → b / 64 % 2 ≡ 0) → ccr_of (take_ccr f b) ≡ b
same_codes f b h shut = go f.x refl
  where
    go : (x : Bool) → f.x ≡ x → ccr_of (set_x (flags_of b) (x && bit_of 6 b)) ≡ b
    go true is = byte_again b h
    go false is =
        let clear = shut is in
        let down : bit_of 6 b ≡ false = ne_eqb (b / 64 % 2) 1 (λ up. omega (arith, up, clear)) in
        sym (ap (λ t. ccr_of (set_x (flags_of b) t)) down) ∙ byte_again b h

less_x : (f : Flags) (b : ℕ) → b < 256 → f.x ≡ false → b / 64 % 2 ≡ 1 → ccr_of (take_ccr f b) + 64 ≡ b
less_x f b h clear set =
    let up : bit_of 6 b ≡ true = eq-eqb (b / 64 % 2) 1 set in
    let less : ccr_of (set_x (flags_of b) false) + 64 ≡ ccr_of (set_x (flags_of b) true) = omega arith in
    rw clear (less ∙ sym (ap (λ t. ccr_of (set_x (flags_of b) t)) up) ∙ byte_again b h)

module _ (s : State) (m : List ℕ) (words : Words s) (bytes : AreBytes m) (whole : length m ≡ 65536) (fits : Words (pulled_frame s m)) where
  -- the memory after the frame was pushed again, whatever the clock
  again : ℕ → List ℕ
  again clock = committed m (frame_store (with_clock (pulled_frame s m) clock))

  again_at :
      (clock a : ℕ) → a < 65536 →
      byte_at (again clock) a
      ≡ pick (ltb (minus_w a s.sp) 9) (get_or (frame_of (pulled_frame s m)) (minus_w a s.sp) 0) (byte_at m a)
  unfolding again pulled_frame
  again_at clock a inside =
      let frame = frame_of (pulled_frame s m) in
      let start = minus_w (plus_w s.sp 9) 9 in
      ap (λ run. byte_at (store_all m start run) a) (store_by_byte.nine start frame refl (frame_bytes fits).at)
      ∙ ap (λ from. byte_at (store_all m from frame) a) (minus_plus words.sp (omega arith))
      ∙ stores_exactly m s.sp frame a whole words.sp (omega arith) inside

  again_elsewhere : (clock a : ℕ) → a < 65536 → (a ≡ s.sp → ⊥) → byte_at (again clock) a ≡ byte_at m a
  again_elsewhere clock a inside other = again_at clock a inside ∙ near (ltb (minus_w a s.sp) 9) refl
    where
      by_distance : (j : ℕ) → minus_w a s.sp ≡ j → j < 9 → get_or (frame_of (pulled_frame s m)) j 0 ≡ byte_at m a
      by_distance zero is h = absurd (other (omega (arith, is, inside, words.sp)))
      by_distance (suc j) is h =
          pulled_byte s m bytes j (omega (arith, h)) ∙ ap (byte_at m) (omega (arith, is, inside, words.sp, h))

      near :
          (b : Bool) → ltb (minus_w a s.sp) 9 ≡ b →
          pick b (get_or (frame_of (pulled_frame s m)) (minus_w a s.sp) 0) (byte_at m a) ≡ byte_at m a
      near true is = by_distance (minus_w a s.sp) refl (ltb-true _ _ is)
      near false is = refl

  again_codes : (clock : ℕ) → byte_at (again clock) s.sp ≡ ccr_of (take_ccr s.flags (byte_at m s.sp))
  unfolding pulled_frame
  again_codes clock =
      let here : minus_w s.sp s.sp ≡ 0 = omega (arith, words.sp) in
      again_at clock s.sp words.sp
      ∙ ap (λ j. pick (ltb j 9) (get_or (frame_of (pulled_frame s m)) j 0) (byte_at m s.sp)) here

-- The two steps.

module _ (s : State) (m : List ℕ) (line : ℕ) (takes : RtiTakes s m line) where
  abbrev k : ℕ
  k = line_after_pull s m line

  abbrev pulled : State
  pulled = pulled_frame s m

  alone : turn_of s m 0 ≡ turn_is Done (quiet pulled 8)
  alone = rti_alone s m takes.at

  ten : turn_of s m line ≡ turn_is Done (quiet (vectored (with_sp pulled s.sp) m k) 10)
  ten = rti_taken s m line takes.at takes.before takes.after

  entered : turn_of (between s m) (memory_between s m) line ≡ turn_is Done (entry_effect (between s m) (memory_between s m) k)
  unfolding pulled_frame
  entered =
      entry_turn (between s m) (memory_between s m) line k (ap (λ (t : Turn). allowed_line t.effect.state.flags line) alone) takes.after
      (ap (λ t. (of_state t).standing.waiting) alone ∙ takes.at.0)

  two_stored : memory_by_two s m line ≡ committed m (frame_store (with_clock pulled (s.clock + 8)))
  unfolding entry_effect interrupt_effect
  two_stored =
      ap (λ (t : Turn). committed (memory_between s m) t.effect.store) entered
      ∙ ap (λ (t : Turn). committed (committed m t.effect.store) (frame_store (with_clock t.effect.state (s.clock + t.effect.cost)))) alone
      ∙ ap (λ n. committed n (frame_store (with_clock pulled (s.clock + 8)))) (store_none m)

  -- an entry's state, from a state and a memory, at a clock
  abbrev entryState : State → List ℕ → ℕ → State
  entryState u n clock =
      with_clock (with_pc (with_flags (with_sp u (minus_w u.sp 9)) (masked k u.flags)) (word_at n (line_vector k))) clock

  one_state : Words s → (clock : ℕ) → with_clock (turn_state s m line) clock ≡ with_clock (by_two s m line) clock
  unfolding entry_effect interrupt_effect pulled_frame
  one_state words clock =
      ap (λ (t : Turn). with_clock t.effect.state clock) ten
      ∙ sym
      (ap (λ (t : Turn). with_clock t.effect.state clock) entered
      ∙ ap (λ (t : Turn). entryState t.effect.state (committed m t.effect.store) clock) alone
      ∙ ap (λ n. entryState pulled n clock) (store_none m)
      ∙ ap (λ p. with_clock (vectored (with_sp pulled p) m k) clock) (minus_plus words.sp (omega arith)))

pub back_to_back : BackToBack
unfolding again entry_effect interrupt_effect
back_to_back s m line words bytes whole takes =
    let left : Words (turn_of s m 0).effect.state = (every_step_keeps_words s m 0 words bytes).registers in
    let fits : Words (pulled_frame s m) = rw (alone s m line takes) at left in
    let clock = s.clock + 8 in
    let stored = two_stored s m line takes in
    let codes = ap (λ n. byte_at n s.sp) stored ∙ again_codes s m words bytes whole fits clock in
    record {
      once = ap of_cost (ten s m line takes);
      first = ap of_cost (alone s m line takes);
      second = ap of_cost (entered s m line takes);
      entered = entered s m line takes;
      state = one_state s m line takes words;
      memory = ap (λ (t : Turn). committed m t.effect.store) (ten s m line takes) ∙ store_none m;
      elsewhere = λ a inside other.
          ap (λ n. byte_at n a) stored ∙ again_elsewhere s m words bytes whole fits clock a inside other;
      same_codes = λ shut. codes ∙ same_codes s.flags (byte_at m s.sp) (bytes s.sp) shut;
      less_x = λ clear set. ap (λ n. n + 64) codes ∙ less_x s.flags (byte_at m s.sp) (bytes s.sp) clear set;
    }

-- In a run.

pub the_lines_where_rti_begins : TheLinesWhereRtiBegins
unfolding pulled_frame
the_lines_where_rti_begins s m given at none =
    record {
      taken = λ up. ap of_cost (rti_taken s m (line_in given s.clock) at none up);
      plain = λ shut. ap of_cost (rti_plain s m (line_in given s.clock) at none shut);
      later = λ shut up.
          let plain = rti_plain s m (line_in given s.clock) at none shut in
          let there : Turn → ℕ = λ t. allowed_line t.effect.state.flags (line_in given (s.clock + t.effect.cost)) in
          entry_turn (next_state given s m) (next_memory given s m) (line_in given (next_state given s m).clock)
          (line_after_pull s m (line_in given (s.clock + 8))) (ap there plain) up
          (ap (λ t. (of_state t).standing.waiting) plain ∙ at.0);
    }
