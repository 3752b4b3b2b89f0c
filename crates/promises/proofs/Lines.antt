-- The requests in plain numbers, and what is done at PC where the opcode is known. On the definitions alone. Assumes nothing.
use Prim.Native.Nat.{ℕ, ◌+◌, ◌/◌, ◌%◌, ◌^◌, ◌<◌, ◌≤◌}
use native.Mathlib.Omega.{arith}
use Rattle.std.proofs.Common.{Ok, Err}
use Rattle.std.proofs.Math.Bool.{and-false}
use mathlib.Core.Path.{◌≡◌, refl, sym, ◌∙◌, ap, subst}
use mathlib.Core.Bool.{Bool, true, false, ◌&&◌, ◌||◌, not}
use mathlib.Core.List.{List}
use lib.Dec.{eqb}
use lib.ListN.{length}
use borrow.Author.Tests.{lt-ltb, le-ltb}
use Rattle.word.specs.Word.{pick, plus_w, minus_w, bit_of}
use Rattle.memory.specs.Memory.{byte_at, committed}
use Rattle.memory.proofs.Laws.{store_none}
use Rattle.state.specs.declared.Flags.{Flags}
use Rattle.state.specs.declared.State.{State}
use Rattle.state.specs.Ccr.{set_x, set_i}
use Rattle.state.specs.State.{with_sp, with_pc}
use Rattle.opcodes.specs.declared.Cell.{Cell}
use Rattle.opcodes.specs.declared.kind.ControlOp.TheVariants.{Rti}
use Rattle.opcodes.specs.Kind.{RTI, same}
use Rattle.opcodes.specs.Map.{cell_number, cell_of}
use Rattle.opcodes.specs.Postbyte.{form_of, reserved_of, cost_of}
use Rattle.opcodes.specs.Rules.{stops_of}
use Rattle.opcodes.proofs.Cells.{one_rti}
use Rattle.decode.specs.declared.Decoded.{Decoded}
use Rattle.decode.specs.declared.Halt.TheVariants.{Stopped, Reserved}
use Rattle.decode.specs.Decode.{cell_at, after_opcode, second_reserved, reserved_at, decoded_is, decoded_of, fetched_of}
use Rattle.effect.specs.Effect.{quiet}
use Rattle.frames.specs.Frames.{frame_of, frame_store, interrupt_effect, pulled_frame}
use Rattle.machine.specs.declared.Reply.TheVariants.{Done}
use Rattle.machine.specs.Names.{line_vector, no_line, idle_cost}
use Rattle.requests.proofs.Laws.{lowest_first, returns_taking, returns_plainly}
use Rattle.requests.specs.Requests.{lowest_line, allowed_line, line_after_pull, masked, entry_effect, vectored, wake_effect, rti_effect}
use Rattle.turn.specs.Turn.{Turn, controlled, executed, turn_is, instructed, turn_of}
use Rattle.walk.specs.Words.{Words}
use Rattle.walk.specs.Turns.{instruction_at}
use Rattle.walk.proofs.Control.{same_control}
use Rattle.walk.proofs.Registers.{frame_bytes, set_pc}
use Rattle.word.proofs.Laws.{both}
use Rattle.promises.specs.Frame.{FrameAt}
use Rattle.promises.specs.Plain.{At, AtTwo, EnteredBy, WokenBy, Vectors, LetsNone, TakenBy, EveryRequest, EveryEndOfAWait, EveryMaskedRequest, EveryIdleCycle, EveryReturnToARequest}
use Rattle.promises.proofs.Boundaries.{nine_stored}
use Rattle.promises.proofs.Frame.{frame_at}

-- What a turn that is known leaves.
abbrev pub of_cost : Turn → ℕ
of_cost t = t.effect.cost

abbrev pub of_state : Turn → State
of_state t = t.effect.state

abbrev pub of_flags : Turn → Flags
of_flags t = t.effect.state.flags

-- The line that is entered, by the bits that are up.

-- bit 0 is told by the number itself
undivided : (n : ℕ) → n / 2 ^ 0 ≡ n
undivided n = omega arith

xirq_allowed : (f : Flags) (line : ℕ) → f.x ≡ false → line % 2 ≡ 1 → allowed_line f line ≡ 0
unfolding allowed_line
xirq_allowed f line clear up = rw (undivided line, up, clear)

-- XIRQ is not let through
xirq_shut : (f : Flags) (line : ℕ) → (f.x ≡ false → line % 2 ≡ 0) → (bit_of 0 line && not f.x) ≡ false
xirq_shut f line shut = go f.x refl
  where
    go : (x : Bool) → f.x ≡ x → (bit_of 0 line && not x) ≡ false
    go true is = and-false (bit_of 0 line)
    go false is = rw (undivided line, shut is)

other_allowed : (f : Flags) (line : ℕ) → (f.x ≡ false → line % 2 ≡ 0) → f.i ≡ false → allowed_line f line ≡ lowest_line line
unfolding allowed_line
other_allowed f line shut clear = rw (xirq_shut f line shut, clear)

-- Each line by its vector, where every line that is to be entered goes by its own.
vectors :
    (s : State) (line : ℕ) (Goes : ℕ → Bool → Type 0) →
    ((k : ℕ) → k < no_line → allowed_line s.flags line ≡ k → Goes (line_vector k) (masked k s.flags).x) →
    Vectors s line Goes
vectors s line Goes goes =
    record {
      xirq = λ clear up. goes 0 (omega arith) (xirq_allowed s.flags line clear up);
      others = λ shut clear.
          let is = other_allowed s.flags line shut clear in (
            λ up. goes 1 (omega arith) (is ∙ (lowest_first line).one up),
            λ up. goes 2 (omega arith) (is ∙ (lowest_first line).two up),
            λ up. goes 3 (omega arith) (is ∙ (lowest_first line).three up),
            λ up. goes 4 (omega arith) (is ∙ (lowest_first line).four up),
            λ up. goes 5 (omega arith) (is ∙ (lowest_first line).five up),
          );
    }

-- Entries by a vector, and the frame that they push.

-- the frame that is stored, by places
pub framed : (m : List ℕ) (s : State) → Words s → length m ≡ 65536 → FrameAt (committed m (frame_store s)) (minus_w s.sp 9) s
framed m s words whole =
    frame_at _ (minus_w s.sp 9) s (omega arith)
    (nine_stored m (minus_w s.sp 9) (frame_of s) whole (omega arith) refl (frame_bytes words).at)

pub entered_by :
    (s : State) (m : List ℕ) (line vector cycles stacked : ℕ) (after : Flags) →
    turn_of s m line ≡ turn_is Done (interrupt_effect (with_pc s stacked) m vector after cycles) →
    after.i ≡ true →
    Words s →
    stacked < 65536 →
    length m ≡ 65536 →
    EnteredBy vector cycles stacked after.x s m line
unfolding interrupt_effect
entered_by s m line vector cycles stacked after is i words inside whole =
    record {
      reply = ap (λ (t : Turn). t.reply) is;
      pc = ap (λ t. (of_state t).pc) is;
      sp = ap (λ t. (of_state t).sp) is;
      frame = rw is (framed m (with_pc s stacked) (set_pc words inside) whole);
      i = ap (λ t. (of_flags t).i) is ∙ i;
      x = ap (λ t. (of_flags t).x) is;
      cost = ap of_cost is;
    }

masked_i : (k : ℕ) (f : Flags) → (masked k f).i ≡ true
masked_i k f = both (λ (g : Flags). g.i ≡ true) (eqb k 0) _ _ refl refl

pub entry_turn :
    (s : State) (m : List ℕ) (line k : ℕ) → allowed_line s.flags line ≡ k → k < no_line → s.standing.waiting ≡ false →
    turn_of s m line ≡ turn_is Done (entry_effect s m k)
unfolding turn_of
entry_turn s m line k is low awake = rw (is, lt-ltb k no_line low, awake)

wake_turn :
    (s : State) (m : List ℕ) (line k : ℕ) → allowed_line s.flags line ≡ k → k < no_line → s.standing.waiting ≡ true →
    turn_of s m line ≡ turn_is Done (wake_effect s m k)
unfolding turn_of
wake_turn s m line k is low waits = rw (is, lt-ltb k no_line low, waits)

pub every_request : EveryRequest
unfolding entry_effect
every_request s m line words whole awake =
    vectors s line (λ vector x. EnteredBy vector 9 s.pc x s m line)
    (λ k low is.
    entered_by s m line (line_vector k) 9 s.pc (masked k s.flags) (entry_turn s m line k is low awake)
    (masked_i k s.flags) words words.pc whole)

pub every_end_of_a_wait : EveryEndOfAWait
unfolding wake_effect
every_end_of_a_wait s m line waits =
    vectors s line (λ vector x. WokenBy vector x s m line)
    (λ k low is.
    let turn = wake_turn s m line k is low waits in
    record {
      reply = ap (λ (t : Turn). t.reply) turn;
      pc = ap (λ t. (of_state t).pc) turn;
      sp = ap (λ t. (of_state t).sp) turn;
      memory = ap (λ (t : Turn). committed m t.effect.store) turn ∙ store_none m;
      awake = ap (λ t. (of_state t).standing.waiting) turn;
      i = ap (λ t. (of_flags t).i) turn ∙ masked_i k s.flags;
      x = ap (λ t. (of_flags t).x) turn;
      cost = ap of_cost turn;
    })

-- none is let through
none_allowed : (f : Flags) (line : ℕ) → (f.x ≡ false → line % 2 ≡ 0) → (f.i ≡ false → line / 2 % 32 ≡ 0) → allowed_line f line ≡ no_line
unfolding allowed_line
none_allowed f line shut none = rw (xirq_shut f line shut) (go f.i refl)
  where
    go : (i : Bool) → f.i ≡ i → pick i no_line (lowest_line line) ≡ no_line
    go true is = refl
    go false is = (lowest_first line).none (none is)

pub none_up : (f : Flags) → allowed_line f 0 ≡ no_line
none_up f = none_allowed f 0 (λ _. refl) (λ _. refl)

pub every_idle_cycle : EveryIdleCycle
unfolding turn_of
every_idle_cycle s m waits =
    let turn : turn_of s m 0 ≡ turn_is Done (quiet s 1) = rw (none_up s.flags, waits) in
    (ap of_cost turn, ap of_state turn, ap (λ (t : Turn). committed m t.effect.store) turn ∙ store_none m)

-- What is done at PC, where the opcode is known.

-- a cell's instruction under a line byte, with the first byte after its opcode; and with no line up
abbrev cell_under : State → List ℕ → ℕ → Cell → ℕ → Turn
cell_under s m line c at =
    instructed s m line (pick (stops_of c) (Err Stopped) (pick (reserved_at m c at) (Err Reserved) (Ok (decoded_of m s.pc c at))))

abbrev pub cell_turn : State → List ℕ → Cell → ℕ → Turn
cell_turn s m c at =
    cell_under s m 0 c at

-- no line is up
quiet_line : (f : Flags) → no_line ≤ allowed_line f 0
quiet_line f = let none = none_up f in omega (arith, none)

at_pc_lem :
    (s : State) (m : List ℕ) (line : ℕ) → no_line ≤ allowed_line s.flags line → s.standing.waiting ≡ false →
    turn_of s m line ≡ instructed s m line (fetched_of m s.pc)
unfolding turn_of
at_pc_lem s m line none awake = rw (le-ltb _ _ none, awake)

fetched_one : (m : List ℕ) (pc opcode : ℕ) → byte_at m pc ≡ opcode → eqb opcode 0x18 ≡ false → fetched_of m pc ≡ pick (stops_of (cell_of opcode)) (Err Stopped) (pick (reserved_at m (cell_of opcode) (plus_w pc 1)) (Err Reserved) (Ok (decoded_of m pc (cell_of opcode) (plus_w pc 1))))
unfolding fetched_of
fetched_one m pc opcode is one = rw (is, one)

fetched_two : (m : List ℕ) (pc opcode : ℕ) → byte_at m pc ≡ 0x18 → byte_at m (plus_w pc 1) ≡ opcode → fetched_of m pc ≡ pick (stops_of (cell_of (256 + opcode))) (Err Stopped) (pick (reserved_at m (cell_of (256 + opcode)) (plus_w pc 2)) (Err Reserved) (Ok (decoded_of m pc (cell_of (256 + opcode)) (plus_w pc 2))))
unfolding fetched_of
fetched_two m pc opcode is second = rw (is, second)

turn_under :
    (s : State) (m : List ℕ) (line opcode : ℕ) → At s m opcode → eqb opcode 0x18 ≡ false → no_line ≤ allowed_line s.flags line →
    turn_of s m line ≡ cell_under s m line (cell_of opcode) (plus_w s.pc 1)
turn_under s m line opcode at one none =
    at_pc_lem s m line none at.0 ∙ ap (instructed s m line) (fetched_one m s.pc opcode at.1 one)

pub turn_one : (s : State) (m : List ℕ) (opcode : ℕ) → At s m opcode → eqb opcode 0x18 ≡ false → turn_of s m 0 ≡ cell_turn s m (cell_of opcode) (plus_w s.pc 1)
turn_one s m opcode at one = turn_under s m 0 opcode at one (quiet_line s.flags)

pub turn_two : (s : State) (m : List ℕ) (opcode : ℕ) → AtTwo s m 0x18 opcode → turn_of s m 0 ≡ cell_turn s m (cell_of (256 + opcode)) (plus_w s.pc 2)
turn_two s m opcode at = at_pc_lem s m 0 (quiet_line s.flags) at.0.0 ∙ ap (instructed s m 0) (fetched_two m s.pc opcode at.0.1 at.1)

-- the same where the byte after the opcode is known too
abbrev pub postbyte_turn : State → List ℕ → Cell → ℕ → Turn
postbyte_turn s m c p =
    instructed s m 0
    (pick (stops_of c) (Err Stopped)
    (pick (reserved_of c p || second_reserved m c (plus_w s.pc 1)) (Err Reserved)
    (Ok (decoded_is s.pc c (plus_w s.pc 1) p (form_of p) (cost_of c p)))))

pub turn_postbyte : (s : State) (m : List ℕ) (opcode p : ℕ) → AtTwo s m opcode p → eqb opcode 0x18 ≡ false → turn_of s m 0 ≡ postbyte_turn s m (cell_of opcode) p
turn_postbyte s m opcode p at one = turn_one s m opcode at.0 one ∙ ap of at.1
  where
    of : ℕ → Turn
    of q = postbyte_turn s m (cell_of opcode) q

-- RTI, whose line byte counts.

-- where no request is entered before it
pub rti_turn :
    (s : State) (m : List ℕ) (line : ℕ) → At s m 0x0B → no_line ≤ allowed_line s.flags line →
    turn_of s m line ≡ turn_is Done (rti_effect (with_pc s (plus_w s.pc 1)) m line 8)
unfolding cell_of reserved_of cost_of instructed executed controlled
rti_turn s m line at none = turn_under s m line 0x0B at refl none

-- by whether the masks that it pulls allow one
pub rti_plain :
    (s : State) (m : List ℕ) (line : ℕ) → At s m 0x0B → no_line ≤ allowed_line s.flags line →
    no_line ≤ line_after_pull s m line →
    turn_of s m line ≡ turn_is Done (quiet (pulled_frame s m) 8)
unfolding pulled_frame
rti_plain s m line at none shut = rti_turn s m line at none ∙ ap (turn_is Done) (returns_plainly (with_pc s (plus_w s.pc 1)) m line 8 refl refl shut)

pub rti_taken :
    (s : State) (m : List ℕ) (line : ℕ) → At s m 0x0B → no_line ≤ allowed_line s.flags line →
    line_after_pull s m line < no_line →
    turn_of s m line
    ≡ turn_is Done (quiet (vectored (with_sp (pulled_frame s m) s.sp) m (line_after_pull s m line)) 10)
unfolding pulled_frame
rti_taken s m line at none up = rti_turn s m line at none ∙ ap (turn_is Done) (returns_taking (with_pc s (plus_w s.pc 1)) m line 8 refl refl up)

-- with no line up
pub rti_alone : (s : State) (m : List ℕ) → At s m 0x0B → turn_of s m 0 ≡ turn_is Done (quiet (pulled_frame s m) 8)
rti_alone s m at = rti_plain s m 0 at (quiet_line s.flags) (quiet_line (pulled_frame s m).flags)

shut_line : (f : Flags) (line : ℕ) → LetsNone f.x f.i line → no_line ≤ allowed_line f line
shut_line f line shut = let none = none_allowed f line shut.xirq shut.others in omega (arith, none)

-- the masks of an entry, over any codes
masks_over : (k : ℕ) (f : Flags) → masked k f ≡ set_x (set_i f true) (masked k f).x
masks_over k f = both (λ (g : Flags). g ≡ set_x (set_i f true) g.x) (eqb k 0) _ _ refl refl

taken_by :
    (s : State) (m : List ℕ) (line k : ℕ) → At s m 0x0B → no_line ≤ allowed_line s.flags line → k < no_line →
    line_after_pull s m line ≡ k →
    TakenBy (line_vector k) (masked k (pulled_frame s m).flags).x s m line
taken_by s m line k at none low is =
    let pulled = pulled_frame s m in
    let alone = rti_alone s m at in
    let turn : turn_of s m line ≡ turn_is Done (quiet (vectored (with_sp pulled s.sp) m k) 10) =
    rti_taken s m line at none (rw is low) ∙ ap (λ j. turn_is Done (quiet (vectored (with_sp pulled s.sp) m j) 10)) is in
    record {
      reply = ap (λ (t : Turn). t.reply) turn;
      b = ap (λ t. (of_state t).b) turn ∙ sym (ap (λ t. (of_state t).b) alone);
      a = ap (λ t. (of_state t).a) turn ∙ sym (ap (λ t. (of_state t).a) alone);
      x = ap (λ t. (of_state t).x) turn ∙ sym (ap (λ t. (of_state t).x) alone);
      y = ap (λ t. (of_state t).y) turn ∙ sym (ap (λ t. (of_state t).y) alone);
      pc = ap (λ t. (of_state t).pc) turn;
      sp = ap (λ t. (of_state t).sp) turn;
      codes =
          ap of_flags turn
          ∙ masks_over k pulled.flags
          ∙ sym (ap (λ (t : Turn). set_x (set_i t.effect.state.flags true) (masked k pulled.flags).x) alone);
      memory = ap (λ (t : Turn). committed m t.effect.store) turn ∙ store_none m;
      cost = ap of_cost turn;
    }

pub every_return_to_a_request : EveryReturnToARequest
every_return_to_a_request s m line at shut =
    subst (λ (t : Turn). Vectors t.effect.state line (λ vector x. TakenBy vector x s m line)) (sym (rti_alone s m at))
    (vectors (pulled_frame s m) line (λ vector x. TakenBy vector x s m line)
    (λ k low is. taken_by s m line k at (shut_line s.flags line shut) low is))

-- No other instruction asks for the line byte.

-- the cell of RTI stands at 0B alone
rti_at : (m : List ℕ) (pc : ℕ) → (cell_at m pc).kind ≡ RTI → byte_at m pc ≡ 0x0B
rti_at m pc = go (eqb (byte_at m pc) 0x18)
  where
    go : (b : Bool) → (cell_of (cell_number b (pick b (byte_at m (plus_w pc 1)) (byte_at m pc)))).kind ≡ RTI → byte_at m pc ≡ 0x0B
    go true is = let no = one_rti (256 + byte_at m (plus_w pc 1)) is in absurd (omega (arith, no))
    go false is = one_rti (byte_at m pc) is

unheard :
    (s : State) (m : List ℕ) (line : ℕ) (d : Decoded) →
    (d.kind ≡ RTI → no_line ≤ line_after_pull s m line) →
    executed s m line d ≡ executed s m 0 d
unfolding executed controlled rti_effect
unheard s m line d shut = go (same d.kind RTI) refl
  where
    go : (b : Bool) → same d.kind RTI ≡ b → executed s m line d ≡ executed s m 0 d
    go true is = rw (le-ltb _ _ (shut (same_control d.kind Rti is)), le-ltb _ _ (quiet_line (pulled_frame s m).flags))
    go false is = rw is

nothing_heard :
    (s : State) (m : List ℕ) (line : ℕ) →
    ((cell_at m s.pc).kind ≡ RTI → no_line ≤ line_after_pull s m line) →
    instructed s m line (fetched_of m s.pc) ≡ instructed s m 0 (fetched_of m s.pc)
unfolding instructed fetched_of pulled_frame
nothing_heard s m line shut = go (stops_of (cell_at m s.pc)) (reserved_at m (cell_at m s.pc) (after_opcode m s.pc))
  where
    go :
        (st rs : Bool) →
        instructed s m line (pick st (Err Stopped) (pick rs (Err Reserved) (Ok (instruction_at m s.pc))))
        ≡ instructed s m 0 (pick st (Err Stopped) (pick rs (Err Reserved) (Ok (instruction_at m s.pc))))
    go true rs = refl
    go false true = refl
    go false false = ap (turn_is Done) (unheard _ m line (instruction_at m s.pc) shut)

pub every_masked_request : EveryMaskedRequest
unfolding turn_of
every_masked_request s m line shut pulls =
    rw (le-ltb _ _ (shut_line s.flags line shut), le-ltb _ _ (quiet_line s.flags)) (go s.standing.waiting refl)
  where
    still_shut : s.standing.waiting ≡ false → (cell_at m s.pc).kind ≡ RTI → no_line ≤ line_after_pull s m line
    still_shut awake is =
        let at : At s m 0x0B = (awake, rti_at m s.pc is) in
        shut_line (pulled_frame s m).flags line
        (subst (λ (t : Turn). LetsNone t.effect.state.flags.x t.effect.state.flags.i line) (rti_alone s m at) (pulls at))

    go :
        (w : Bool) → s.standing.waiting ≡ w →
        pick w (turn_is Done (quiet s idle_cost)) (instructed s m line (fetched_of m s.pc))
        ≡ pick w (turn_is Done (quiet s idle_cost)) (instructed s m 0 (fetched_of m s.pc))
    go true is = refl
    go false is = nothing_heard s m line (still_shut is)
