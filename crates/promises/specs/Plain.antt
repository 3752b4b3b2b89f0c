-- The rules of docs/MACHINE.md in plain numbers: its sections "Requests", "Addresses", "Codes and undefined results" and "Traps for the hasty", a
-- line each. Here a vector is an address, a cost is a number, and a byte of a frame has its place; none of the machine's own names for
-- them is used. So a machine whose definitions and code were changed together would still be refused. `ARunIsItsSteps` (Steps.antt) says
-- that no part of a step is spent, and `BenchRows` (crates/witness) has the examples of docs/MACHINE.md. The theorems begin with `Every`; each
-- is proved under the same name, the line byte's in proofs/InForce.antt, those of requests in proofs/Lines.antt, the others in proofs/Plain.antt.
use Rattle.std.specs.Prelude.{ℕ, suc, ◌+◌, ◌-◌, ◌*◌, ◌/◌, ◌%◌, ◌<◌, ◌≤◌, ◌≡◌, Bool, true, false, ◌&&◌, List, eqb, length, get_or}
use Rattle.word.specs.Word.{plus_w, minus_w}
use Rattle.memory.specs.Memory.{byte_at, word_at}
use Rattle.state.specs.declared.Flags.{Flags}
use Rattle.state.specs.declared.State.{State}
use Rattle.state.specs.Ccr.{set_x, set_i}
use Rattle.state.specs.State.{with_pc}
use Rattle.effect.specs.declared.Effect.{Effect}
use Rattle.machine.specs.declared.Reply.TheVariants.{Done}
use Rattle.machine.specs.Reset.{reset_of}
use Rattle.refusals.specs.Given.{Given, line_in}
use Rattle.turn.specs.Turn.{turn_of}
use Rattle.steps.specs.Steps.{turn_memory}
use Rattle.walk.specs.Words.{Words}
use Rattle.promises.specs.Frame.{codes_byte, FrameAt}
use Rattle.promises.specs.Replies.{BadSchedule}

-- what a machine that does not wait has at PC: an opcode, or an opcode and the byte after it
abbrev pub At : State → List ℕ → ℕ → Type 0
At s m opcode = (s.standing.waiting ≡ false) × (byte_at m s.pc ≡ opcode)

abbrev pub AtTwo : State → List ℕ → ℕ → ℕ → Type 0
AtTwo s m opcode second = At s m opcode × (byte_at m (plus_w s.pc 1) ≡ second)

-- what the instruction there does, with no line up
abbrev pub done : State → List ℕ → Effect
done s m = (turn_of s m 0).effect

-- "Requests", "Traps for the hasty".

-- The line byte in force at a clock value: the last record's at or before it, else 0.
pub record InForceAt (given : Given) (clock : ℕ) : Type 0 where
  pub last :
      (k : ℕ) →
      k < length given.cycles →
      get_or given.cycles k 0 ≤ clock →
      (suc k < length given.cycles → clock < get_or given.cycles (suc k) 0) →
      line_in given clock ≡ get_or given.lines k 0
  pub none : (0 < length given.cycles → clock < get_or given.cycles 0 0) → line_in given clock ≡ 0

abbrev pub EveryLineByte : Type 0
EveryLineByte = (given : Given) (clock : ℕ) → (BadSchedule given → ⊥) → InForceAt given clock

-- An entry by a vector: PC is the word that the memory has there before the pushes; SP is 9 lower, and the nine bytes from there hold
-- the registers, with this PC; I is set, and X is as given.
pub record EnteredBy (vector cycles stacked : ℕ) (x-after : Bool) (s : State) (m : List ℕ) (line : ℕ) : Type 0 where
  pub reply : (turn_of s m line).reply ≡ Done
  pub pc : (turn_of s m line).effect.state.pc ≡ word_at m vector
  pub sp : (turn_of s m line).effect.state.sp ≡ minus_w s.sp 9
  pub frame : FrameAt (turn_memory s m line) (minus_w s.sp 9) (with_pc s stacked)
  pub i : (turn_of s m line).effect.state.flags.i ≡ true
  pub x : (turn_of s m line).effect.state.flags.x ≡ x-after
  pub cost : (turn_of s m line).effect.cost ≡ cycles

-- the end of a wait by a vector: nothing is pushed, and the wait is over
pub record WokenBy (vector : ℕ) (x-after : Bool) (s : State) (m : List ℕ) (line : ℕ) : Type 0 where
  pub reply : (turn_of s m line).reply ≡ Done
  pub pc : (turn_of s m line).effect.state.pc ≡ word_at m vector
  pub sp : (turn_of s m line).effect.state.sp ≡ s.sp
  pub memory : turn_memory s m line ≡ m
  pub awake : (turn_of s m line).effect.state.standing.waiting ≡ false
  pub i : (turn_of s m line).effect.state.flags.i ≡ true
  pub x : (turn_of s m line).effect.state.flags.x ≡ x-after
  pub cost : (turn_of s m line).effect.cost ≡ 6

-- The lines and their vectors, where the machine goes by a vector and leaves X so. XIRQ, bit 0, needs X clear, and then goes first. The
-- others, bits 1 to 5, need I clear, and the lowest that is up goes first; they leave X.
pub record Vectors (s : State) (line : ℕ) (Goes : ℕ → Bool → Type 0) : Type 0 where
  pub xirq : s.flags.x ≡ false → line % 2 ≡ 1 → Goes 0xFFF4 true
  pub others :
      (s.flags.x ≡ false → line % 2 ≡ 0) →
      s.flags.i ≡ false →
      (line / 2 % 2 ≡ 1 → Goes 0xFFF2 s.flags.x)
      × (line / 2 % 4 ≡ 2 → Goes 0xFFF0 s.flags.x)
      × (line / 2 % 8 ≡ 4 → Goes 0xFFEE s.flags.x)
      × (line / 2 % 16 ≡ 8 → Goes 0xFFEC s.flags.x)
      × (line / 2 % 32 ≡ 16 → Goes 0xFFEA s.flags.x)

abbrev pub EveryRequest : Type 0
EveryRequest =
    (s : State) (m : List ℕ) (line : ℕ) →
    Words s →
    length m ≡ 65536 →
    s.standing.waiting ≡ false →
    Vectors s line (λ vector x. EnteredBy vector 9 s.pc x s m line)

abbrev pub EveryEndOfAWait : Type 0
EveryEndOfAWait =
    (s : State) (m : List ℕ) (line : ℕ) →
    s.standing.waiting ≡ true →
    Vectors s line (λ vector x. WokenBy vector x s m line)

-- the masks X and I let none of the line byte through
pub record LetsNone (x i : Bool) (line : ℕ) : Type 0 where
  pub xirq : x ≡ false → line % 2 ≡ 0
  pub others : i ≡ false → line / 2 % 32 ≡ 0

-- where the masks let none through, and RTI, 0B, pulls none that do, the turn is that with no line up
abbrev pub EveryMaskedRequest : Type 0
EveryMaskedRequest =
    (s : State) (m : List ℕ) (line : ℕ) →
    LetsNone s.flags.x s.flags.i line →
    (At s m 0x0B → LetsNone (done s m).state.flags.x (done s m).state.flags.i line) →
    turn_of s m line ≡ turn_of s m 0

-- with no line up a machine that waits idles for a cycle
abbrev pub EveryIdleCycle : Type 0
EveryIdleCycle = (s : State) (m : List ℕ) → s.standing.waiting ≡ true → ((done s m).cost ≡ 1) × ((done s m).state ≡ s) × (turn_memory s m 0 ≡ m)

-- SWI, the traps (page 2 codes 30 to 39 and 40 to FF) and WAI. PC in the frame is the address after the instruction.
pub record Interrupts (s : State) (m : List ℕ) : Type 0 where
  pub swi : At s m 0x3F → EnteredBy 0xFFF6 9 (plus_w s.pc 1) s.flags.x s m 0
  pub trap_low : (code : ℕ) → 0x30 ≤ code → code ≤ 0x39 → AtTwo s m 0x18 code → EnteredBy 0xFFF8 10 (plus_w s.pc 2) s.flags.x s m 0
  pub trap_high : (code : ℕ) → 0x40 ≤ code → code ≤ 0xFF → AtTwo s m 0x18 code → EnteredBy 0xFFF8 10 (plus_w s.pc 2) s.flags.x s m 0
  pub wai : At s m 0x3E → FrameAt (turn_memory s m 0) (minus_w s.sp 9) (with_pc s (plus_w s.pc 1))
  pub wai_sp : At s m 0x3E → (done s m).state.sp ≡ minus_w s.sp 9
  pub wai_waits : At s m 0x3E → (done s m).state.standing.waiting ≡ true

abbrev pub EveryInterrupt : Type 0
EveryInterrupt = (s : State) (m : List ℕ) → Words s → length m ≡ 65536 → Interrupts s m

-- RTI, 0B: where each register comes from, and X set only where it was set before
pub record Returned (s : State) (m : List ℕ) : Type 0 where
  pub b : (done s m).state.b ≡ byte_at m (plus_w s.sp 1)
  pub a : (done s m).state.a ≡ byte_at m (plus_w s.sp 2)
  pub x : (done s m).state.x ≡ word_at m (plus_w s.sp 3)
  pub y : (done s m).state.y ≡ word_at m (plus_w s.sp 5)
  pub pc : (done s m).state.pc ≡ word_at m (plus_w s.sp 7)
  pub sp : (done s m).state.sp ≡ plus_w s.sp 9
  pub s_bit : (done s m).state.flags.s ≡ eqb (byte_at m s.sp / 128 % 2) 1
  pub x_bit : (done s m).state.flags.x ≡ (s.flags.x && eqb (byte_at m s.sp / 64 % 2) 1)
  pub h_bit : (done s m).state.flags.h ≡ eqb (byte_at m s.sp / 32 % 2) 1
  pub i_bit : (done s m).state.flags.i ≡ eqb (byte_at m s.sp / 16 % 2) 1
  pub n_bit : (done s m).state.flags.n ≡ eqb (byte_at m s.sp / 8 % 2) 1
  pub z_bit : (done s m).state.flags.z ≡ eqb (byte_at m s.sp / 4 % 2) 1
  pub v_bit : (done s m).state.flags.v ≡ eqb (byte_at m s.sp / 2 % 2) 1
  pub c_bit : (done s m).state.flags.c ≡ eqb (byte_at m s.sp / 1 % 2) 1
  pub cost : (done s m).cost ≡ 8

abbrev pub EveryReturn : Type 0
EveryReturn = (s : State) (m : List ℕ) → At s m 0x0B → Returned s m

-- RTI that takes a request by a vector: the registers and the codes are those that it pulls with no line up, but for the masks that an
-- entry sets; SP and every byte are as they were
pub record TakenBy (vector : ℕ) (x-after : Bool) (s : State) (m : List ℕ) (line : ℕ) : Type 0 where
  pub reply : (turn_of s m line).reply ≡ Done
  pub b : (turn_of s m line).effect.state.b ≡ (done s m).state.b
  pub a : (turn_of s m line).effect.state.a ≡ (done s m).state.a
  pub x : (turn_of s m line).effect.state.x ≡ (done s m).state.x
  pub y : (turn_of s m line).effect.state.y ≡ (done s m).state.y
  pub pc : (turn_of s m line).effect.state.pc ≡ word_at m vector
  pub sp : (turn_of s m line).effect.state.sp ≡ s.sp
  pub codes : (turn_of s m line).effect.state.flags ≡ set_x (set_i (done s m).state.flags true) x-after
  pub memory : turn_memory s m line ≡ m
  pub cost : (turn_of s m line).effect.cost ≡ 10

-- so it is where the masks before RTI let none through, and those that it pulls let one: the lines as of an entry, by the pulled masks
abbrev pub EveryReturnToARequest : Type 0
EveryReturnToARequest =
    (s : State) (m : List ℕ) (line : ℕ) →
    At s m 0x0B →
    LetsNone s.flags.x s.flags.i line →
    Vectors (done s m).state line (λ vector x. TakenBy vector x s m line)

-- the cycles of WAI, of products and of quotients (003, the HCS12 column)
pub record Costs (s : State) (m : List ℕ) : Type 0 where
  pub wai : At s m 0x3E → (done s m).cost ≡ 7
  pub mul : At s m 0x12 → (done s m).cost ≡ 1
  pub emul : At s m 0x13 → (done s m).cost ≡ 3
  pub emuls : AtTwo s m 0x18 0x13 → (done s m).cost ≡ 3
  pub emacs : AtTwo s m 0x18 0x12 → (done s m).cost ≡ 13
  pub ediv : At s m 0x11 → (done s m).cost ≡ 11
  pub edivs : AtTwo s m 0x18 0x14 → (done s m).cost ≡ 12
  pub idiv : AtTwo s m 0x18 0x10 → (done s m).cost ≡ 12
  pub idivs : AtTwo s m 0x18 0x15 → (done s m).cost ≡ 12
  pub fdiv : AtTwo s m 0x18 0x11 → (done s m).cost ≡ 12

abbrev pub EveryCost : Type 0
EveryCost = (s : State) (m : List ℕ) → Costs s m

-- a reset: PC is the word at FFFE; CCR is D0, which is S, X and I; all else is 0
pub record AfterReset (m : List ℕ) (s : State) : Type 0 where
  pub pc : s.pc ≡ word_at m 0xFFFE
  pub ccr : codes_byte s.flags ≡ 0xD0
  pub a : s.a ≡ 0
  pub b : s.b ≡ 0
  pub x : s.x ≡ 0
  pub y : s.y ≡ 0
  pub sp : s.sp ≡ 0
  pub clock : s.clock ≡ 0
  pub awake : s.standing.waiting ≡ false

abbrev pub EveryReset : Type 0
EveryReset = (m : List ℕ) → length m ≡ 65536 → AfterReset m (reset_of m)

-- "Addresses".

-- The address that LEAX, 1A, takes by each kind of postbyte; and of those that step X the address that LEAY, 19, takes, and X after it.
-- PC as a base is the address after the whole instruction. An accumulator is added without a sign. BRA, 20, counts from the instruction's
-- end too. PC wraps after NOP, A7, at FFFF; and so does the word that LDX 0,X, EE, reads there, with its high byte at FFFF.
pub record Addresses (s : State) (m : List ℕ) : Type 0 where
  pub five_most : AtTwo s m 0x1A 0x0F → (done s m).state.x ≡ (s.x + 15) % 65536
  pub five_least : AtTwo s m 0x1A 0x10 → (done s m).state.x ≡ (s.x + 65536 - 16) % 65536
  pub nine_most : AtTwo s m 0x1A 0xE0 → byte_at m (plus_w s.pc 2) ≡ 0xFF → (done s m).state.x ≡ (s.x + 255) % 65536
  pub nine_least : AtTwo s m 0x1A 0xE1 → byte_at m (plus_w s.pc 2) ≡ 0 → (done s m).state.x ≡ (s.x + 65536 - 256) % 65536
  pub a_x : AtTwo s m 0x1A 0xE4 → (done s m).state.x ≡ (s.x + s.a) % 65536
  pub b_x : AtTwo s m 0x1A 0xE5 → (done s m).state.x ≡ (s.x + s.b) % 65536
  pub d_x : AtTwo s m 0x1A 0xE6 → (done s m).state.x ≡ (s.x + (s.a * 256 + s.b)) % 65536
  pub pc_five : AtTwo s m 0x1A 0xC0 → (done s m).state.x ≡ plus_w s.pc 2
  pub pc_nine : AtTwo s m 0x1A 0xF8 → byte_at m (plus_w s.pc 2) ≡ 0 → (done s m).state.x ≡ plus_w s.pc 3
  pub pc_sixteen : AtTwo s m 0x1A 0xFA → word_at m (plus_w s.pc 2) ≡ 0 → (done s m).state.x ≡ plus_w s.pc 4
  pub before_plus : AtTwo s m 0x19 0x27 → ((done s m).state.y ≡ plus_w s.x 8) × ((done s m).state.x ≡ plus_w s.x 8)
  pub before_minus : AtTwo s m 0x19 0x28 → ((done s m).state.y ≡ minus_w s.x 8) × ((done s m).state.x ≡ minus_w s.x 8)
  pub after_plus : AtTwo s m 0x19 0x37 → ((done s m).state.y ≡ s.x) × ((done s m).state.x ≡ plus_w s.x 8)
  pub after_minus : AtTwo s m 0x19 0x38 → ((done s m).state.y ≡ s.x) × ((done s m).state.x ≡ minus_w s.x 8)
  pub branch : AtTwo s m 0x20 0xFE → (done s m).state.pc ≡ s.pc
  pub pc_wraps : At s m 0xA7 → s.pc ≡ 0xFFFF → (done s m).state.pc ≡ 0
  pub word_wraps : AtTwo s m 0xEE 0x00 → s.x ≡ 0xFFFF → (done s m).state.x ≡ byte_at m 0xFFFF * 256 + byte_at m 0

abbrev pub EveryAddress : Type 0
EveryAddress = (s : State) (m : List ℕ) → Words s → Addresses s m

-- "Codes and undefined results", "Traps for the hasty".

-- codes that were f are as they were but for N, Z and V; or but for Z
pub record KeptButNZV (f after : Flags) : Type 0 where
  pub s : after.s ≡ f.s
  pub x : after.x ≡ f.x
  pub h : after.h ≡ f.h
  pub i : after.i ≡ f.i
  pub c : after.c ≡ f.c

pub record KeptButZ (f after : Flags) : Type 0 where
  pub others : KeptButNZV f after
  pub n : after.n ≡ f.n
  pub v : after.v ≡ f.v

-- INC and DEC of A, of B and of a byte at an extended address keep C; INX, INY, DEX and DEY keep all but Z; LEAX, LEAY and LEAS, with
-- any postbyte, keep all, and INS and DES are two of these
pub record Codes (s : State) (m : List ℕ) : Type 0 where
  pub inca : At s m 0x42 → KeptButNZV s.flags (done s m).state.flags
  pub deca : At s m 0x43 → KeptButNZV s.flags (done s m).state.flags
  pub incb : At s m 0x52 → KeptButNZV s.flags (done s m).state.flags
  pub decb : At s m 0x53 → KeptButNZV s.flags (done s m).state.flags
  pub inc : At s m 0x72 → KeptButNZV s.flags (done s m).state.flags
  pub dec : At s m 0x73 → KeptButNZV s.flags (done s m).state.flags
  pub inx : At s m 0x08 → KeptButZ s.flags (done s m).state.flags
  pub iny : At s m 0x02 → KeptButZ s.flags (done s m).state.flags
  pub dex : At s m 0x09 → KeptButZ s.flags (done s m).state.flags
  pub dey : At s m 0x03 → KeptButZ s.flags (done s m).state.flags
  pub leax : At s m 0x1A → (done s m).state.flags ≡ s.flags
  pub leay : At s m 0x19 → (done s m).state.flags ≡ s.flags
  pub leas : At s m 0x1B → (done s m).state.flags ≡ s.flags
  pub ins : AtTwo s m 0x1B 0x81 → (done s m).state.sp ≡ plus_w s.sp 1
  pub des : AtTwo s m 0x1B 0x9F → (done s m).state.sp ≡ minus_w s.sp 1

abbrev pub EveryCode : Type 0
EveryCode = (s : State) (m : List ℕ) → Codes s m

-- no instruction, whichever it is, turns X from 0 to 1
abbrev pub EveryInstructionKeepsX : Type 0
EveryInstructionKeepsX = (s : State) (m : List ℕ) → s.flags.x ≡ false → (done s m).state.flags.x ≡ false

-- IDIV by zero leaves X FFFF, C set and D; an overflow of EDIV, where Y is not below X, sets V and leaves Y and D; DAA with H set and a
-- low digit past 3, for which its table has no row, leaves A and C; a byte goes to 16 bits with its sign, by TFR A,X
pub record Undefined (s : State) (m : List ℕ) : Type 0 where
  pub idiv :
      AtTwo s m 0x18 0x10 → s.x ≡ 0 →
      ((done s m).state.x ≡ 0xFFFF) × ((done s m).state.flags.c ≡ true) × ((done s m).state.a ≡ s.a) × ((done s m).state.b ≡ s.b)
  pub ediv :
      At s m 0x11 → 0 < s.x → s.x ≤ s.y →
      ((done s m).state.flags.v ≡ true) × ((done s m).state.y ≡ s.y) × ((done s m).state.a ≡ s.a) × ((done s m).state.b ≡ s.b)
  pub daa : AtTwo s m 0x18 0x07 → s.flags.h ≡ true → 4 ≤ s.a % 16 → ((done s m).state.a ≡ s.a) × ((done s m).state.flags.c ≡ s.flags.c)
  pub tfr_plus : AtTwo s m 0xB7 0x05 → s.a < 128 → (done s m).state.x ≡ s.a
  pub tfr_minus : AtTwo s m 0xB7 0x05 → 128 ≤ s.a → (done s m).state.x ≡ 0xFF00 + s.a

abbrev pub EveryUndefined : Type 0
EveryUndefined = (s : State) (m : List ℕ) → Words s → Undefined s m
