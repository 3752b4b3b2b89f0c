-- What an instruction may do, whichever it is: from the state that it begins with it sets registers and codes, one setting after
-- another, and gives an effect. A property of states is closed under the settings if it holds where an instruction begins and every
-- setting keeps it; then it holds wherever an instruction comes. So a law of every instruction is proved by cases on the lines of
-- `Comes` and `Gives`, and never by a walk through the instructions of its own: that walk is `EveryInstructionGives`, proved under the
-- same name in proofs/Walk.antt.
use Rattle.std.specs.Prelude.{ℕ, ◌<◌, ◌≡◌, true, List}
use Rattle.memory.specs.declared.Store.{Store}
use Rattle.memory.specs.Memory.{bytes_stored, IsWhole, AreBytes}
use Rattle.state.specs.declared.Flags.{Flags}
use Rattle.state.specs.declared.State.{State}
use Rattle.state.specs.State.{with_a, with_b, with_x, with_y, with_sp, with_pc, with_flags}
use Rattle.opcodes.specs.Kind.{RTI, group_of, SHORT_BRANCHES, LONG_BRANCHES}
use Rattle.decode.specs.declared.Decoded.{Decoded}
use Rattle.effect.specs.declared.Effect.{Effect}
use Rattle.effect.specs.Effect.{quiet, writes}
use Rattle.frames.specs.Frames.{frame_store, wait_effect}
use Rattle.machine.specs.Names.{return_and_entry_cost}
use Rattle.requests.specs.Requests.{allowed_line, vectored}
use Rattle.turn.specs.Turn.{executed}
use Rattle.walk.specs.Words.{Words}

-- what there is before an instruction is done: the state, whose PC is past it, the memory, the line byte, and the instruction as it was
-- decoded
pub record Before : Type 0 where
  pub state : State
  pub memory : List ℕ
  pub line : ℕ
  pub decoded : Decoded

abbrev pub before : State → List ℕ → ℕ → Decoded → Before
before s m line d = record { state = s; memory = m; line = line; decoded = d }

-- all of it holds what it has room for; the machine's types give that, and on plain numbers it has to be supposed
pub record Fits (b : Before) : Type 0 where
  pub registers : Words b.state
  pub bytes : AreBytes b.memory
  pub at : b.decoded.at < 65536

-- The states that an instruction can come to: the one that it begins with, and from each of them those with one register set to a
-- number that it has room for, where all fitted before, or with the codes set, X among them only where it was set before.
pub data Comes (b : Before) : State → Type 0 where
  begins : Comes b b.state
  sets_a : {s : State} {v : ℕ} → Comes b s → (Fits b → v < 256) → Comes b (with_a s v)
  sets_b : {s : State} {v : ℕ} → Comes b s → (Fits b → v < 256) → Comes b (with_b s v)
  sets_x : {s : State} {v : ℕ} → Comes b s → (Fits b → v < 65536) → Comes b (with_x s v)
  sets_y : {s : State} {v : ℕ} → Comes b s → (Fits b → v < 65536) → Comes b (with_y s v)
  sets_sp : {s : State} {v : ℕ} → Comes b s → (Fits b → v < 65536) → Comes b (with_sp s v)
  sets_pc : {s : State} {v : ℕ} → Comes b s → (Fits b → v < 65536) → Comes b (with_pc s v)
  sets_codes : {s : State} {f : Flags} → Comes b s → (f.x ≡ true → b.state.flags.x ≡ true) → Comes b (with_flags s f)

-- what an instruction stores: bytes, from an address on, and nothing is cut off
pub record Stores (b : Before) (w : Store) : Type 0 where
  pub address : Fits b → w.at < 65536
  pub bytes : Fits b → AreBytes (bytes_stored w)
  pub whole : Fits b → IsWhole w

-- the groups of the branches, which have a cost of their own where they are not taken
pub data IsBranch (d : Decoded) : Type 0 where
  short : group_of d.kind ≡ SHORT_BRANCHES → IsBranch d
  long : group_of d.kind ≡ LONG_BRANCHES → IsBranch d

-- The effects that an instruction can give: a state that it came to and a store, at the cost that was decoded; of a branch that is not
-- taken a state and no store, at a cost of its own; of WAI the frame of a state, and a machine that waits; and of an RTI that takes a
-- request the line that the codes to which it came allow, and no store, at a cost of its own.
pub data Gives (b : Before) : Effect → Type 0 where
  stores : {s : State} {w : Store} → Comes b s → Stores b w → Gives b (writes s b.decoded.cost w)
  untaken : {s : State} → Comes b s → IsBranch b.decoded → Gives b (quiet s b.decoded.untaken)
  waits : {s : State} → Comes b s → Stores b (frame_store s) → Gives b (wait_effect s b.decoded.cost)
  takes :
      {s : State} → Comes b s → b.decoded.kind ≡ RTI →
      Gives b (quiet (vectored s b.memory (allowed_line s.flags b.line)) return_and_entry_cost)

-- every instruction gives such an effect
abbrev pub EveryInstructionGives : Type 0
EveryInstructionGives = (s : State) (m : List ℕ) (line : ℕ) (d : Decoded) → Gives (before s m line d) (executed s m line d)
