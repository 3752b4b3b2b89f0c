-- What comes next at a boundary (docs/MACHINE.md, "Numbered replies": entry, waiting, 4, 5; "Requests").
use Rattle.std.specs.Prelude.{ℕ, ◌≡◌, true, List, ltb, eqb, Result, Ok, Err}
use Rattle.word.specs.Word.{pick}
use Rattle.state.specs.declared.State.{State}
use Rattle.state.specs.Ccr.{set_i}
use Rattle.state.specs.State.{with_pc}
use Rattle.opcodes.specs.declared.kind.Kind.{Kind}
use Rattle.opcodes.specs.Kind.{RTI, SWI, TRAP, same, group_of, SHORT_BRANCHES, LONG_BRANCHES, WITH_A, WITH_B, WITH_WORD, STORES, IN_MEMORY, IN_A, IN_B, REGISTERS, PRODUCTS, STACK, CONTROL, ADDRESSES, CHOICES, MOVES, LOOKUPS}
use Rattle.decode.specs.declared.Decoded.{Decoded}
use Rattle.decode.specs.declared.Halt.{Halt}
use Rattle.decode.specs.declared.Halt.TheVariants.{Stopped as Stop, Reserved}
use Rattle.decode.specs.Decode.{fetched_of, fetched_reply}
use Rattle.memory.specs.Memory.{byte_at, word_at}
use Rattle.operand.specs.declared.Place.{Place}
use Rattle.operand.specs.Operand.{operand_place}
use Rattle.effect.specs.declared.Effect.{Effect}
use Rattle.effect.specs.Effect.{quiet}
use Rattle.execute8.specs.Bytes.{a_with, b_with, memory_changed, with_a_effect, with_b_effect, in_memory_effect, in_a_effect, in_b_effect}
use Rattle.execute16.specs.Words.{word_with, stored, chosen, with_word_effect, store_effect, choose_effect}
use Rattle.execute16.specs.Registers.{registers_effect}
use Rattle.products.specs.Products.{product_effect}
use Rattle.execute16.specs.Lookups.{looked_up, lookup_effect}
use Rattle.stack.specs.Stack.{stack_effect}
use Rattle.frames.specs.Frames.{interrupt_effect}
use Rattle.flow.specs.Branches.{short_effect, long_effect}
use Rattle.flow.specs.Control.{control_done, control_effect}
use Rattle.moves.specs.Moves.{move_effect}
use Rattle.moves.specs.Addresses.{addressed, address_effect}
use Rattle.moves.specs.Bits.{bitted, bits_effect}
use Rattle.machine.specs.declared.Reply.{Reply}
use Rattle.machine.specs.declared.Reply.TheVariants.{Done, Stopped, ReservedPostbyte}
use Rattle.machine.specs.Names.{number_of, swi_vector, trap_vector, no_line, idle_cost}
use Rattle.requests.specs.Requests.{allowed_line, entry_effect, wake_effect, rti_effect}

-- What changes the flow and has no operand in memory, with SWI (002, p. 6-196) and TRAP (6-205), which are entries by a vector and set I,
-- and RTI (6-177). RTI alone asks for the line byte that is in force where it begins.
unfoldable pub controlled : State → List ℕ → ℕ → Decoded → Effect
controlled s m line d =
    pick (same d.kind SWI) (interrupt_effect s m swi_vector (set_i s.flags true) d.cost)
    (pick (same d.kind TRAP) (interrupt_effect s m trap_vector (set_i s.flags true) d.cost)
    (pick (same d.kind RTI) (rti_effect s m line d.cost) (control_effect s m d)))

-- the same by the address after the opcode and the cost, as the code has them
unfoldable pub control_by : Kind → State → List ℕ → ℕ → ℕ → ℕ → Effect
control_by kind s m line at cost =
    pick (same kind SWI) (interrupt_effect s m swi_vector (set_i s.flags true) cost)
    (pick (same kind TRAP) (interrupt_effect s m trap_vector (set_i s.flags true) cost)
    (pick (same kind RTI) (rti_effect s m line cost) (control_done kind s m at cost)))

-- the groups whose instructions have an operand at a place in memory; the last is BITS
unfoldable pub with_operand : ℕ → State → List ℕ → Decoded → Effect
with_operand group s m d =
    pick (eqb group WITH_A) (with_a_effect s m d)
    (pick (eqb group WITH_B) (with_b_effect s m d)
    (pick (eqb group WITH_WORD) (with_word_effect s m d)
    (pick (eqb group STORES) (store_effect s m d)
    (pick (eqb group IN_MEMORY) (in_memory_effect s m d)
    (pick (eqb group ADDRESSES) (address_effect s m d)
    (pick (eqb group CHOICES) (choose_effect s m d) (pick (eqb group LOOKUPS) (lookup_effect s m d) (bits_effect s m d))))))))

-- the same by the operand's place, as it is found before the group is chosen
unfoldable pub placed : ℕ → Place → List ℕ → Kind → ℕ → Effect
placed group place m kind cost =
    let s = place.state in
    let a = place.address in
    pick (eqb group WITH_A) (a_with s kind (byte_at m a) cost)
    (pick (eqb group WITH_B) (b_with s kind (byte_at m a) cost)
    (pick (eqb group WITH_WORD) (word_with s kind (word_at m a) cost)
    (pick (eqb group STORES) (stored kind s cost a)
    (pick (eqb group IN_MEMORY) (memory_changed s kind (byte_at m a) a cost)
    (pick (eqb group ADDRESSES) (addressed s kind a cost)
    (pick (eqb group CHOICES) (chosen kind s m cost a)
    (pick (eqb group LOOKUPS) (quiet (looked_up kind s m a) cost) (bitted s m kind a cost))))))))

-- Proved under the same name in proofs/Laws.antt.
abbrev pub PlacedFirst : Type 0
PlacedFirst =
    (group : ℕ) (s : State) (m : List ℕ) (d : Decoded) →
    with_operand group s m d ≡ placed group (operand_place s m d.mode d.at) m d.kind d.cost

-- an instruction under a line byte, by its group; PC of the state is the address after it
unfoldable pub executed : State → List ℕ → ℕ → Decoded → Effect
executed s m line d =
    let group = group_of d.kind in
    pick (eqb group SHORT_BRANCHES) (short_effect s m d)
    (pick (eqb group LONG_BRANCHES) (long_effect s m d)
    (pick (eqb group IN_A) (in_a_effect s d)
    (pick (eqb group IN_B) (in_b_effect s d)
    (pick (eqb group REGISTERS) (registers_effect s m d)
    (pick (eqb group PRODUCTS) (product_effect s m d)
    (pick (eqb group STACK) (stack_effect s m d)
    (pick (eqb group CONTROL) (controlled s m line d)
    (pick (eqb group MOVES) (move_effect s m d) (with_operand group s m d)))))))))

-- a turn: what is done, and the reply; nothing is done where the reply is Stopped or ReservedPostbyte
pub record Turn : Type 0 where
  pub reply : Reply
  pub effect : Effect

abbrev pub turn_is : Reply → Effect → Turn
turn_is reply e = record { reply = reply; effect = e }

-- an instruction: PC goes past the whole of it, and then it is done
abbrev pub ran_of : State → List ℕ → ℕ → Decoded → Turn
ran_of s m line d = turn_is Done (executed (with_pc s d.next) m line d)

-- what stands at PC: an instruction is done; else nothing is done, and the reply says why
unfoldable pub instructed : State → List ℕ → ℕ → Result Decoded Halt → Turn
instructed s m line (Err Stop) = turn_is Stopped (quiet s 0)
instructed s m line (Err Reserved) = turn_is ReservedPostbyte (quiet s 0)
instructed s m line (Ok d) = ran_of s m line d

-- Its reply has the number of what was fetched. Proved under the same name in proofs/Laws.antt.
abbrev pub RepliesAsFetched : Type 0
RepliesAsFetched = (s : State) (m : List ℕ) (line : ℕ) (f : Result Decoded Halt) → number_of (instructed s m line f).reply ≡ fetched_reply f

-- The turn at a boundary: an entry or the end of a wait where a line is allowed, an idle cycle of a machine that waits, and else
-- what stands at PC.
unfoldable pub turn_of : State → List ℕ → ℕ → Turn
turn_of s m line =
    let k = allowed_line s.flags line in
    pick (ltb k no_line) (pick s.standing.waiting (turn_is Done (wake_effect s m k)) (turn_is Done (entry_effect s m k)))
    (pick s.standing.waiting (turn_is Done (quiet s idle_cost)) (instructed s m line (fetched_of m s.pc)))

-- A turn as the code answers it: what is done, or why the machine halts, and then nothing is done.
abbrev pub turn_from : State → Result Effect Halt → Turn
turn_from s (Ok e) = turn_is Done e
turn_from s (Err Stop) = turn_is Stopped (quiet s 0)
turn_from s (Err Reserved) = turn_is ReservedPostbyte (quiet s 0)
