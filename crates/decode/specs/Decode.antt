-- What stands at an address: an instruction with its length and cost, an encoding that stops the machine, or a reserved postbyte
-- (docs/MACHINE.md, "Numbered replies", 4 and 5; "Reserved postbytes"; "Steps and cycles").
use Rattle.std.specs.Prelude.{ℕ, ◌<◌, ◌≡◌, Bool, true, false, ◌&&◌, ◌||◌, List, eqb, Result, Ok, Err}
use Rattle.word.specs.Word.{pick, plus_w}
use Rattle.memory.specs.Memory.{byte_at}
use Rattle.opcodes.specs.declared.Cell.{Cell}
use Rattle.opcodes.specs.Kind.{TFR/EXG, LOOP, group_of, same, STOPS, REGISTERS, CONTROL, MOVES}
use Rattle.opcodes.specs.Mode.{mode_number, ID, ID_ID}
use Rattle.opcodes.specs.Map.{cell_of, cell_number}
use Rattle.opcodes.specs.Postbyte.{IDX, form_of, indexed_of, transfer_reserved, loop_reserved, form_reserved, reserved_of, length_in, cost_of, untaken_of}
use Rattle.opcodes.specs.Rules.{stops_of, moves_mode, bare_group, unplaced}
use Rattle.machine.specs.declared.Reply.{Reply}
use Rattle.machine.specs.declared.Reply.TheVariants.{Stopped as StoppedReply, ReservedPostbyte}
use Rattle.machine.specs.Names.{number_of}
use Rattle.decode.specs.declared.Opcode.{Opcode}
use Rattle.decode.specs.declared.Decoded.{Decoded}
use Rattle.decode.specs.declared.Halt.{Halt}
use Rattle.decode.specs.declared.Halt.TheVariants.{Stopped, Reserved}

-- the prebyte $18 says that the next byte is an opcode of page 2
abbrev pub on_page_two : List ℕ → ℕ → Bool
on_page_two m pc = eqb (byte_at m pc) 0x18

-- the cell of the opcode at an address
abbrev pub cell_at : List ℕ → ℕ → Cell
cell_at m pc =
    cell_of (cell_number (on_page_two m pc) (pick (on_page_two m pc) (byte_at m (plus_w pc 1)) (byte_at m pc)))

-- the first byte after the opcode: a postbyte, immediate data, an address or an offset
abbrev pub after_opcode : List ℕ → ℕ → ℕ
after_opcode m pc = pick (on_page_two m pc) (plus_w pc 2) (plus_w pc 1)

-- the opcode at an address: its cell, and the address after it
abbrev pub opcode_is : Cell → ℕ → Opcode
opcode_is cell at = record { cell = cell; at = at }

abbrev pub opcode_at : List ℕ → ℕ → Opcode
opcode_at m pc = opcode_is (cell_at m pc) (after_opcode m pc)

-- Of the instructions with an indexed source and destination either postbyte may be the reserved one. The second stands right
-- after the first, which has no bytes of its own unless it is reserved.
abbrev pub second_reserved : List ℕ → Cell → ℕ → Bool
second_reserved m c at = eqb (mode_number c.mode) (mode_number ID_ID) && reserved_of c (byte_at m (plus_w at 1))

abbrev pub reserved_at : List ℕ → Cell → ℕ → Bool
reserved_at m c at = reserved_of c (byte_at m at) || second_reserved m c at

-- an instruction: its cell, the first byte after its opcode, the address after all of it in the address form that its postbyte names, its
-- cost, and the byte that stands there
abbrev pub decoded_is : ℕ → Cell → ℕ → ℕ → ℕ → ℕ → Decoded
decoded_is pc c at postbyte form cost =
    record {
      kind = c.kind;
      mode = c.mode;
      at = at;
      next = plus_w pc (length_in c form);
      cost = cost;
      untaken = untaken_of c;
      postbyte = postbyte;
    }

abbrev pub decoded_of : List ℕ → ℕ → Cell → ℕ → Decoded
decoded_of m pc c at = decoded_is pc c at (byte_at m at) (form_of (byte_at m at)) (cost_of c (byte_at m at))

unfoldable pub fetched_of : List ℕ → ℕ → Result Decoded Halt
fetched_of m pc =
    pick (stops_of (cell_at m pc)) (Err Stopped)
    (pick (reserved_at m (cell_at m pc) (after_opcode m pc)) (Err Reserved)
    (Ok (decoded_of m pc (cell_at m pc) (after_opcode m pc))))

-- the number of what was fetched, as docs/MACHINE.md numbers the replies: 4 for one of the ten, 5 for a reserved postbyte, and 0 for an
-- instruction, which is then done
abbrev pub fetched_reply : Result Decoded Halt → ℕ
fetched_reply (Err Stopped) = 4
fetched_reply (Err Reserved) = 5
fetched_reply (Ok d) = 0

-- the reply to what halts the machine, which has that number (`HaltsAsFetched`, proved under the same name in proofs/Laws.antt)
abbrev pub halted : Halt → Reply
halted Stopped = StoppedReply
halted Reserved = ReservedPostbyte

abbrev pub HaltsAsFetched : Type 0
HaltsAsFetched = (halt : Halt) → number_of (halted halt) ≡ fetched_reply (Err halt)

-- What a decoded instruction has read is what stands in the memory: its postbyte. A move has two places, and its indexed postbytes have the
-- form IDX, since any other is reserved there. Every instruction that is fetched is so (`FetchedFaithfully`, proved under the same name in
-- proofs/Laws.antt).
pub record Faithful (m : List ℕ) (d : Decoded) : Type 0 where
  pub postbyte : d.postbyte ≡ byte_at m d.at
  pub moves : group_of d.kind ≡ MOVES → moves_mode d.mode ≡ true
  pub first : mode_number ID < mode_number d.mode → form_of (byte_at m d.at) ≡ IDX
  pub second : d.mode ≡ ID_ID → form_of (byte_at m (plus_w d.at 1)) ≡ IDX

abbrev pub FetchedFaithfully : Type 0
FetchedFaithfully = (m : List ℕ) (pc : ℕ) (d : Decoded) → fetched_of m pc ≡ Ok d → Faithful m d

-- What is fetched, by the group of the opcode: so a turn that has chosen the group asks only what the group needs. Each law is proved under
-- the same name in proofs/Laws.antt.
abbrev pub StopFetched : Type 0
StopFetched =
    (m : List ℕ) (pc : ℕ) (o : Opcode) → o ≡ opcode_at m pc → group_of o.cell.kind ≡ STOPS → fetched_of m pc ≡ Err Stopped

-- an instruction without an indexed postbyte has the length and the cost of its cell
abbrev pub plain_of : List ℕ → ℕ → Opcode → Decoded
plain_of m pc o =
    record {
      kind = o.cell.kind;
      mode = o.cell.mode;
      at = o.at;
      next = plus_w pc o.cell.length;
      cost = o.cell.cost;
      untaken = untaken_of o.cell;
      postbyte = byte_at m o.at;
    }

abbrev pub BareFetched : Type 0
BareFetched =
    (m : List ℕ) (pc : ℕ) (o : Opcode) →
    o ≡ opcode_at m pc →
    bare_group (group_of o.cell.kind) ≡ true →
    fetched_of m pc ≡ Ok (plain_of m pc o)

-- of the registers' group a transfer has a postbyte that may be reserved, and of the control's a loop primitive
abbrev pub RegistersFetched : Type 0
RegistersFetched =
    (m : List ℕ) (pc : ℕ) (o : Opcode) →
    o ≡ opcode_at m pc →
    group_of o.cell.kind ≡ REGISTERS →
    fetched_of m pc
    ≡ pick (same o.cell.kind TFR/EXG && transfer_reserved (byte_at m o.at)) (Err Reserved) (Ok (plain_of m pc o))

abbrev pub ControlFetched : Type 0
ControlFetched =
    (m : List ℕ) (pc : ℕ) (o : Opcode) →
    o ≡ opcode_at m pc →
    group_of o.cell.kind ≡ CONTROL →
    fetched_of m pc
    ≡ pick (same o.cell.kind LOOP && loop_reserved (byte_at m o.at)) (Err Reserved) (Ok (plain_of m pc o))

-- What is left has an operand at a place in memory, and at most one postbyte, which is an indexed one.
abbrev pub OperandFetched : Type 0
OperandFetched =
    (m : List ℕ) (pc : ℕ) (o : Opcode) →
    o ≡ opcode_at m pc →
    unplaced (group_of o.cell.kind) ≡ false →
    fetched_of m pc
    ≡ pick (indexed_of o.cell && form_reserved o.cell (byte_at m o.at)) (Err Reserved)
    (Ok (decoded_of m pc o.cell o.at))

-- and an instruction that is fetched is of the cell that stands there
abbrev pub FetchedKind : Type 0
FetchedKind = (m : List ℕ) (pc : ℕ) (d : Decoded) → fetched_of m pc ≡ Ok d → d.kind ≡ (cell_at m pc).kind
