-- The machine's state and a schedule as bytes. Every number of more than a byte has its highest byte first, as in the machine's memory.
use Rattle.std.specs.Prelude.{ℕ, zero, suc, ◌+◌, ◌/◌, List, [], ◌∷◌, ◌++◌, eqb, length, get_or, replicate}
use Rattle.word.specs.Word.{high_of, low_of, word_of, high_word, low_word, long_of}
use Rattle.state.specs.declared.State.{State}
use Rattle.state.specs.Ccr.{weight_of, ccr_of, flags_of}
use Rattle.state.specs.State.{no_state, with_a, with_b, with_x, with_y, with_sp, with_pc, with_flags, with_waiting, with_clock}
use Rattle.table.specs.declared.Record.{Record}
use Rattle.table.specs.Records.{record_is}

-- the byte, the word and the number of 32 bits that begin at a place
abbrev pub byte_in : List ℕ → ℕ → ℕ
byte_in bytes i = get_or bytes i 0

abbrev pub word_in : List ℕ → ℕ → ℕ
word_in bytes i = word_of (byte_in bytes i) (byte_in bytes (i + 1))

abbrev pub long_in : List ℕ → ℕ → ℕ
long_in bytes i = long_of (word_in bytes i) (word_in bytes (i + 2))

-- the bytes of a word, and of 32 bits, before other bytes
abbrev pub word_then : ℕ → List ℕ → List ℕ
word_then w bytes = high_of w ∷ low_of w ∷ bytes

abbrev pub long_then : ℕ → List ℕ → List ℕ
long_then n bytes = word_then (high_word n) (word_then (low_word n) bytes)

-- the bytes of a state record, the place of its waiting flag, 0 or 1, and the place from which on its bytes are reserved
abbrev pub record_size : ℕ
record_size = 48

abbrev pub waiting_place : ℕ
waiting_place = 11

abbrev pub reserved_place : ℕ
reserved_place = 20

-- the reserved bytes: all 0, until a later part of the machine is given some of them
abbrev pub reserved_bytes : List ℕ
reserved_bytes = replicate 28 0

-- the state of a state record: first A, B, X, Y, SP and PC
abbrev pub registers_of : List ℕ → State
registers_of r =
    let bytes = with_b (with_a no_state (byte_in r 0)) (byte_in r 1) in
    let index = with_y (with_x bytes (word_in r 2)) (word_in r 4) in
    with_pc (with_sp index (word_in r 6)) (word_in r 8)

-- and then CCR, the waiting flag and the clock
unfoldable pub state_of : List ℕ → State
state_of r =
    let codes = with_flags (registers_of r) (flags_of (byte_in r 10)) in
    with_clock (with_waiting codes (eqb (byte_in r waiting_place) 1)) (long_in r 12)

-- the bytes of a state record that have a meaning: those of a state, and then the cycles used
unfoldable pub meant_bytes : State → ℕ → List ℕ
meant_bytes s cycles =
    s.a ∷ s.b
    ∷ word_then s.x (word_then s.y (word_then s.sp (word_then s.pc
    (ccr_of s.flags ∷ weight_of s.standing.waiting 1 ∷ long_then s.clock (long_then cycles [])))))

-- the state record of a state: those, and the reserved bytes
unfoldable pub bytes_of : State → ℕ → List ℕ
bytes_of s cycles = meant_bytes s cycles ++ reserved_bytes

-- the bytes of a packed record of a schedule
abbrev pub packed_size : ℕ
packed_size = 5

-- the packed record that begins at a place: the four bytes of its cycle number, and then its line byte
abbrev pub record_at : List ℕ → ℕ → Record
record_at bytes i = record_is (long_in bytes i) (byte_in bytes (i + 4))

-- so many packed records, from a place on
unfoldable pub records_from : List ℕ → ℕ → ℕ → List Record
records_from bytes zero i = []
records_from bytes (suc n) i = record_at bytes i ∷ records_from bytes n (i + packed_size)

-- the records of a packed schedule
abbrev pub records_of : List ℕ → List Record
records_of bytes = records_from bytes (length bytes / packed_size) 0
