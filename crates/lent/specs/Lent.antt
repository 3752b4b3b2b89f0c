-- The tests of what is lent to a door, and the numbers of its own refusals (docs/GUIDE-ABI.md).
use Rattle.std.specs.Prelude.{ℕ, ◌%◌, Bool, List, eqb, ltb, length, drop, Result, Ok, Err}
use Rattle.std.specs.List.{list_all}
use Rattle.word.specs.Word.{pick}
use Rattle.packing.specs.Bytes.{byte_in, record_size, waiting_place, reserved_place, packed_size}
use Rattle.lent.specs.declared.LentError.{LentError}
use Rattle.lent.specs.declared.LentError.TheVariants.{WrongLength, WrongFlag, WrongPacking, WrongReserved}

-- the numbers of the door's own refusals: a state record of another length, a waiting flag neither 0 nor 1, a part of a record, and a
-- reserved byte that is not 0
abbrev pub wrong_length : ℕ
wrong_length = 100

abbrev pub wrong_flag : ℕ
wrong_flag = 101

abbrev pub wrong_packing : ℕ
wrong_packing = 102

abbrev pub wrong_reserved : ℕ
wrong_reserved = 103

abbrev pub error_number : LentError → ℕ
error_number WrongLength = wrong_length
error_number WrongFlag = wrong_flag
error_number WrongPacking = wrong_packing
error_number WrongReserved = wrong_reserved

-- the number of what a test gives: that of its refusal, and 0 where it refuses nothing
abbrev pub refusal_number : {A : Type 0} → Result A LentError → ℕ
refusal_number (Ok a) = 0
refusal_number (Err e) = error_number e

-- every one of these bytes is 0
abbrev pub all_zero : List ℕ → Bool
all_zero bytes = list_all (λ b. eqb b 0) bytes

-- The tests of what is lent; 0 is no refusal. First the length of the state record, then its waiting flag, then its reserved bytes; and a
-- packed schedule must not end within a record.
abbrev pub length_refusal : List ℕ → ℕ
length_refusal r = pick (eqb (length r) record_size) 0 wrong_length

abbrev pub flag_refusal : List ℕ → ℕ
flag_refusal r = pick (ltb 1 (byte_in r waiting_place)) wrong_flag 0

abbrev pub reserved_refusal : List ℕ → ℕ
reserved_refusal r = pick (all_zero (drop reserved_place r)) 0 wrong_reserved

abbrev pub packing_refusal : List ℕ → ℕ
packing_refusal schedule = pick (eqb (length schedule % packed_size) 0) 0 wrong_packing

-- the first of two tests that refuses
unfoldable pub first_of : ℕ → ℕ → ℕ
first_of a b = pick (eqb a 0) b a

-- what a step and what a run are refused for
abbrev pub record_refusal : List ℕ → ℕ
record_refusal r = first_of (length_refusal r) (first_of (flag_refusal r) (reserved_refusal r))

abbrev pub lent_refusal : List ℕ → List ℕ → ℕ
lent_refusal r schedule = first_of (record_refusal r) (packing_refusal schedule)
