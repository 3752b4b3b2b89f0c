-- The loop primitives, from the glossary of source document 002 (section 6.6). No code is affected. The kind is bits 7 to 5 of the
-- postbyte: 0 DBEQ, 1 DBNE, 2 TBEQ, 3 TBNE, 4 IBEQ, 5 IBNE; 6 and 7 are reserved, which the caller refuses. k is the number of the
-- counter's top bit, 7 or 15.
use Rattle.std.specs.Prelude.{ℕ, ◌%◌, Bool, not, ◌==◌, nat_lt}
use Rattle.word.specs.Word.{pick}
use Rattle.alu.specs.Alu.{one_more, one_less}
use Rattle.codes.specs.declared.Counting.{Counting}

-- (Counter) - 1 in DBEQ (p. 6-70) and DBNE (6-71), (Counter) as it is in TBEQ (6-200) and TBNE (6-202), (Counter) + 1 in IBEQ (6-92) and
-- IBNE (6-93)
abbrev pub counted : ℕ → ℕ → ℕ → ℕ
counted k kind n = pick (nat_lt kind 2) (one_less k n) (pick (nat_lt kind 4) n (one_more k n))

-- the branch is taken if (Counter) = 0 for the kinds of EQ, as DBEQ (p. 6-70), and if not for those of NE, as DBNE (6-71)
abbrev pub taken : ℕ → ℕ → Bool
taken kind n = pick (kind % 2 == 0) (n == 0) (not (n == 0))

-- a counter after one turn, of whatever width, and whether it branches; a value of a width is a number, and `of` makes it one
abbrev pub count_of : {W : Type 0} → (ℕ → W) → ℕ → ℕ → ℕ → Counting W
count_of of k kind n = record { counter = of (counted k kind n); taken = taken kind (counted k kind n) }

abbrev pub Count8 : Type 0
Count8 = Counting ℕ

abbrev pub count_byte : ℕ → ℕ → Count8
count_byte kind n = record { counter = counted 7 kind n; taken = taken kind (counted 7 kind n) }

abbrev pub Count16 : Type 0
Count16 = Counting ℕ

abbrev pub count_word : ℕ → ℕ → Count16
count_word kind n = record { counter = counted 15 kind n; taken = taken kind (counted 15 kind n) }
