-- The instructions on bytes: A or B with an operand, a byte changed in memory or in A or B. What an instruction does is said of numbers:
-- the state after the operand's base register has stepped, with PC after the whole instruction; the kind, the operand, its address, the
-- cost. The groups of the opcode map then say where these numbers come from. The operations are those of the glossary (002, section 6.6),
-- each on the page that is named beside the instruction.
use Rattle.std.specs.Prelude.{ℕ, false, List, eqb}
use Rattle.word.specs.Word.{pick}
use Rattle.memory.specs.Memory.{byte_at, store_byte}
use Rattle.state.specs.declared.Flags.{Flags}
use Rattle.state.specs.declared.State.{State}
use Rattle.state.specs.State.{with_a, with_b, with_flags}
use Rattle.opcodes.specs.declared.kind.Kind.{Kind}
use Rattle.opcodes.specs.declared.kind.Kind.TheVariants.{WithA, WithB, InA, InB}
use Rattle.opcodes.specs.declared.kind.ByteOp.{ByteOp}
use Rattle.opcodes.specs.declared.kind.Change.{Change}
use Rattle.opcodes.specs.Kind.{member_of, same, SUBA, CMPA, SBCA, ANDA, BITA, LDAA, EORA, ADCA, ORAA, NEG, COM, INC, DEC, LSR, ROL, ROR, ASR, ASL, CLR, TST}
use Rattle.results.specs.Results.{Byte, byte_of, result_codes}
use Rattle.logic.specs.Logic.{and_byte, or_byte, eor_byte, com_byte, clr_byte, tst_byte}
use Rattle.alu.specs.Alu.{add_byte, sub_byte, neg_byte, inc_byte, dec_byte}
use Rattle.shift.specs.Shift.{lsr_byte, rol_byte, ror_byte, asr_byte, asl_byte}
use Rattle.operand.specs.Operand.{operand_place}
use Rattle.decode.specs.declared.Decoded.{Decoded}
use Rattle.effect.specs.declared.Effect.{Effect}
use Rattle.effect.specs.Effect.{quiet, writes}
use Rattle.execute8.specs.declared.Accumulator.{Accumulator}
use Rattle.execute8.specs.declared.Accumulator.TheVariants.{A, B}

-- a comparison, as CMPA (p. 6-60) and BITA (6-35): the codes of a result, and the register as it was
abbrev pub keeping : ℕ → Byte → Byte
keeping x r = record { value = x; flags = r.flags }

-- a load, as LDAA (p. 6-122) and TAB (6-197): the operand, with N and Z of it and V 0
abbrev pub loaded_byte : Flags → ℕ → Byte
loaded_byte f m = byte_of m (result_codes 7 f)

-- what A and B have in common with an operand, by the member of the group
unfoldable pub accumulated : ℕ → Flags → ℕ → ℕ → Byte
accumulated member f x m =
    -- SUBA (p. 6-193), SUBB (6-194)
    pick (eqb member (member_of SUBA)) (sub_byte f x m false)
    -- CMPA (p. 6-60), CMPB (6-61)
    (pick (eqb member (member_of CMPA)) (keeping x (sub_byte f x m false))
    -- SBCA (p. 6-180), SBCB (6-181)
    (pick (eqb member (member_of SBCA)) (sub_byte f x m f.c)
    -- ANDA (p. 6-16), ANDB (6-17)
    (pick (eqb member (member_of ANDA)) (and_byte f x m)
    -- BITA (p. 6-35), BITB (6-36)
    (pick (eqb member (member_of BITA)) (keeping x (and_byte f x m))
    -- LDAA (p. 6-122), LDAB (6-123)
    (pick (eqb member (member_of LDAA)) (loaded_byte f m)
    -- EORA (p. 6-87), EORB (6-88)
    (pick (eqb member (member_of EORA)) (eor_byte f x m)
    -- ADCA (p. 6-11), ADCB (6-12)
    (pick (eqb member (member_of ADCA)) (add_byte f x m f.c)
    -- ORAA (p. 6-151), ORAB (6-152)
    (pick (eqb member (member_of ORAA)) (or_byte f x m)
    -- ADDA (p. 6-13), ADDB (6-14)
    (add_byte f x m false)))))))))

-- what is done to a byte in memory, in A and in B, by the member of the group
unfoldable pub changed : ℕ → Flags → ℕ → Byte
changed member f m =
    -- NEG (p. 6-147), COM (6-62), INC (6-96), DEC (6-72)
    pick (eqb member (member_of NEG)) (neg_byte f m)
    (pick (eqb member (member_of COM)) (com_byte f m)
    (pick (eqb member (member_of INC)) (inc_byte f m)
    (pick (eqb member (member_of DEC)) (dec_byte f m)
    -- LSR (p. 6-135), ROL (6-170), ROR (6-173), ASR (6-23), ASL (6-19)
    (pick (eqb member (member_of LSR)) (lsr_byte f m)
    (pick (eqb member (member_of ROL)) (rol_byte f m)
    (pick (eqb member (member_of ROR)) (ror_byte f m)
    (pick (eqb member (member_of ASR)) (asr_byte f m)
    (pick (eqb member (member_of ASL)) (asl_byte f m)
    -- CLR (p. 6-56), TST (6-206)
    (pick (eqb member (member_of CLR)) (clr_byte f) (tst_byte f m))))))))))

-- a result of 8 bits in A, and in B
abbrev pub a_result : State → Byte → State
a_result s r = with_flags (with_a s r.value) r.flags

abbrev pub b_result : State → Byte → State
b_result s r = with_flags (with_b s r.value) r.flags

-- A with an operand, and B
abbrev pub a_with : State → Kind → ℕ → ℕ → Effect
a_with s kind v cost = quiet (a_result s (accumulated (member_of kind) s.flags s.a v)) cost

abbrev pub b_with : State → Kind → ℕ → ℕ → Effect
b_with s kind v cost = quiet (b_result s (accumulated (member_of kind) s.flags s.b v)) cost

-- a byte v of memory, at the address a, is changed where it lies: NEG (p. 6-147), COM (6-62), INC (6-96), DEC (6-72), LSR (6-135),
-- ROL (6-170), ROR (6-173), ASR (6-23), ASL (6-19), LSL (6-131), CLR (6-56); TST (6-206) only looks at it
unfoldable pub memory_changed : State → Kind → ℕ → ℕ → ℕ → Effect
memory_changed s kind v a cost =
    let r = changed (member_of kind) s.flags v in
    pick (same kind TST) (quiet (with_flags s r.flags) cost) (writes (with_flags s r.flags) cost (store_byte a r.value))

-- A is changed: NEGA (p. 6-148), COMA (6-63), INCA (6-97), DECA (6-73), LSRA (6-136), ROLA (6-171), RORA (6-174), ASRA (6-24),
-- ASLA (6-20), LSLA (6-132), CLRA (6-57), TSTA (6-207)
abbrev pub a_changed : State → Kind → ℕ → Effect
a_changed s kind cost = quiet (a_result s (changed (member_of kind) s.flags s.a)) cost

-- B is changed: NEGB (p. 6-149), COMB (6-64), INCB (6-98), DECB (6-74), LSRB (6-137), ROLB (6-172), RORB (6-175), ASRB (6-25),
-- ASLB (6-21), LSLB (6-133), CLRB (6-58), TSTB (6-208)
abbrev pub b_changed : State → Kind → ℕ → Effect
b_changed s kind cost = quiet (b_result s (changed (member_of kind) s.flags s.b)) cost

-- the register that the code names: what it holds, the state after a result in it, its instructions with an operand, and its changes
abbrev pub accumulator_of : Accumulator → State → ℕ
accumulator_of A s = s.a
accumulator_of B s = s.b

abbrev pub accumulator_result : Accumulator → State → Byte → State
accumulator_result A s r = a_result s r
accumulator_result B s r = b_result s r

abbrev pub accumulator_with : Accumulator → State → ByteOp → ℕ → ℕ → Effect
accumulator_with A s op v cost = a_with s (WithA op) v cost
accumulator_with B s op v cost = b_with s (WithB op) v cost

abbrev pub accumulator_changed : Accumulator → State → Change → ℕ → Effect
accumulator_changed A s op cost = a_changed s (InA op) cost
accumulator_changed B s op cost = b_changed s (InB op) cost

-- the groups, each with its operand's place
unfoldable pub with_a_effect : State → List ℕ → Decoded → Effect
with_a_effect s m d =
    let place = operand_place s m d.mode d.at in
    a_with place.state d.kind (byte_at m place.address) d.cost

unfoldable pub with_b_effect : State → List ℕ → Decoded → Effect
with_b_effect s m d =
    let place = operand_place s m d.mode d.at in
    b_with place.state d.kind (byte_at m place.address) d.cost

unfoldable pub in_memory_effect : State → List ℕ → Decoded → Effect
in_memory_effect s m d =
    let place = operand_place s m d.mode d.at in
    memory_changed place.state d.kind (byte_at m place.address) place.address d.cost

unfoldable pub in_a_effect : State → Decoded → Effect
in_a_effect s d = a_changed s d.kind d.cost

unfoldable pub in_b_effect : State → Decoded → Effect
in_b_effect s d = b_changed s d.kind d.cost
