-- The instructions on words: D, X, Y or SP with an operand, the stores, and the larger or smaller of two. As in crate execute8, what an
-- instruction does is said of numbers, and the groups then say where these come from; the state is the one after the operand's base
-- register has stepped. The operations are those of the glossary (002, section 6.6), each on the page that is named beside the
-- instruction.
use Rattle.std.specs.Prelude.{ℕ, List}
use Rattle.word.specs.Word.{pick}
use Rattle.memory.specs.Memory.{byte_at, word_at, store_byte, store_word}
use Rattle.state.specs.declared.Flags.{Flags}
use Rattle.state.specs.declared.State.{State}
use Rattle.state.specs.State.{with_d, with_x, with_y, with_sp, with_flags, d_of}
use Rattle.opcodes.specs.declared.kind.Kind.{Kind}
use Rattle.opcodes.specs.Kind.{same, SUBD, ADDD, CPD, CPY, CPX, CPS, LDD, LDY, LDX, STAA, STAB, STD, STY, STX, MAXA, MINA, EMAXD, EMIND, MAXM, MINM, EMAXM}
use Rattle.results.specs.Results.{Byte, Word, wide_of, result_codes}
use Rattle.alu.specs.Alu.{add_word, sub_word, max_byte, min_byte, max_word, min_word}
use Rattle.operand.specs.Operand.{operand_place}
use Rattle.decode.specs.declared.Decoded.{Decoded}
use Rattle.effect.specs.declared.Effect.{Effect}
use Rattle.effect.specs.Effect.{quiet, writes}
use Rattle.execute8.specs.Bytes.{a_result}
use Rattle.execute16.specs.declared.WordRegister.{WordRegister}
use Rattle.execute16.specs.declared.WordRegister.TheVariants.{D, X, Y, Sp}

-- a load of a word, as LDD (p. 6-124): N and Z of it, V 0
abbrev pub loaded_word : Flags → ℕ → Word
loaded_word f m = wide_of m (result_codes 15 f)

-- a result of 16 bits in D, X, Y and SP
abbrev pub d_result : State → Word → State
d_result s r = with_flags (with_d s r.value) r.flags

abbrev pub x_result : State → Word → State
x_result s r = with_flags (with_x s r.value) r.flags

abbrev pub y_result : State → Word → State
y_result s r = with_flags (with_y s r.value) r.flags

abbrev pub sp_result : State → Word → State
sp_result s r = with_flags (with_sp s r.value) r.flags

-- a word in the register that the code names, and a result of 16 bits in it
abbrev pub register_with : WordRegister → State → ℕ → State
register_with D s v = with_d s v
register_with X s v = with_x s v
register_with Y s v = with_y s v
register_with Sp s v = with_sp s v

abbrev pub register_result : WordRegister → State → Word → State
register_result register s r = with_flags (register_with register s r.value) r.flags

-- a comparison, as CPD (p. 6-65): the codes of a result, and every register as it was
abbrev pub compared : State → Word → State
compared s r = with_flags s r.flags

-- The state after the operation with the word m: SUBD (p. 6-195), ADDD (6-15), CPD (6-65), CPY (6-68), CPX (6-67), CPS (6-66),
-- LDD (6-124), LDY (6-127), LDX (6-126), and the last LDS (6-125)
unfoldable pub worded : Kind → State → ℕ → State
worded kind s m =
    pick (same kind SUBD) (d_result s (sub_word s.flags (d_of s) m))
    (pick (same kind ADDD) (d_result s (add_word s.flags (d_of s) m))
    (pick (same kind CPD) (compared s (sub_word s.flags (d_of s) m))
    (pick (same kind CPY) (compared s (sub_word s.flags s.y m))
    (pick (same kind CPX) (compared s (sub_word s.flags s.x m))
    (pick (same kind CPS) (compared s (sub_word s.flags s.sp m))
    (pick (same kind LDD) (d_result s (loaded_word s.flags m))
    (pick (same kind LDY) (y_result s (loaded_word s.flags m))
    (pick (same kind LDX) (x_result s (loaded_word s.flags m)) (sp_result s (loaded_word s.flags m))))))))))

abbrev pub word_with : State → Kind → ℕ → ℕ → Effect
word_with s kind v cost = quiet (worded kind s v) cost

unfoldable pub with_word_effect : State → List ℕ → Decoded → Effect
with_word_effect s m d =
    let place = operand_place s m d.mode d.at in
    word_with place.state d.kind (word_at m place.address) d.cost

-- a store, as STAA (p. 6-186) and STD (6-188): the byte or word, with N and Z of it and V 0
abbrev pub byte_stored : State → ℕ → ℕ → ℕ → Effect
byte_stored s cost a v = writes (with_flags s (result_codes 7 s.flags v)) cost (store_byte a v)

abbrev pub word_stored : State → ℕ → ℕ → ℕ → Effect
word_stored s cost a v = writes (with_flags s (result_codes 15 s.flags v)) cost (store_word a v)

-- STAA (p. 6-186), STAB (6-187), STD (6-188), STY (6-192), STX (6-191), and the last STS (6-190), at the address a
unfoldable pub stored : Kind → State → ℕ → ℕ → Effect
stored kind s cost a =
    pick (same kind STAA) (byte_stored s cost a s.a)
    (pick (same kind STAB) (byte_stored s cost a s.b)
    (pick (same kind STD) (word_stored s cost a (d_of s))
    (pick (same kind STY) (word_stored s cost a s.y)
    (pick (same kind STX) (word_stored s cost a s.x) (word_stored s cost a s.sp)))))

unfoldable pub store_effect : State → List ℕ → Decoded → Effect
store_effect s m d =
    let place = operand_place s m d.mode d.at in
    stored d.kind place.state d.cost place.address

-- the result of a choice in memory: it is always stored
abbrev pub byte_chosen : State → ℕ → ℕ → Byte → Effect
byte_chosen s cost a r = writes (with_flags s r.flags) cost (store_byte a r.value)

abbrev pub word_chosen : State → ℕ → ℕ → Word → Effect
word_chosen s cost a r = writes (with_flags s r.flags) cost (store_word a r.value)

-- The larger or smaller of a register and the operand at the address a: MAXA (p. 6-139), MINA (6-142), EMAXD (6-81), EMIND (6-83),
-- MAXM (6-140), MINM (6-143), EMAXM (6-82), and the last EMINM (6-84)
unfoldable pub chosen : Kind → State → List ℕ → ℕ → ℕ → Effect
chosen kind s m cost a =
    pick (same kind MAXA) (quiet (a_result s (max_byte s.flags s.a (byte_at m a))) cost)
    (pick (same kind MINA) (quiet (a_result s (min_byte s.flags s.a (byte_at m a))) cost)
    (pick (same kind EMAXD) (quiet (d_result s (max_word s.flags (d_of s) (word_at m a))) cost)
    (pick (same kind EMIND) (quiet (d_result s (min_word s.flags (d_of s) (word_at m a))) cost)
    (pick (same kind MAXM) (byte_chosen s cost a (max_byte s.flags s.a (byte_at m a)))
    (pick (same kind MINM) (byte_chosen s cost a (min_byte s.flags s.a (byte_at m a)))
    (pick (same kind EMAXM) (word_chosen s cost a (max_word s.flags (d_of s) (word_at m a)))
    (word_chosen s cost a (min_word s.flags (d_of s) (word_at m a)))))))))

unfoldable pub choose_effect : State → List ℕ → Decoded → Effect
choose_effect s m d =
    let place = operand_place s m d.mode d.at in
    chosen d.kind place.state m d.cost place.address
