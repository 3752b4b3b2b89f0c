-- Multiplication and division. The glossary of 002 (section 6.6), on the page that is named beside the instruction, says which registers
-- hold the operands and the result.
use Rattle.std.specs.Prelude.{ℕ, List}
use Rattle.word.specs.Word.{pick, plus_w, high_word, low_word, long_of}
use Rattle.memory.specs.Memory.{word_at, store_words}
use Rattle.state.specs.declared.State.{State}
use Rattle.state.specs.State.{with_d, with_x, with_y, with_flags, d_of}
use Rattle.opcodes.specs.declared.kind.Kind.{Kind}
use Rattle.opcodes.specs.Kind.{same, MUL, EMUL, EMULS, EMACS, EDIV, EDIVS, IDIV, IDIVS}
use Rattle.quotient.specs.declared.Division.{Division}
use Rattle.product.specs.Product.{Long, mul_word, emul_long, emuls_long, emacs_long}
use Rattle.quotient.specs.Divide.{idiv_of, idivs_of, fdiv_of, ediv_of, edivs_of}
use Rattle.decode.specs.declared.Decoded.{Decoded}
use Rattle.effect.specs.declared.Effect.{Effect}
use Rattle.effect.specs.Effect.{quiet, writes}
use Rattle.execute16.specs.Words.{d_result}

-- a result of 32 bits in Y : D
abbrev pub yd_result : State → Long → State
yd_result s r = with_flags (with_d (with_y s (high_word r.value)) (low_word r.value)) r.flags

-- a quotient in X, or in Y, and the remainder in D
abbrev pub xd_result : State → Division → State
xd_result s r = with_flags (with_d (with_x s r.quotient) r.remainder) r.flags

abbrev pub yd_divided : State → Division → State
yd_divided s r = with_flags (with_d (with_y s r.quotient) r.remainder) r.flags

-- MUL (p. 6-146), EMUL (6-85), EMULS (6-86), EDIV (6-78), EDIVS (6-79), IDIV (6-94), IDIVS (6-95), and the last FDIV (6-91): those
-- without an operand in memory
unfoldable pub multiplied : Kind → State → State
multiplied kind s =
    pick (same kind MUL) (d_result s (mul_word s.flags s.a s.b))
    (pick (same kind EMUL) (yd_result s (emul_long s.flags (d_of s) s.y))
    (pick (same kind EMULS) (yd_result s (emuls_long s.flags (d_of s) s.y))
    (pick (same kind EDIV) (yd_divided s (ediv_of s.flags s.y (d_of s) s.x))
    (pick (same kind EDIVS) (yd_divided s (edivs_of s.flags s.y (d_of s) s.x))
    (pick (same kind IDIV) (xd_result s (idiv_of s.flags (d_of s) s.x))
    (pick (same kind IDIVS) (xd_result s (idivs_of s.flags (d_of s) s.x))
    (xd_result s (fdiv_of s.flags (d_of s) s.x))))))))

-- EMACS (p. 6-80): the words at X and at Y, and the four bytes at the address after the opcode, high byte first
unfoldable pub accumulate_effect : State → List ℕ → ℕ → ℕ → Effect
accumulate_effect s m cost a =
    let r = emacs_long s.flags (word_at m s.x) (word_at m s.y) (long_of (word_at m a) (word_at m (plus_w a 2))) in
    writes (with_flags s r.flags) cost (store_words a (high_word r.value) (low_word r.value))

-- EMACS, whose address stands at the address `at`, or one of the others
abbrev pub product_of : Kind → State → List ℕ → ℕ → ℕ → Effect
product_of kind s m at cost =
    pick (same kind EMACS) (accumulate_effect s m cost (word_at m at)) (quiet (multiplied kind s) cost)

unfoldable pub product_effect : State → List ℕ → Decoded → Effect
product_effect s m d = product_of d.kind s m d.at d.cost
