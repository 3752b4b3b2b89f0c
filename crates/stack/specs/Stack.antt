-- Pushes, pulls and subroutines. SP points at the last byte that was pushed (002, 2.1.3, p. 2-2).
use Rattle.std.specs.Prelude.{ℕ, List}
use Rattle.word.specs.Word.{pick, plus_w, minus_w}
use Rattle.memory.specs.declared.Store.{Store}
use Rattle.memory.specs.Memory.{byte_at, word_at, store_byte, store_word}
use Rattle.state.specs.declared.State.{State}
use Rattle.state.specs.Ccr.{ccr_of, take_ccr}
use Rattle.state.specs.State.{with_a, with_b, with_d, with_x, with_y, with_sp, with_pc, with_flags, d_of}
use Rattle.opcodes.specs.declared.kind.Kind.{Kind}
use Rattle.opcodes.specs.Kind.{same, PULX, PULY, PULA, PULB, PSHX, PSHY, PSHA, PSHB, PULC, PSHC, PULD}
use Rattle.decode.specs.declared.Decoded.{Decoded}
use Rattle.effect.specs.declared.Effect.{Effect}
use Rattle.effect.specs.Effect.{quiet, writes}

-- SP falls by as many bytes as are pushed, and they are stored there
abbrev pub pushed : State → ℕ → ℕ → (ℕ → Store) → Effect
pushed s n cost store_at = writes (with_sp s (minus_w s.sp n)) cost (store_at (minus_w s.sp n))

-- a byte, and a word
abbrev pub byte_pushed : State → ℕ → ℕ → Effect
byte_pushed s cost v = pushed s 1 cost (λ top. store_byte top v)

abbrev pub word_pushed : State → ℕ → ℕ → Effect
word_pushed s cost v = pushed s 2 cost (λ top. store_word top v)

-- SP rises by as many bytes as were pulled
abbrev pub pulled : State → ℕ → ℕ → Effect
pulled s n cost = quiet (with_sp s (plus_w s.sp n)) cost

-- PULX (p. 6-164), PULY (6-165), PULA (6-160), PULB (6-161), PSHX (6-158), PSHY (6-159), PSHA (6-154), PSHB (6-155), PULC (6-162),
-- PSHC (6-156), PULD (6-163), and the last PSHD (6-157)
unfoldable pub stacked : Kind → State → List ℕ → ℕ → Effect
stacked kind s m cost =
    pick (same kind PULX) (pulled (with_x s (word_at m s.sp)) 2 cost)
    (pick (same kind PULY) (pulled (with_y s (word_at m s.sp)) 2 cost)
    (pick (same kind PULA) (pulled (with_a s (byte_at m s.sp)) 1 cost)
    (pick (same kind PULB) (pulled (with_b s (byte_at m s.sp)) 1 cost)
    (pick (same kind PSHX) (word_pushed s cost s.x)
    (pick (same kind PSHY) (word_pushed s cost s.y)
    (pick (same kind PSHA) (byte_pushed s cost s.a)
    (pick (same kind PSHB) (byte_pushed s cost s.b)
    (pick (same kind PULC) (pulled (with_flags s (take_ccr s.flags (byte_at m s.sp))) 1 cost)
    (pick (same kind PSHC) (byte_pushed s cost (ccr_of s.flags))
    (pick (same kind PULD) (pulled (with_d s (word_at m s.sp)) 2 cost) (word_pushed s cost (d_of s))))))))))))

unfoldable pub stack_effect : State → List ℕ → Decoded → Effect
stack_effect s m d = stacked d.kind s m d.cost

-- a subroutine, of BSR (p. 6-49) and JSR (6-103): the return address is pushed, and PC is the subroutine's
unfoldable pub subroutine_effect : State → ℕ → ℕ → Effect
subroutine_effect s cost target =
    writes (with_pc (with_sp s (minus_w s.sp 2)) target) cost (store_word (minus_w s.sp 2) s.pc)

-- RTS (p. 6-178): PC is the return address, which is pulled
unfoldable pub return_effect : State → List ℕ → ℕ → Effect
return_effect s m cost = quiet (with_pc (with_sp s (plus_w s.sp 2)) (word_at m s.sp)) cost
