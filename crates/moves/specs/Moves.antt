-- Moves, from the glossary of 002 (section 6.6). No code is affected.
use Rattle.std.specs.Prelude.{List, ℕ}
use Rattle.word.specs.Word.{pick}
use Rattle.memory.specs.declared.Store.{Store}
use Rattle.memory.specs.Memory.{byte_at, word_at, store_byte, store_word}
use Rattle.state.specs.declared.State.{State}
use Rattle.opcodes.specs.Kind.{same, MOVB}
use Rattle.routes.specs.Routes.{route_of}
use Rattle.decode.specs.declared.Decoded.{Decoded}
use Rattle.effect.specs.declared.Effect.{Effect}
use Rattle.effect.specs.Effect.{writes}

-- a move of so many bytes: what is read at the source is stored at the target
abbrev pub data_moved : {D : Type 0} → ℕ → (List ℕ → ℕ → D) → (ℕ → D → Store) → State → List ℕ → Decoded → Effect
data_moved size read store s m d =
    let route = route_of s m d.mode d.at size in
    writes route.state d.cost (store route.target (read m route.source))

-- MOVB (p. 6-144)
unfoldable pub byte_move_effect : State → List ℕ → Decoded → Effect
byte_move_effect s m d = data_moved 1 byte_at store_byte s m d

-- MOVW (p. 6-145)
unfoldable pub word_move_effect : State → List ℕ → Decoded → Effect
word_move_effect s m d = data_moved 2 word_at store_word s m d

-- MOVB, and else MOVW
unfoldable pub move_effect : State → List ℕ → Decoded → Effect
move_effect s m d = pick (same d.kind MOVB) (byte_move_effect s m d) (word_move_effect s m d)
