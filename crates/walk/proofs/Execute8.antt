-- The walk through the groups of bytes, a lemma for each (crate execute8). On the definitions alone. Assumes nothing.
use Prim.Native.Nat.{ℕ}
use mathlib.Core.List.{List}
use Rattle.state.specs.declared.State.{State}
use Rattle.opcodes.specs.Kind.{member_of, same, TST}
use Rattle.decode.specs.declared.Decoded.{Decoded}
use Rattle.execute8.specs.Bytes.{memory_changed, with_a_effect, with_b_effect, in_memory_effect, in_a_effect, in_b_effect}
use Rattle.walk.specs.Walk.{Before, before}
use Rattle.walk.proofs.Results.{accumulated_leaves, changed_leaves}
use Rattle.walk.proofs.Settings.{Yielding, byte_in_lem, start, fit, set_a, set_b, set_codes, quietly, with_byte_lem, if◌does◌else◌}
use Rattle.walk.proofs.Places.{place}

module _ (s : State) (m : List ℕ) (line : ℕ) (d : Decoded) (c : ℕ) where
  abbrev b : Before
  b = before s m line d

  abbrev member : ℕ
  member = member_of d.kind

  pub with_a_lem : Yielding b c s (λ z. with_a_effect z m d)
  unfolding with_a_effect
  with_a_lem =
      let p = place s m line d c in
      let w = p.state in
      let it = accumulated_leaves member _ _ _ in
      rw p.same (quietly (set_codes (set_a w (λ k. it.byte ((fit w k).a, byte_in_lem k _))) it.x))

  pub with_b_lem : Yielding b c s (λ z. with_b_effect z m d)
  unfolding with_b_effect
  with_b_lem =
      let p = place s m line d c in
      let w = p.state in
      let it = accumulated_leaves member _ _ _ in
      rw p.same (quietly (set_codes (set_b w (λ k. it.byte ((fit w k).b, byte_in_lem k _))) it.x))

  pub in_memory : Yielding b c s (λ z. in_memory_effect z m d)
  unfolding in_memory_effect memory_changed
  in_memory =
      let p = place s m line d c in
      let it = changed_leaves member _ _ in
      rw p.same
      (if same d.kind TST does quietly (set_codes p.state it.x) else
      with_byte_lem (set_codes p.state it.x) p.address (λ k. it.byte (byte_in_lem k _)))

  pub in_a_lem : Yielding b c s (λ z. in_a_effect z d)
  unfolding in_a_effect
  in_a_lem = let it = changed_leaves member _ _ in quietly (set_codes (set_a start (λ k. it.byte k.registers.a)) it.x)

  pub in_b : Yielding b c s (λ z. in_b_effect z d)
  unfolding in_b_effect
  in_b = let it = changed_leaves member _ _ in quietly (set_codes (set_b start (λ k. it.byte k.registers.b)) it.x)
