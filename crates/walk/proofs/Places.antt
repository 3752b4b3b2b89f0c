-- The operands' places and the moves' routes: their addresses are words, and only a base register is set on the way to them. On the
-- definitions alone. Assumes nothing.
use Prim.Native.Nat.{ℕ, ◌/◌, ◌%◌, ◌<◌}
use native.Mathlib.Omega.{arith}
use mathlib.Core.Path.{◌≡◌, refl, ap}
use mathlib.Core.Bool.{Bool, true, false}
use mathlib.Core.List.{List}
use lib.Dec.{eqb}
use Rattle.word.specs.Word.{pick, bit_of, plus_w, minus_w}
use Rattle.memory.specs.Memory.{byte_at}
use Rattle.state.specs.declared.State.{State}
use Rattle.state.specs.State.{with_clock}
use Rattle.opcodes.specs.declared.mode.Mode.{Mode}
use Rattle.opcodes.specs.Mode.{mode_number, IM, DI, EX, IM_EX, EX_EX, IM_ID, EX_ID, ID_EX}
use Rattle.operand.specs.declared.Place.{Place}
use Rattle.routes.specs.declared.Route.{Route}
use Rattle.operand.specs.Indexed.{place_is, with_base, stepped_place, constant_place, accumulator_place, indexed_place}
use Rattle.routes.specs.Routes.{route_is, immediate_to_indexed, extended_to_indexed, indexed_to_extended, indexed_to_indexed, route_of}
use Rattle.operand.specs.Operand.{operand_place}
use Rattle.decode.specs.declared.Decoded.{Decoded}
use Rattle.walk.specs.Walk.{Before, before, Fits}
use Rattle.walk.proofs.Registers.{base_word}
use Rattle.walk.proofs.Settings.{Leads, byte_in_lem, word_in, start, fit, set_x_lem, set_y, set_sp, if◌then◌else◌}

-- a place, and with the clock at c the same place; and where a move goes
pub record Placed (b : Before) (c : ℕ) (p q : Place) : Type 0 where
  pub address : Fits b → p.address < 65536
  pub state : Leads b c p.state (with_clock p.state c)
  pub same : q ≡ place_is p.address (with_clock p.state c)

pub record Routed (b : Before) (c : ℕ) (p q : Route) : Type 0 where
  pub target : Fits b → p.target < 65536
  pub state : Leads b c p.state (with_clock p.state c)
  pub same : q ≡ route_is p.source p.target (with_clock p.state c)

module _ {b : Before} {c : ℕ} where
  placed : {s u : State} {a : ℕ} → Leads b c s u → (Fits b → a < 65536) → Placed b c (place_is a s) (place_is a u)
  placed {a = a} w h =
      record { address = h; state = record { comes = w.comes; same = refl }; same = ap (λ z. place_is a z) w.same }

  routed : {s u : State} {a a' : ℕ} → Leads b c s u → (Fits b → a' < 65536) → Routed b c (route_is a a' s) (route_is a a' u)
  routed {a = a} {a' = a'} w h =
      record { target = h; state = record { comes = w.comes; same = refl }; same = ap (λ z. route_is a a' z) w.same }

  infixr 0 if◌lies◌else◌
  if◌lies◌else◌ : (t : Bool) {p p' q q' : Place} → Placed b c p q → Placed b c p' q' → Placed b c (pick t p p') (pick t q q')
  if◌lies◌else◌ true w w' = w
  if◌lies◌else◌ false w w' = w'

  infixr 0 if◌goes◌else◌
  if◌goes◌else◌ : (t : Bool) {p p' q q' : Route} → Routed b c p q → Routed b c p' q' → Routed b c (pick t p p') (pick t q q')
  if◌goes◌else◌ true w w' = w
  if◌goes◌else◌ false w w' = w'

  module _ {s : State} (w : Leads b c s (with_clock s c)) where
    with_base_lem : (rr : ℕ) {v : ℕ} → (Fits b → v < 65536) → Leads b c (with_base s rr v) (with_base (with_clock s c) rr v)
    with_base_lem rr h = if eqb rr 0 then set_x_lem w h else if eqb rr 1 then set_y w h else set_sp w h

    stepped : (p : ℕ) → Placed b c (stepped_place s p) (stepped_place (with_clock s c) p)
    unfolding stepped_place
    stepped p =
        if bit_of 4 p lies placed (with_base_lem (p / 64) (λ k. omega arith)) (λ k. base_word (fit w k) (omega arith) (p / 64)) else
        placed (with_base_lem (p / 64) (λ k. omega arith)) (λ k. omega arith)

    constant : (at pc p : ℕ) → Placed b c (constant_place s b.memory at pc p) (constant_place (with_clock s c) b.memory at pc p)
    unfolding constant_place
    constant at pc p =
        if bit_of 1 p lies (if bit_of 0 p lies placed w (λ k. word_in k _) else placed w (λ k. omega arith)) else
        placed w (λ k. omega arith)

    accumulator : (pc p : ℕ) → Placed b c (accumulator_place s b.memory pc p) (accumulator_place (with_clock s c) b.memory pc p)
    unfolding accumulator_place
    accumulator pc p =
        if eqb (p % 4) 0 lies placed w (λ k. omega arith) else
        if eqb (p % 4) 1 lies placed w (λ k. omega arith) else
        if eqb (p % 4) 2 lies placed w (λ k. omega arith) else
        placed w (λ k. word_in k _)

    indexed : (at pc : ℕ) → Placed b c (indexed_place s b.memory at pc) (indexed_place (with_clock s c) b.memory at pc)
    unfolding indexed_place
    indexed at pc =
        let p = byte_at b.memory at in
        if bit_of 5 p lies
        (if eqb (p / 64) 3 lies (if bit_of 2 p lies accumulator pc p else constant at pc p) else stepped p) else
        placed w (λ k. omega arith)

    operand :
        (mode : Mode) {at : ℕ} → (Fits b → at < 65536) →
        Placed b c (operand_place s b.memory mode at) (operand_place (with_clock s c) b.memory mode at)
    unfolding operand_place
    operand mode {at} h =
        if eqb (mode_number mode) (mode_number IM) lies placed w h else
        if eqb (mode_number mode) (mode_number DI) lies placed w (λ k. omega (arith, byte_in_lem k at)) else
        if eqb (mode_number mode) (mode_number EX) lies placed w (λ k. word_in k at) else
        indexed at s.pc

  module _ {s : State} (w : Leads b c s (with_clock s c)) (at : ℕ) where
    route : (mode : Mode) (size : ℕ) → Routed b c (route_of s b.memory mode at size) (route_of (with_clock s c) b.memory mode at size)
    unfolding route_of immediate_to_indexed extended_to_indexed indexed_to_extended indexed_to_indexed
    route mode size =
        let im-id = indexed w at (plus_w s.pc size) in
        let ex-id = indexed w at (plus_w s.pc 2) in
        let id-ex = indexed w at (minus_w s.pc 2) in
        let from = indexed w at (minus_w s.pc 1) in
        let to = indexed from.state (plus_w at 1) (plus_w s.pc 1) in
        if eqb (mode_number mode) (mode_number IM_EX) goes routed w (λ k. word_in k _) else
        if eqb (mode_number mode) (mode_number EX_EX) goes routed w (λ k. word_in k _) else
        if eqb (mode_number mode) (mode_number IM_ID) goes rw im-id.same (routed im-id.state im-id.address) else
        if eqb (mode_number mode) (mode_number EX_ID) goes rw ex-id.same (routed ex-id.state ex-id.address) else
        if eqb (mode_number mode) (mode_number ID_EX) goes rw id-ex.same (routed id-ex.state (λ k. word_in k _)) else
        rw (from.same, to.same) (routed to.state to.address)

-- where the operand of an instruction lies, and where a move goes
pub place :
    (s : State) (m : List ℕ) (line : ℕ) (d : Decoded) (c : ℕ) →
    Placed (before s m line d) c (operand_place s m d.mode d.at) (operand_place (with_clock s c) m d.mode d.at)
place s m line d c = operand start d.mode (λ k. k.at)

pub way :
    (s : State) (m : List ℕ) (line : ℕ) (d : Decoded) (c size : ℕ) →
    Routed (before s m line d) c (route_of s m d.mode d.at size) (route_of (with_clock s c) m d.mode d.at size)
way s m line d c size = route start d.at d.mode size
