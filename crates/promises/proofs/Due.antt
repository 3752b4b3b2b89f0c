-- What is due at a boundary, 4, 5 or neither, by the number of its turn. On the definitions alone. Assumes nothing.
use Prim.Native.Nat.{ℕ, zero, suc, ◌+◌, ◌<◌, ◌≤◌}
use native.Mathlib.Omega.{arith}
use Rattle.std.proofs.Common.{Ok, Err}
use Rattle.std.proofs.Math.Bool.{or-false}
use Rattle.std.proofs.lemmas.Bool.{false_from_ne_true}
use native.Mathlib.Decide.{ℕ_discrete}
use mathlib.Core.Logic.{◌↔◌}
use mathlib.Core.Path.{◌≡◌, refl, sym, ◌∙◌, ap}
use mathlib.Core.Bool.{Bool, true, false, ◌&&◌, ◌||◌, not, true≢false, false≢true}
use mathlib.Core.List.{List, [], ◌∷◌}
use lib.Dec.{ltb, eqb}
use borrow.Author.Tests.{ltb-false, le-ltb, eqb-true, ne_eqb}
use Rattle.word.specs.Word.{pick, bit_of, plus_w}
use Rattle.word.proofs.Laws.{both}
use Rattle.word.proofs.Table.{at_number, same, same_is}
use Rattle.memory.specs.Memory.{byte_at, AreBytes}
use Rattle.state.specs.declared.Flags.{Flags}
use Rattle.state.specs.declared.State.{State}
use Rattle.opcodes.specs.Map.{cell_number, cell_of}
use Rattle.opcodes.specs.Rules.{stops_of, among, stop_cell}
use Rattle.opcodes.proofs.Cells.{cell_number_below, every_cell}
use Rattle.decode.specs.declared.Halt.TheVariants.{Stopped, Reserved}
use Rattle.decode.specs.Decode.{cell_at, after_opcode, reserved_at, fetched_of}
use Rattle.effect.specs.Effect.{quiet}
use Rattle.machine.specs.declared.Reply.TheVariants.{Done}
use Rattle.machine.specs.Names.{number_of, no_line, idle_cost}
use Rattle.requests.specs.Requests.{lowest_line, allowed_line, entry_effect, wake_effect}
use Rattle.turn.specs.Turn.{turn_is, instructed, turn_of}
use Rattle.walk.specs.Turns.{instruction_at}
use Rattle.promises.proofs.Exactly.{then, replaced, here, later, picked}
use Rattle.promises.specs.Replies.{NoRequest, stops_on_page_one, stops_on_page_two, one_of_the_ten, StopsHere, IsReservedHere}

-- a bit from 1 to 5 that is up makes a line the lowest
lowest_below : (line k : ℕ) → 1 ≤ k → k ≤ 5 → bit_of k line ≡ true → lowest_line line < no_line
lowest_below line = at
  where
    past : (t : Bool) {a b : ℕ} → a < no_line → b < no_line → pick t a b < no_line
    past t = both (λ (n : ℕ). n < no_line) t _ _

    -- past bits 1 to 3
    past_three : {n : ℕ} → n < no_line → pick (bit_of 1 line) 1 (pick (bit_of 2 line) 2 (pick (bit_of 3 line) 3 n)) < no_line
    past_three h = past (bit_of 1 line) (omega arith) (past (bit_of 2 line) (omega arith) (past (bit_of 3 line) (omega arith) h))

    at : (k : ℕ) → 1 ≤ k → k ≤ 5 → bit_of k line ≡ true → lowest_line line < no_line
    at zero low high up = absurd (omega (arith, low))
    at (suc zero) low high up = rw up (omega arith)
    at (suc (suc zero)) low high up = past (bit_of 1 line) (omega arith) (rw up (omega arith))
    at (suc (suc (suc zero))) low high up = past (bit_of 1 line) (omega arith) (past (bit_of 2 line) (omega arith) (rw up (omega arith)))
    at (suc (suc (suc (suc zero)))) low high up = past_three (rw up (omega arith))
    at (suc (suc (suc (suc (suc zero))))) low high up = past_three (past (bit_of 4 line) (omega arith) (rw up (omega arith)))
    at (suc (suc (suc (suc (suc (suc k)))))) low high up = absurd (omega (arith, high))

-- no line is to be entered exactly where each is down or masked
no_line_lem : (f : Flags) (line : ℕ) → (ltb (allowed_line f line) no_line ≡ false) ↔ NoRequest f line
unfolding allowed_line
no_line_lem f line = (λ e. (xirq e, others e), λ none. le-ltb (allowed_line f line) no_line (rw (masked (bit_of 0 line) f.x none.0) (rest f.i none.1)))
  where
    -- a line that is up and not masked would be the one to be entered, and it is below that number
    xirq : ltb (allowed_line f line) no_line ≡ false → bit_of 0 line ≡ true → f.x ≡ true
    xirq e up = go f.x refl
      where
        go : (x : Bool) → f.x ≡ x → x ≡ true
        go true is = refl
        go false is = let high = rw (up, is) at (ltb-false (allowed_line f line) no_line e) in absurd (omega (arith, high))

    others : ltb (allowed_line f line) no_line ≡ false → (k : ℕ) → 1 ≤ k → k ≤ 5 → bit_of k line ≡ true → f.i ≡ true
    others e k low most up = go f.i refl
      where
        go : (i : Bool) → f.i ≡ i → i ≡ true
        go true is = refl
        go false is =
            let high = rw is at (ltb-false (allowed_line f line) no_line e) in
            let below = both (λ (n : ℕ). n < no_line) (bit_of 0 line && not f.x) 0 (lowest_line line) (omega arith) (lowest_below line k low most up) in
            absurd (omega (arith, high, below))

    masked : (up x : Bool) → (up ≡ true → x ≡ true) → up && not x ≡ false
    masked true true none = refl
    masked true false none = absurd (true≢false (sym (none refl)))
    masked false x none = refl

    rest : (i : Bool) → ((k : ℕ) → 1 ≤ k → k ≤ 5 → bit_of k line ≡ true → i ≡ true) → no_line ≤ pick i no_line (lowest_line line)
    rest true none = omega arith
    rest false none =
        rw (down 1 (omega arith) (omega arith), down 2 (omega arith) (omega arith), down 3 (omega arith) (omega arith), down 4 (omega arith) (omega arith), down 5 (omega arith) (omega arith))
        (omega arith)
      where
        down : (k : ℕ) → 1 ≤ k → k ≤ 5 → bit_of k line ≡ false
        down k low high = false_from_ne_true (bit_of k line) (λ up. false≢true (none k low high up))

-- the ten, on each page: a test over every opcode
page_one_lem : (b : ℕ) → b < 256 → stop_cell b ≡ among b stops_on_page_one
page_one_lem b h = same_is _ _ (at_number (λ b. same (stop_cell b) (among b stops_on_page_one)) 256 tt b h)

page_two_lem : (b : ℕ) → b < 256 → stop_cell (256 + b) ≡ among b stops_on_page_two
page_two_lem b h = same_is _ _ (at_number (λ b. same (stop_cell (256 + b)) (among b stops_on_page_two)) 256 tt b h)

-- what stops the machine are the ten
ten_stop : (m : List ℕ) (pc : ℕ) → AreBytes m → stops_of (cell_at m pc) ≡ one_of_the_ten m pc
ten_stop m pc bytes = go (eqb (byte_at m pc) 0x18) refl
  where
    first : ℕ
    first = byte_at m pc

    second : ℕ
    second = byte_at m (plus_w pc 1)

    go :
        (b : Bool) → eqb (byte_at m pc) 0x18 ≡ b →
        stops_of (cell_of (cell_number b (pick b second first))) ≡ among first stops_on_page_one || (b && among second stops_on_page_two)
    go true is =
        (every_cell (256 + second) (cell_number_below true (bytes (plus_w pc 1)))).stops
        ∙ page_two_lem second (bytes (plus_w pc 1))
        ∙ ap (λ n. among n stops_on_page_one || among second stops_on_page_two) (sym (eqb-true first 0x18 is))
    go false is =
        (every_cell first (cell_number_below false (bytes pc))).stops ∙ page_one_lem first (bytes pc) ∙ sym (or-false (among first stops_on_page_one))

-- the number of a turn, by the tests in their order
turn_number :
    (s : State) (m : List ℕ) (line : ℕ) →
    number_of (turn_of s m line).reply
    ≡ pick (ltb (allowed_line s.flags line) no_line) 0
    (pick s.standing.waiting 0
    (pick (stops_of (cell_at m s.pc)) 4 (pick (reserved_at m (cell_at m s.pc) (after_opcode m s.pc)) 5 0)))
unfolding turn_of instructed fetched_of
turn_number s m line =
    go (ltb k no_line) s.standing.waiting (stops_of (cell_at m s.pc)) (reserved_at m (cell_at m s.pc) (after_opcode m s.pc))
  where
    k : ℕ
    k = allowed_line s.flags line

    go :
        (b w st rs : Bool) →
        number_of
        (pick b (pick w (turn_is Done (wake_effect s m k)) (turn_is Done (entry_effect s m k)))
        (pick w (turn_is Done (quiet s idle_cost)) (instructed s m line (pick st (Err Stopped) (pick rs (Err Reserved) (Ok (instruction_at m s.pc))))))).reply
        ≡ pick b 0 (pick w 0 (pick st 4 (pick rs 5 0)))
    go true true st rs = refl
    go true false st rs = refl
    go false true st rs = refl
    go false false true rs = refl
    go false false false true = refl
    go false false false false = refl

-- 4 and 5, exactly where they are due
pub four_due : (s : State) (m : List ℕ) (line : ℕ) → AreBytes m → (number_of (turn_of s m line).reply ≡ 4) ↔ StopsHere s m line
four_due s m line bytes =
    then (replaced (turn_number s m line))
    (then
    (later (ltb (allowed_line s.flags line) no_line) (λ e. omega (arith, e)) (no_line_lem s.flags line)
    (later s.standing.waiting (λ e. omega (arith, e)) (λ e. e, λ e. e)
    (here (stops_of (cell_at m s.pc)) (picked (reserved_at m (cell_at m s.pc) (after_opcode m s.pc)) (λ e. omega (arith, e)) (λ e. omega (arith, e)))
    (replaced (ten_stop m s.pc bytes)))))
    (λ p. record { request = p.0; awake = p.1.0; opcode = p.1.1 }, λ r. (r.request, (r.awake, r.opcode))))

pub five_due : (s : State) (m : List ℕ) (line : ℕ) → AreBytes m → (number_of (turn_of s m line).reply ≡ 5) ↔ IsReservedHere s m line
five_due s m line bytes =
    then (replaced (turn_number s m line))
    (then
    (later (ltb (allowed_line s.flags line) no_line) (λ e. omega (arith, e)) (no_line_lem s.flags line)
    (later s.standing.waiting (λ e. omega (arith, e)) (λ e. e, λ e. e)
    (later (stops_of (cell_at m s.pc)) (λ e. omega (arith, e)) (replaced (ten_stop m s.pc bytes))
    (here (reserved_at m (cell_at m s.pc) (after_opcode m s.pc)) (λ e. omega (arith, e)) (λ e. e, λ e. e))))) (
      λ p. record { request = p.0; awake = p.1.0; opcode = p.1.1.0; postbyte = p.1.1.1 },
      λ r. (r.request, (r.awake, (r.opcode, r.postbyte))),
    ))

-- the numbers of turns, and one that is none of them
abbrev pub numbers_of_turns : List ℕ
numbers_of_turns = 0 ∷ 4 ∷ 5 ∷ []

abbrev pub Other : ℕ → Type 0
Other k = among k numbers_of_turns ≡ false

pub other_than : {n k : ℕ} → among n numbers_of_turns ≡ true → Other k → n ≡ k → ⊥
other_than {n} {k} one none e = true≢false (sym one ∙ ap (λ (i : ℕ). among i numbers_of_turns) e ∙ none)

-- no turn has such a number
pub none_other : (s : State) (m : List ℕ) (line k : ℕ) → Other k → number_of (turn_of s m line).reply ≡ k → ⊥
none_other s m line k other e =
    picked (ltb (allowed_line s.flags line) no_line) (other_than refl other)
    (picked s.standing.waiting (other_than refl other)
    (picked (stops_of (cell_at m s.pc)) (other_than refl other)
    (picked (reserved_at m (cell_at m s.pc) (after_opcode m s.pc)) (other_than refl other) (other_than refl other))))
    (sym (turn_number s m line) ∙ e)

-- and it has 0 exactly where neither is due
pub none_due :
    (s : State) (m : List ℕ) (line : ℕ) →
    AreBytes m →
    (number_of (turn_of s m line).reply ≡ 0) ↔ ((StopsHere s m line → ⊥) × (IsReservedHere s m line → ⊥))
none_due s m line bytes = (λ z. (λ d. other z ((four_due s m line bytes).1 d), λ d. other z ((five_due s m line bytes).1 d)), zero_left)
  where
    other : {n k : ℕ} → n ≡ 0 → n ≡ suc k → ⊥
    other z e = omega (arith, z, e)

    zero_left : (StopsHere s m line → ⊥) × (IsReservedHere s m line → ⊥) → number_of (turn_of s m line).reply ≡ 0
    zero_left none = go (ℕ_discrete (number_of (turn_of s m line).reply) 0)
      where
        go : Dec (number_of (turn_of s m line).reply ≡ 0) → number_of (turn_of s m line).reply ≡ 0
        go (yes z) = z
        go (no some) =
            let not-four = ne_eqb _ 4 (λ e. none.0 ((four_due s m line bytes).0 e)) in
            let not_five = ne_eqb _ 5 (λ e. none.1 ((five_due s m line bytes).0 e)) in
            absurd (none_other s m line _ (rw (ne_eqb _ 0 some, not-four, not_five)) refl)
