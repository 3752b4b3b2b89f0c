-- A line byte that is refused, and a schedule that has one: the tests, each way, and schedules that are made of another. On the definitions
-- alone. Assumes nothing.
use Prim.Native.Nat.{ℕ, zero, suc, ◌<◌}
use mathlib.Core.Logic.{◌↔◌}
use mathlib.Core.Path.{◌≡◌, refl, ◌∙◌, ap}
use mathlib.Core.Bool.{true, false}
use mathlib.Core.List.{List, [], ◌∷◌}
use lib.ListN.{length, get_or, take, drop}
use Rattle.std.proofs.lemmas.List.{get_or_default}
use Rattle.std.proofs.lemmas.List.Folds.{Any-from_list_any, list_any_at}
use Rattle.word.specs.Word.{bit_of}
use Rattle.schedule.specs.Schedule.{withdrawn, any_withdrawn, passed}
use Rattle.schedule.proofs.Laws.{or_left, or_right, in_force_stays}
use Rattle.refusals.specs.Given.{Given, line_in}
use Rattle.refusals.proofs.Laws.{is_free}
use Rattle.promises.specs.Replies.{BadLine, BadLineIn}
use Rattle.promises.specs.SetBack.{gone, set_back, up_to, restated, handed}
use Rattle.promises.specs.Warning.{NoBadLineInForce}
use Rattle.promises.proofs.Exactly.{either, without}

pub bad_line : (line : ℕ) → (withdrawn line ≡ true) ↔ BadLine line
bad_line line = either (bit_of 6 line) (bit_of 7 line) (λ e. e, λ e. e) (λ e. e, λ e. e)

pub good_line_lem : (line : ℕ) → (withdrawn line ≡ false) ↔ (BadLine line → ⊥)
good_line_lem line = without (withdrawn line) (bad_line line)

-- such a byte in a list
abbrev Has : List ℕ → Type 0
Has ls = (k : ℕ) × (k < length ls) × BadLine (get_or ls k 0)

found : (ls : List ℕ) → any_withdrawn ls ≡ true → Has ls
unfolding any_withdrawn
found ls e =
    let any = Any-from_list_any withdrawn ls e in
    (any.0, any.2, (bad_line _).0 (ap withdrawn (get_or_default ls any.0 0 any.1 any.2 ∙ any.3) ∙ any.4))

told : (ls : List ℕ) (k : ℕ) → k < length ls → BadLine (get_or ls k 0) → any_withdrawn ls ≡ true
unfolding any_withdrawn
told ls k inside bad = list_any_at withdrawn ls k 0 inside ((bad_line _).1 bad)

pub bad_lines : (given : Given) → (any_withdrawn given.lines ≡ true) ↔ BadLineIn given
bad_lines given = (found given.lines, λ at. told given.lines at.0 at.1 at.2)

pub good_lines_lem : (given : Given) → (any_withdrawn given.lines ≡ false) ↔ (BadLineIn given → ⊥)
good_lines_lem given = without (any_withdrawn given.lines) (bad_lines given)

-- a part of line bytes that are not refused has none that is
none_left : (n : ℕ) (ls : List ℕ) → any_withdrawn ls ≡ false → any_withdrawn (drop n ls) ≡ false
unfolding any_withdrawn
none_left zero ls none = none
none_left (suc n) [] none = none
none_left (suc n) (l ∷ ls) none = none_left n ls (or_right (withdrawn l) _ none)

none_first : (n : ℕ) (ls : List ℕ) → any_withdrawn ls ≡ false → any_withdrawn (take n ls) ≡ false
unfolding any_withdrawn
none_first zero ls none = refl
none_first (suc n) [] none = none
none_first (suc n) (l ∷ ls) none =
    rw (or_left (withdrawn l) _ none) (none_first n ls (or_right (withdrawn l) _ none))

-- so a schedule that is set back has none, and neither has what is handed to a run
pub good_lines_back : (given : Given) (amount : ℕ) → (BadLineIn given → ⊥) → BadLineIn (set_back amount given) → ⊥
good_lines_back given amount good =
    (good_lines_lem (set_back amount given)).0 (none_left (gone amount given) given.lines ((good_lines_lem given).1 good))

none_restated : (given : Given) (amount : ℕ) → any_withdrawn given.lines ≡ false → any_withdrawn (restated amount given).lines ≡ false
unfolding any_withdrawn
none_restated given amount none =
    rw (in_force_stays 0 given.cycles given.lines amount refl none) (none_left (passed given.cycles amount) given.lines none)

pub good_lines_handed : (given : Given) (amount to : ℕ) → (BadLineIn given → ⊥) → BadLineIn (handed amount to given) → ⊥
good_lines_handed given amount to good =
    (good_lines_lem (handed amount to given)).0
    (none_restated (up_to to given) amount (none_first (passed given.cycles to) given.lines ((good_lines_lem given).1 good)))

pub no_bad_line_in_force : NoBadLineInForce
no_bad_line_in_force s m given budget free clock =
    (good_line_lem (line_in given clock)).0
    (in_force_stays 0 given.cycles given.lines clock refl (is_free s m given budget free).none_withdrawn)
