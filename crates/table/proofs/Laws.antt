-- The laws of a table of records, on the definitions alone. Assumes nothing.
use Prim.Native.Nat.{ℕ, ◌+◌, ◌<◌, ◌≤◌, min}
use native.Mathlib.Omega.{arith}
use native.Mathlib.Decide.{dec_le}
use native.Mathlib.Nat.{min-eq_left, min-eq_right}
use native.Mathlib.Numerals.{add-one}
use mathlib.Core.Path.{◌≡◌, refl, sym, ◌∙◌, ap}
use mathlib.Core.Bool.{Bool, true, false}
use mathlib.Core.List.{List, [], ◌∷◌, ◌++◌, append_assoc, append-nil}
use lib.Dec.{ltb}
use lib.ListN.{length, get_or, set, take, drop, drop_of_length-le, length-set, length-take}
use lib.Seq.{drop-cons, take_all, take-suc-set, take-append-le}
use borrow.Author.Tests.{ltb-true, ltb-false}
use Rattle.word.specs.Word.{pick}
use Rattle.table.specs.declared.Record.{Record}
use Rattle.table.specs.declared.Table.{Table}
use Rattle.table.specs.Records.{record_is, cycles_of, lines_of, room, table_cycles, table_lines, no_records, placed, with_record, gathered, RoomForMore}

-- what a read past the end of a list is taken to give
abbrev pub none : Record
none = record_is 0 0

-- one turn of a loop over the records, and its end
pub one_put : (rs : List Record) (t : Table) (i : ℕ) → i < length rs
    → gathered t (drop i rs) ≡ gathered (with_record t (get_or rs i none)) (drop (i + 1) rs)
one_put rs t i h = rw (add-one i, drop-cons rs i none h)

pub all_put : (rs : List Record) (t : Table) (i : ℕ) → length rs ≤ i → gathered t (drop i rs) ≡ t
all_put rs t i h = rw (drop_of_length-le rs {i = i} h)

-- the arrays have their length, and the count is within it
pub record Sound (t : Table) : Type 0 where
  pub cycles_long : length t.cycles ≡ room
  pub lines_long : length t.lines ≡ room
  pub within : t.count ≤ room

-- a sound table holds these numbers, as far as it has room
pub record Holds (cs ls : List ℕ) (t : Table) : Type 0 where
  pub sound : Sound t
  pub cycles_are : table_cycles t ≡ take room cs
  pub lines_are_lem : table_lines t ≡ take room ls

-- an array with nothing more to come, with one number more, and with no room for it
no_more : (xs : List ℕ) (n : ℕ) → length xs ≡ room → n ≤ room → take n xs ≡ take room (take n xs ++ [])
no_more xs n h l = rw append-nil (sym (take_all room (take n xs) (simp length-take (omega arith))))

one_more_lem : (xs : List ℕ) (n v : ℕ) (vs : List ℕ) → length xs ≡ room → n < room → take (n + 1) (set xs n v) ++ vs ≡ take n xs ++ (v ∷ vs)
one_more_lem xs n v vs h l = rw (add-one n, take-suc-set xs n v (omega arith), append_assoc)

no_room : (xs : List ℕ) (n v : ℕ) (vs : List ℕ) → length xs ≡ room → n ≡ room
    → take room (take n xs ++ vs) ≡ take room (take n xs ++ (v ∷ vs))
no_room xs n v vs h e =
    let l : room ≤ length (take n xs) = simp length-take (omega arith) in
    take-append-le room (take n xs) vs l ∙ sym (take-append-le room (take n xs) (v ∷ vs) l)

placed_sound : (t : Table) (r : Record) → Sound t → t.count < room → Sound (placed t r)
placed_sound t r s l = record {
  cycles_long = length-set t.cycles t.count r.cycle ∙ s.cycles_long;
  lines_long = length-set t.lines t.count r.line ∙ s.lines_long;
  within = omega arith;
}

-- a table holds what it held before, and then the records
gathers : (t : Table) (rs : List Record) → Sound t → Holds (table_cycles t ++ cycles_of rs) (table_lines t ++ lines_of rs) (gathered t rs)
gathers t [] s = record {
  sound = s;
  cycles_are = no_more t.cycles t.count s.cycles_long s.within;
  lines_are_lem = no_more t.lines t.count s.lines_long s.within;
}
gathers t (r ∷ rs) s = go (λ t' s'. gathers t' rs s') (ltb t.count room) refl
  where
    go : ((t' : Table) → Sound t' → Holds (table_cycles t' ++ cycles_of rs) (table_lines t' ++ lines_of rs) (gathered t' rs))
        → (b : Bool) → ltb t.count room ≡ b
        → Holds (table_cycles t ++ cycles_of (r ∷ rs)) (table_lines t ++ lines_of (r ∷ rs)) (gathered (pick b (placed t r) t) rs)
    go onward true e =
        let l : t.count < room = ltb-true t.count room e in
        let rest = onward (placed t r) (placed_sound t r s l) in
        record {
          sound = rest.sound;
          cycles_are = rest.cycles_are ∙ ap (take room) (one_more_lem t.cycles t.count r.cycle (cycles_of rs) s.cycles_long l);
          lines_are_lem = rest.lines_are_lem ∙ ap (take room) (one_more_lem t.lines t.count r.line (lines_of rs) s.lines_long l);
        }
    go onward false e =
        let full : t.count ≡ room = omega (arith, ltb-false t.count room e, s.within) in
        let rest = onward t s in
        record {
          sound = rest.sound;
          cycles_are = rest.cycles_are ∙ no_room t.cycles t.count r.cycle (cycles_of rs) s.cycles_long full;
          lines_are_lem = rest.lines_are_lem ∙ no_room t.lines t.count r.line (lines_of rs) s.lines_long full;
        }

-- a table that was empty holds the first records of the list
pub holds_first : (rs : List Record) → Holds (cycles_of rs) (lines_of rs) (gathered no_records rs)
unfolding no_records
holds_first rs =
    let h = gathers no_records rs (record { cycles_long = refl; lines_long = refl; within = omega arith }) in
    record { sound = h.sound; cycles_are = h.cycles_are; lines_are_lem = h.lines_are_lem }

-- an array of a table has no more than its room: a count past it takes the same
pub all_held : (n : ℕ) (xs : List ℕ) → length xs ≡ room → take (min n room) xs ≡ take n xs
all_held n xs long = go (dec_le n room)
  where
    go : Dec (n ≤ room) → take (min n room) xs ≡ take n xs
    go (yes within) = rw (min-eq_left within)
    go (no past) = let l : room ≤ n = omega arith in rw (min-eq_right l, take_all room xs (omega arith), take_all n xs (omega arith))

pub room_for_more : RoomForMore
room_for_more = omega arith
