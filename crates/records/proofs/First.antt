-- The first records of a list are enough: where there are more, a run refuses both alike. Assumes nothing.
use Prim.Native.Nat.{ℕ, ◌<◌, ◌≤◌}
use native.Mathlib.Omega.{arith}
use native.Mathlib.Decide.{dec_le}
use mathlib.Core.Path.{◌≡◌, refl, sym, ◌∙◌}
use mathlib.Core.Bool.{Bool, true, false, not, ◌&&◌}
use mathlib.Core.List.{List}
use lib.Dec.{eqb}
use lib.ListN.{length, take, length-take, length-map}
use lib.Seq.{take_all}
use borrow.Author.Tests.{lt-leb}
use Rattle.word.specs.Word.{pick}
use Rattle.state.specs.declared.State.{State}
use Rattle.schedule.specs.Schedule.{rising, accepted}
use Rattle.machine.specs.Names.{memory_size, record_limit}
use Rattle.refusals.specs.Given.{given_is}
use Rattle.steps.specs.End.{End, ends_here}
use Rattle.steps.specs.Steps.{goes_on}
use Rattle.run.specs.Run.{run_of}
use Rattle.table.specs.declared.Record.{Record}
use Rattle.table.specs.Records.{cycles_of, lines_of, room, table_cycles, table_lines, no_records, gathered}
use Rattle.table.proofs.Laws.{holds_first}

-- a schedule of too many records is not accepted
not_accepted : (cs ls : List ℕ) → record_limit < length cs → accepted record_limit cs ls ≡ false
not_accepted cs ls h = rw (lt-leb (length cs) record_limit h) (neither (eqb (length cs) (length ls)) (rising cs))
  where
    neither : (a b : Bool) → (a && false) && b ≡ false
    neither true b = refl
    neither false b = refl

-- whatever its records are, the run ends where it begins
refused : (s : State) (m cs ls : List ℕ) (budget : ℕ) → record_limit < length cs
    → run_of s m (given_is cs ls) budget ≡ ends_here (pick (not (eqb (length m) memory_size)) 1 2) s m
unfolding run_of
refused s m cs ls budget h = rw (not_accepted cs ls h) (go (eqb (length m) memory_size) (goes_on _ (given_is cs ls) s m budget))
  where
    go : (whole : Bool) (e : End)
        → pick (eqb (pick (not whole) 1 2) 0) e (ends_here (pick (not whole) 1 2) s m) ≡ ends_here (pick (not whole) 1 2) s m
    go true e = refl
    go false e = refl

-- the numbers that a table has room for stand for all
enough : (s : State) (m cs ls : List ℕ) (budget : ℕ) → length cs ≡ length ls
    → run_of s m (given_is (take room cs) (take room ls)) budget ≡ run_of s m (given_is cs ls) budget
enough s m cs ls budget same = go (dec_le (length cs) room)
  where
    go : Dec (length cs ≤ room) → run_of s m (given_is (take room cs) (take room ls)) budget ≡ run_of s m (given_is cs ls) budget
    go (yes fits) = rw (take_all room cs fits, take_all room ls (omega (arith, fits, same)))
    go (no more) =
        refused s m (take room cs) (take room ls) budget (simp length-take (omega (arith, more)))
        ∙ sym (refused s m cs ls budget (omega (arith, more)))

-- the run over the table of the records is the run over the records
pub same_run : (s : State) (m : List ℕ) (rs : List Record) (budget : ℕ)
    → run_of s m (given_is (table_cycles (gathered no_records rs)) (table_lines (gathered no_records rs))) budget
    ≡ run_of s m (given_is (cycles_of rs) (lines_of rs)) budget
same_run s m rs budget =
    let held = holds_first rs in
    let same : length (cycles_of rs) ≡ length (lines_of rs) =
    length-map rs (λ (z : Record). z.cycle) ∙ sym (length-map rs (λ (z : Record). z.line)) in
    rw (held.cycles_are, held.lines_are_lem) (enough s m (cycles_of rs) (lines_of rs) budget same)
