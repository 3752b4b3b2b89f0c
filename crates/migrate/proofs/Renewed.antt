-- The page of a schedule is its new text. On the definitions alone. Assumes nothing.
use Prim.Native.Nat.{ℕ, zero, suc, ◌+◌, ◌-◌, ◌/◌, ◌%◌, ◌<◌, ◌≤◌}
use native.Mathlib.Omega.{arith}
use native.Mathlib.Nat.{mod-lt, mod-eq_of_lt}
use mathlib.Core.Path.{◌≡◌, refl, sym, ◌∙◌, ap, subst}
use mathlib.Core.Bool.{Bool, true, false, not, ◌&&◌}
use mathlib.Core.List.{List, [], ◌∷◌, ◌++◌, append_assoc, append-nil, map}
use lib.Dec.{ltb, eqb}
use lib.ListN.{length, length-append, length-map}
use borrow.Author.Tests.{lt-ltb, eqb-true, eq-eqb}
use Rattle.word.specs.Word.{pick, bit_of}
use Rattle.word.proofs.Table.{same, same_is, every_below, at_number}
use Rattle.schedule.specs.Schedule.{withdrawn}
use Rattle.machine.specs.Names.{record_limit}
use Rattle.text.specs.declared.Text.{Text}
use Rattle.text.specs.Text.{ascii, blank, written, last_digits, digit_of, numeral}
use Rattle.text.proofs.Laws.{all_written}
use Rattle.text.proofs.Digits.{digits_at_most}
use Rattle.table.specs.declared.Record.{Record}
use Rattle.table.specs.Records.{cycles_of, lines_of, room}
use Rattle.migrate.specs.declared.page.Page.{Page}
use Rattle.migrate.specs.Migrated.{cleared_byte, TwoBitsCleared, cleared, altered_count, kept_after, kept, record_line, printed, counts_line, renewed}
use Rattle.migrate.specs.Page.{joined, page_text, empty_page, with_text, text_of, paired, with_kept}

pub two_bits_cleared : (b : ℕ) → b < 256 → TwoBitsCleared b
two_bits_cleared b byte =
    record {
      bits =
          λ k h. same_is (bit_of k (cleared_byte b)) (ltb k 6 && bit_of k b)
          (at_number (λ (k : ℕ). same (bit_of k (cleared_byte b)) (ltb k 6 && bit_of k b)) 8
          (at_number (λ (b : ℕ). every_below (λ (k : ℕ). same (bit_of k (cleared_byte b)) (ltb k 6 && bit_of k b)) 8) 256 tt b byte) k h);
      altered =
          same_is (eqb (cleared_byte b) b) (not (withdrawn b))
          (at_number (λ (b : ℕ). same (eqb (cleared_byte b) b) (not (withdrawn b))) 256 tt b byte);
    }

-- a text of few bytes
text_is : (bs : List ℕ) → length bs ≤ 80 → written (text_of bs) ≡ bs
text_is bs short = all_written {t = blank} {r = text_of bs} {bs = bs} (record { all = refl }) refl short

joined_one : (ts : List Text) (t : Text) → joined (ts ++ (t ∷ [])) ≡ joined ts ++ written t
unfolding joined
joined_one [] t = append-nil (written t)
joined_one (u ∷ ts) t = ap (λ (l : List ℕ). written u ++ l) (joined_one ts t) ∙ sym (append_assoc (written u) (joined ts) (written t))

-- a page of which so many places are free
abbrev pub Sound : Page → ℕ → Type 0
Sound p free = length p.lines.items + free ≤ room

-- one line more on a page
pub record Longer (p : Page) (bs : List ℕ) (free : ℕ) (q : Page) : Type 0 where
  pub sound : Sound q free
  pub count : length q.lines.items ≡ length p.lines.items + 1
  pub text : page_text q ≡ page_text p ++ bs

pub one_put : (p : Page) (bs : List ℕ) (free : ℕ) → length bs ≤ 80 → Sound p (suc free) → Longer p bs free (with_text p (text_of bs))
one_put p bs free short s =
    let line = text_of bs in
    let more : length (p.lines.items ++ line ∷ []) ≡ length p.lines.items + 1 = length-append p.lines.items (line ∷ []) in
    rw (lt-ltb (length p.lines.items) room (omega (arith, s)))
    (record {
      sound = omega (arith, s, more);
      count = more;
      text = rw (joined_one p.lines.items line, text_is bs short);
    })

-- so many digits, and no more
few_digits : (most base n : ℕ) → length (last_digits most base n) ≤ most
unfolding last_digits
few_digits zero base n = omega arith
few_digits (suc most) base n = go (ltb n base) (few_digits most base (n / base))
  where
    go : (last : Bool) → length (last_digits most base (n / base)) ≤ most
        → length (pick last (digit_of n ∷ []) (last_digits most base (n / base) ++ (digit_of (n % base) ∷ []))) ≤ suc most
    go true rest = omega arith
    go false rest = simp length-append (omega arith)

record_short : (r : Record) → length (record_line r) ≤ 80
record_short r = let few = few_digits 64 10 r.cycle in simp length-append (omega arith)

counts_short : (altered removed : ℕ) → altered ≤ record_limit → removed ≤ record_limit → length (counts_line altered removed) ≤ 80
counts_short altered removed few less =
    let first : length (numeral 10 altered) ≤ 2 = digits_at_most 64 1 10 altered (omega arith) (omega arith) in
    let second : length (numeral 10 removed) ≤ 2 = digits_at_most 64 1 10 removed (omega arith) (omega arith) in
    simp length-append (omega arith)

-- a page with the lines of the records that are kept
pub record Kept (p : Page) (rs : List Record) (free : ℕ) (q : Page) : Type 0 where
  pub sound : Sound q free
  pub count : length q.lines.items ≡ length p.lines.items + length rs
  pub text : page_text q ≡ page_text p ++ printed rs

pub keeps : (p : Page) (last : ℕ) (rs : List Record) (free : ℕ) → Sound p (length rs + free)
    → Kept p (kept_after last (map cleared rs)) free (with_kept p last rs)
unfolding with_kept kept_after printed
keeps p last [] free s =
    record {
      sound = omega (arith, s);
      count = omega arith;
      text = sym (append-nil (page_text p));
    }
keeps p last (r ∷ rs) free s = go (eqb (cleared_byte r.line) last) (λ q. keeps q (cleared_byte r.line) rs free)
  where
    go :
        (same : Bool) →
        ((q : Page) → Sound q (length rs + free) → Kept q (kept_after (cleared_byte r.line) (map cleared rs)) free (with_kept q (cleared_byte r.line) rs)) →
        Kept p (pick same (kept_after (cleared_byte r.line) (map cleared rs)) (cleared r ∷ kept_after (cleared_byte r.line) (map cleared rs))) free
        (with_kept (pick same p (with_text p (text_of (record_line (cleared r))))) (cleared_byte r.line) rs)
    go true onward = onward p (omega (arith, s))
    go false onward =
        let line = one_put p (record_line (cleared r)) (length rs + free) (record_short (cleared r)) (omega (arith, s)) in
        let rest = onward (with_text p (text_of (record_line (cleared r)))) line.sound in
        record {
          sound = rest.sound;
          count = omega (arith, rest.count, line.count);
          text = rest.text ∙ rw (line.text, append_assoc);
        }

pub kept_few : (last : ℕ) (rs : List Record) → length (kept_after last rs) ≤ length rs
unfolding kept_after
kept_few last [] = omega arith
kept_few last (r ∷ rs) = go (eqb r.line last) (kept_few r.line rs)
  where
    go : (same : Bool) → length (kept_after r.line rs) ≤ length rs
        → length (pick same (kept_after r.line rs) (r ∷ kept_after r.line rs)) ≤ suc (length rs)
    go true few = omega arith
    go false few = omega arith

altered_few : (ls : List ℕ) → altered_count ls ≤ length ls
unfolding altered_count
altered_few [] = omega arith
altered_few (l ∷ ls) = go (eqb (cleared_byte l) l) (altered_few ls)
  where
    go : (same : Bool) → altered_count ls ≤ length ls → pick same (altered_count ls) (suc (altered_count ls)) ≤ suc (length ls)
    go true few = omega arith
    go false few = omega arith

-- two lists of the same length are the parts of their records, and a list of records is that of its parts
paired_length : (cs ls : List ℕ) → length cs ≡ length ls → length (paired cs ls) ≡ length cs
unfolding paired
paired_length [] ls same = refl
paired_length (c ∷ cs) [] same = absurd (omega (arith, same))
paired_length (c ∷ cs) (l ∷ ls) same = ap suc (paired_length cs ls (omega (arith, same)))

paired_lines : (cs ls : List ℕ) → length cs ≡ length ls → lines_of (paired cs ls) ≡ ls
unfolding paired
paired_lines [] [] same = refl
paired_lines [] (l ∷ ls) same = absurd (omega (arith, same))
paired_lines (c ∷ cs) [] same = absurd (omega (arith, same))
paired_lines (c ∷ cs) (l ∷ ls) same = ap (λ (m : List ℕ). l ∷ m) (paired_lines cs ls (omega (arith, same)))

pub paired_records : (rs : List Record) → paired (cycles_of rs) (lines_of rs) ≡ rs
unfolding paired
paired_records [] = refl
paired_records (r ∷ rs) = ap (λ (m : List Record). r ∷ m) (paired_records rs)

-- the page of a schedule, before its last line and with it
module _ (cs ls : List ℕ) (same : length cs ≡ length ls) (few : length cs ≤ record_limit) where
  kept_page : Kept empty_page (kept (map cleared (paired cs ls))) 1 (with_kept empty_page 0 (paired cs ls))
  kept_page =
      keeps empty_page 0 (paired cs ls) 1 (omega (arith, paired_length cs ls same, few))

  pub page_count : length (with_kept empty_page 0 (paired cs ls)).lines.items ≡ length (kept (map cleared (paired cs ls)))
  page_count = kept_page.count ∙ omega arith

  kept_within : length (kept (map cleared (paired cs ls))) ≤ length cs
  kept_within =
      omega (arith, kept_few 0 (map cleared (paired cs ls)), length-map (paired cs ls) cleared, paired_length cs ls same)

  pub page_within : (p : Page) → p ≡ with_kept empty_page 0 (paired cs ls) → length p.lines.items ≤ length cs
  page_within p is = rw (is, page_count) kept_within

  pub renewed_page : (p q : Page) (t : Text) (a : ℕ) → p ≡ with_kept empty_page 0 (paired cs ls) → a ≡ altered_count ls
      → t ≡ text_of (counts_line a (length cs - length p.lines.items)) → q ≡ with_text p t → page_text q ≡ renewed (paired cs ls)
  unfolding joined
  renewed_page p q t a is counted text put =
      let removed = length cs - length (kept (map cleared (paired cs ls))) in
      let short = counts_short (altered_count ls) removed (omega (arith, altered_few ls)) (omega arith) in
      let last = one_put (with_kept empty_page 0 (paired cs ls)) (counts_line (altered_count ls) removed) 0 short kept_page.sound in
      let fewer : length cs - length p.lines.items ≡ removed = ap (λ (n : ℕ). length cs - n) (ap (λ (x : Page). length x.lines.items) is ∙ page_count) in
      let line : t ≡ text_of (counts_line (altered_count ls) removed) = rw (text, counted, fewer) in
      rw (put, line, is) (last.text ∙ rw (kept_page.text, paired_lines cs ls same, paired_length cs ls same))

-- the page of one line
pub one_line_page : (p q : Page) (t : Text) (bs : List ℕ) → length bs ≤ 80 → p ≡ empty_page → t ≡ text_of bs → q ≡ with_text p t → page_text q ≡ bs
unfolding joined
one_line_page p q t bs short empty text put =
    rw (put, text, empty) (one_put empty_page bs 0 short (omega arith)).text

-- what is cleared stays so
clear_again : (b : ℕ) → cleared_byte (cleared_byte b) ≡ cleared_byte b
clear_again b = mod-eq_of_lt (mod-lt b (omega arith))

record Settled (last : ℕ) (rs : List Record) : Type 0 where
  same : kept_after last (map cleared rs) ≡ rs
  unaltered : altered_count (lines_of rs) ≡ 0

settled : (last : ℕ) (rs : List Record) → Settled last (kept_after last (map cleared rs))
unfolding kept_after altered_count
settled last [] = record { same = refl; unaltered = refl }
settled last (r ∷ rs) = go (eqb (cleared_byte r.line) last) refl (settled (cleared_byte r.line) rs)
  where
    go :
        (repeats : Bool) → eqb (cleared_byte r.line) last ≡ repeats → Settled (cleared_byte r.line) (kept_after (cleared_byte r.line) (map cleared rs)) →
        Settled last (pick repeats (kept_after (cleared_byte r.line) (map cleared rs)) (cleared r ∷ kept_after (cleared_byte r.line) (map cleared rs)))
    go true e rest =
        subst (λ (n : ℕ). Settled n (kept_after (cleared_byte r.line) (map cleared rs))) (eqb-true (cleared_byte r.line) last e) rest
    go false e rest =
        record {
          same = rw (clear_again r.line, e, rest.same);
          unaltered = rw (clear_again r.line, eq-eqb (cleared_byte r.line) (cleared_byte r.line) refl, rest.unaltered);
        }

stays : (rs : List Record) → Settled 0 rs → renewed rs ≡ printed rs ++ ascii "0 0\n"
unfolding last_digits
stays rs s =
    let none : length rs - length rs ≡ 0 = omega arith in
    rw (s.same, s.unaltered, none)

-- a new schedule is not renewed once more
pub renewed_once : (rs : List Record) → renewed (kept (map cleared rs)) ≡ printed (kept (map cleared rs)) ++ ascii "0 0\n"
renewed_once rs = stays (kept (map cleared rs)) (settled 0 rs)
