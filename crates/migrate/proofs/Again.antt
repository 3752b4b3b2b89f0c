-- The lines that are printed are read back as the records that they are of. On the definitions alone. Assumes nothing.
use Prim.Native.Nat.{ℕ, zero, suc, ◌+◌, ◌*◌, ◌/◌, ◌%◌, ◌^◌, ◌<◌, ◌≤◌}
use native.Mathlib.Omega.{arith}
use native.Mathlib.Decide.{dec_lt}
use native.Mathlib.Nat.{div-add-mod', div-lt_iff_lt-mul, mod-lt, pow-suc, lt_of_le_of_lt}
use mathlib.Core.Path.{◌≡◌, refl, ◌∙◌, ap}
use mathlib.Core.Bool.{Bool, true, false, ◌&&◌, and-eq-true_iff}
use mathlib.Core.List.{List, [], ◌∷◌, ◌++◌, append_assoc, map}
use lib.Dec.{leb, ltb, eqb, eqb→eq, lit<}
use lib.ListN.{length, length-map}
use borrow.Author.Tests.{lt-ltb, le-ltb, ltb-true, le-leb, leb-true, eq-eqb, ne_eqb}
use Rattle.word.specs.Word.{pick}
use Rattle.word.proofs.Table.{at_number}
use Rattle.text.specs.Text.{digit_of, hex_byte, last_digits, numeral}
use Rattle.table.specs.declared.Record.{Record}
use Rattle.table.specs.Records.{cycles_of, lines_of}
use Rattle.schedule.specs.Schedule.{rising_after, rising, accepted}
use Rattle.schedule.proofs.Laws.{accepted_few, accepted_rising, rising_rest}
use Rattle.machine.specs.Names.{record_limit}
use Rattle.migrate.specs.Format.{before, text_lines, digit_value, is_decimal, front, rest, not_empty, spelled_after, last_cycle, is_end, end_byte, good_line, good_lines, record_of}
use Rattle.migrate.specs.Migrated.{cleared_byte, cleared, kept_after, kept, record_line, printed, renewed, migrated, MigratedOnce}
use Rattle.migrate.proofs.Renewed.{kept_few, renewed_once}

-- a digit is read back
digit_back : (n : ℕ) → n < 16 → digit_value (digit_of n) ≡ n
unfolding digit_value
digit_back n h = eqb→eq (digit_value (digit_of n)) n (at_number (λ (k : ℕ). eqb (digit_value (digit_of k)) k) 16 tt n h)

-- decimal digits
abbrev Decimals : List ℕ → Type 0
Decimals [] = Unit {0}
Decimals (b ∷ bs) = (is_decimal b ≡ true) × Decimals bs

decimal : (n : ℕ) → n < 10 → is_decimal (digit_of n) ≡ true
decimal n h = rw (digit_back n (omega (arith, h))) (lt-ltb n 10 h)

one_more_lem : (ds : List ℕ) (d : ℕ) → Decimals ds → is_decimal d ≡ true → Decimals (ds ++ (d ∷ []))
one_more_lem [] d all is = (is, tt)
one_more_lem (b ∷ ds) d all is = (all.0, one_more_lem ds d all.1 is)

decimals : (most n : ℕ) → Decimals (last_digits most 10 n)
unfolding last_digits
decimals zero n = tt
decimals (suc most) n = go (dec_lt n 10) (decimals most (n / 10))
  where
    go : Dec (n < 10) → Decimals (last_digits most 10 (n / 10))
        → Decimals (pick (ltb n 10) (digit_of n ∷ []) (last_digits most 10 (n / 10) ++ (digit_of (n % 10) ∷ [])))
    go (yes h) rest = rw (lt-ltb n 10 h) (decimal n h, tt)
    go (no h) rest = rw (le-ltb n 10 (omega arith)) (one_more_lem (last_digits most 10 (n / 10)) (digit_of (n % 10)) rest (decimal (n % 10) (mod-lt n (omega arith))))

-- they spell the number
spelled_more : (n : ℕ) (ds : List ℕ) (d : ℕ) → spelled_after n (ds ++ (d ∷ [])) ≡ spelled_after n ds * 10 + digit_value d
unfolding spelled_after
spelled_more n [] d = refl
spelled_more n (b ∷ ds) d = spelled_more (n * 10 + digit_value b) ds d

spelled_back : (most n : ℕ) → n < 10 ^ most → spelled_after 0 (last_digits most 10 n) ≡ n
unfolding last_digits spelled_after
spelled_back zero n small = omega arith
spelled_back (suc most) n small =
    go (dec_lt n 10) (spelled_back most (n / 10) ((div-lt_iff_lt-mul {k = 10} {x = n} {y = 10 ^ most} (omega arith)).1 (rw (pow-suc 10 most) at small)))
  where
    go : Dec (n < 10) → spelled_after 0 (last_digits most 10 (n / 10)) ≡ n / 10
        → spelled_after 0 (pick (ltb n 10) (digit_of n ∷ []) (last_digits most 10 (n / 10) ++ (digit_of (n % 10) ∷ []))) ≡ n
    go (yes h) rest = rw (lt-ltb n 10 h) (omega (arith, digit_back n (omega arith)))
    go (no h) rest =
        let below : n % 10 < 10 = mod-lt n (omega arith) in
        rw (le-ltb n 10 (omega arith), spelled_more 0 (last_digits most 10 (n / 10)) (digit_of (n % 10)), rest, digit_back (n % 10) (omega (arith, below)))
        (div-add-mod' n 10)

-- there is one at least
any_digit : (most n : ℕ) → not_empty (last_digits (suc most) 10 n) ≡ true
unfolding last_digits
any_digit most n = go (ltb n 10) (last_digits most 10 (n / 10))
  where
    go : (last : Bool) (ds : List ℕ) → not_empty (pick last (digit_of n ∷ []) (ds ++ (digit_of (n % 10) ∷ []))) ≡ true
    go true ds = refl
    go false [] = refl
    go false (d ∷ ds) = refl

-- the digits at the front of a line, and what follows them
digits_front : (ds r : List ℕ) → Decimals ds → front (ds ++ (32 ∷ r)) ≡ ds
unfolding front digit_value
digits_front [] r all = refl
digits_front (b ∷ ds) r all = rw all.0 (ap (λ (l : List ℕ). b ∷ l) (digits_front ds r all.1))

digits_rest : (ds r : List ℕ) → Decimals ds → rest (ds ++ (32 ∷ r)) ≡ 32 ∷ r
unfolding rest digit_value
digits_rest [] r all = refl
digits_rest (b ∷ ds) r all = rw all.0 (digits_rest ds r all.1)

-- a line without its line feed
body : Record → List ℕ
body r = numeral 10 r.cycle ++ (32 ∷ hex_byte r.line)

-- a record whose numbers are those of one
record Fit (r : Record) : Type 0 where
  cycle : r.cycle ≤ last_cycle
  line : r.line < 256

module _ (r : Record) (fit : Fit r) where
  high : r.line / 16 < 16
  high = (div-lt_iff_lt-mul {k = 16} {x = r.line} {y = 16} (omega arith)).1 fit.line

  low : r.line % 16 < 16
  low = mod-lt r.line (omega arith)

  body_front : front (body r) ≡ numeral 10 r.cycle
  unfolding body
  body_front = digits_front (numeral 10 r.cycle) (hex_byte r.line) (decimals 64 r.cycle)

  body_rest : rest (body r) ≡ 32 ∷ hex_byte r.line
  unfolding body
  body_rest = digits_rest (numeral 10 r.cycle) (hex_byte r.line) (decimals 64 r.cycle)

  body_cycle : spelled_after 0 (numeral 10 r.cycle) ≡ r.cycle
  body_cycle = spelled_back 64 r.cycle (lt_of_le_of_lt fit.cycle (lit< {m = last_cycle} {n = 10 ^ 64} tt))

  body_ends : is_end (32 ∷ hex_byte r.line) ≡ true
  body_ends =
      rw (digit_back (r.line / 16) high, digit_back (r.line % 16) low, lt-ltb (r.line / 16) 16 high, lt-ltb (r.line % 16) 16 low)

  body_byte : end_byte (32 ∷ hex_byte r.line) ≡ r.line
  body_byte = rw (digit_back (r.line / 16) high, digit_back (r.line % 16) low) (div-add-mod' r.line 16)

  body_good : good_line (body r) ≡ true
  body_good = rw (body_front, body_rest, any_digit 63 r.cycle, body_ends, body_cycle) (le-leb r.cycle last_cycle fit.cycle)

  body_back : record_of (body r) ≡ r
  body_back = rw (body_front, body_rest, body_cycle, body_byte)

-- a line that has no line feed in it, up to its own
abbrev NoFeed : List ℕ → Type 0
NoFeed [] = Unit {0}
NoFeed (b ∷ bs) = (b ≡ 10 → ⊥) × NoFeed bs

first_line : (l text : List ℕ) → NoFeed l → text_lines (l ++ (10 ∷ text)) ≡ l ∷ text_lines text
unfolding text_lines before
first_line [] text none = refl
first_line (b ∷ l) text none = rw (ne_eqb b 10 none.0, first_line l text none.1)

-- a byte that is a digit is no line feed
digit_no_feed : (b : ℕ) → digit_value b < 16 → b ≡ 10 → ⊥
unfolding digit_value
digit_no_feed b h e = let wrong : digit_value 10 < 16 = rw e at h in omega (arith, wrong)

digits_no_feed : (ds r : List ℕ) → Decimals ds → NoFeed r → NoFeed (ds ++ r)
digits_no_feed [] r all none = none
digits_no_feed (b ∷ ds) r all none =
    (digit_no_feed b (omega (arith, ltb-true (digit_value b) 10 all.0)), digits_no_feed ds r all.1 none)

body_no_feed : (r : Record) → Fit r → NoFeed (body r)
unfolding body
body_no_feed r fit =
    digits_no_feed (numeral 10 r.cycle) (32 ∷ hex_byte r.line) (decimals 64 r.cycle) (
      λ e. omega (arith, e),
      (
        digit_no_feed (digit_of (r.line / 16)) (rw (digit_back (r.line / 16) (high r fit)) (high r fit)),
        (digit_no_feed (digit_of (r.line % 16)) (rw (digit_back (r.line % 16) (low r fit)) (low r fit)), tt),
      ),
    )

-- the lines of records, one after another
abbrev AllFit : List Record → Type 0
AllFit [] = Unit {0}
AllFit (r ∷ rs) = Fit r × AllFit rs

printed_lines : (rs : List Record) → AllFit rs → text_lines (printed rs) ≡ map body rs
unfolding printed text_lines body
printed_lines [] fit = refl
printed_lines (r ∷ rs) fit =
    let line : record_line r ++ printed rs ≡ body r ++ (10 ∷ printed rs) = simp append_assoc in
    rw line (first_line (body r) (printed rs) (body_no_feed r fit.0) ∙ ap (λ (ls : List (List ℕ)). body r ∷ ls) (printed_lines rs fit.1))

printed_good : (rs : List Record) → AllFit rs → good_lines (map body rs) ≡ true
unfolding good_lines
printed_good [] fit = refl
printed_good (r ∷ rs) fit = rw (body_good r fit.0, printed_good rs fit.1)

printed_back : (rs : List Record) → AllFit rs → map record_of (map body rs) ≡ rs
printed_back [] fit = refl
printed_back (r ∷ rs) fit = rw (body_back r fit.0, printed_back rs fit.1)

-- a text of printed lines is migrated as the records are
printed_migrated : (rs : List Record) → AllFit rs → accepted record_limit (cycles_of rs) (lines_of rs) ≡ true → migrated (printed rs) ≡ renewed rs
unfolding migrated
printed_migrated rs fit good = rw (printed_lines rs fit, printed_good rs fit, printed_back rs fit, good)

-- the records that stay are a schedule too: their cycle numbers rise
rises_earlier : (c d : ℕ) (cs : List ℕ) → c < d → rising_after d cs ≡ true → rising_after c cs ≡ true
unfolding rising_after
rises_earlier c d [] h up = refl
rises_earlier c d (e ∷ cs) h up =
    let parts = (and-eq-true_iff (ltb d e) (rising_after e cs)).0 up in
    (and-eq-true_iff (ltb c e) (rising_after e cs)).1 (lt-ltb c e (omega (arith, h, ltb-true d e parts.0)), parts.1)

pub kept_rises_after : (c last : ℕ) (rs : List Record) → rising_after c (cycles_of rs) ≡ true → rising_after c (cycles_of (kept_after last (map cleared rs))) ≡ true
unfolding rising_after kept_after
kept_rises_after c last [] up = refl
kept_rises_after c last (r ∷ rs) up = go (eqb (cleared_byte r.line) last) (kept_rises_after r.cycle (cleared_byte r.line) rs parts.1)
  where
    parts : (ltb c r.cycle ≡ true) × (rising_after r.cycle (cycles_of rs) ≡ true)
    parts = (and-eq-true_iff (ltb c r.cycle) (rising_after r.cycle (cycles_of rs))).0 up

    go : (repeats : Bool) → rising_after r.cycle (cycles_of (kept_after (cleared_byte r.line) (map cleared rs))) ≡ true
        → rising_after c (cycles_of (pick repeats (kept_after (cleared_byte r.line) (map cleared rs)) (cleared r ∷ kept_after (cleared_byte r.line) (map cleared rs)))) ≡ true
    go true rest = rises_earlier c r.cycle (cycles_of (kept_after (cleared_byte r.line) (map cleared rs))) (ltb-true c r.cycle parts.0) rest
    go false rest =
        (and-eq-true_iff (ltb c r.cycle) (rising_after r.cycle (cycles_of (kept_after (cleared_byte r.line) (map cleared rs))))).1 (parts.0, rest)

kept_rises : (last : ℕ) (rs : List Record) → rising (cycles_of rs) ≡ true → rising (cycles_of (kept_after last (map cleared rs))) ≡ true
unfolding rising kept_after
kept_rises last [] up = refl
kept_rises last (r ∷ rs) up = go (eqb (cleared_byte r.line) last) (kept_rises_after r.cycle (cleared_byte r.line) rs up)
  where
    go : (repeats : Bool) → rising_after r.cycle (cycles_of (kept_after (cleared_byte r.line) (map cleared rs))) ≡ true
        → rising (cycles_of (pick repeats (kept_after (cleared_byte r.line) (map cleared rs)) (cleared r ∷ kept_after (cleared_byte r.line) (map cleared rs)))) ≡ true
    go true rest = rising_rest r.cycle (cycles_of (kept_after (cleared_byte r.line) (map cleared rs))) rest
    go false rest = rest

pub kept_accepted : (rs : List Record) → accepted record_limit (cycles_of rs) (lines_of rs) ≡ true
    → accepted record_limit (cycles_of (kept (map cleared rs))) (lines_of (kept (map cleared rs))) ≡ true
kept_accepted rs good =
    let ks = kept (map cleared rs) in
    let few : length ks ≤ record_limit =
    omega (arith, kept_few 0 (map cleared rs), length-map rs cleared, accepted_few record_limit (cycles_of rs) (lines_of rs) good, length-map rs (λ (r : Record). r.cycle)) in
    let cycles : length (cycles_of ks) ≡ length ks = length-map ks (λ (r : Record). r.cycle) in
    let lines : length (lines_of ks) ≡ length ks = length-map ks (λ (r : Record). r.line) in
    rw (cycles, lines, eq-eqb (length ks) (length ks) refl, le-leb (length ks) record_limit few)
    (kept_rises 0 rs (accepted_rising record_limit (cycles_of rs) (lines_of rs) good))

-- and their numbers are those of records
kept_fit : (last : ℕ) (ls : List (List ℕ)) → good_lines ls ≡ true → AllFit (kept_after last (map cleared (map record_of ls)))
unfolding good_lines kept_after
kept_fit last [] good = tt
kept_fit last (l ∷ ls) good = go (eqb (cleared_byte (record_of l).line) last) (kept_fit (cleared_byte (record_of l).line) ls parts.1)
  where
    parts : (good_line l ≡ true) × (good_lines ls ≡ true)
    parts = (and-eq-true_iff (good_line l) (good_lines ls)).0 good

    ended : is_end (rest l) && leb (spelled_after 0 (front l)) last_cycle ≡ true
    ended = ((and-eq-true_iff (not_empty (front l)) (is_end (rest l) && leb (spelled_after 0 (front l)) last_cycle)).0 parts.0).1

    small : spelled_after 0 (front l) ≤ last_cycle
    small = leb-true _ last_cycle ((and-eq-true_iff (is_end (rest l)) (leb (spelled_after 0 (front l)) last_cycle)).0 ended).1

    below : cleared_byte (record_of l).line < 64
    below = mod-lt (record_of l).line (omega arith)

    go : (repeats : Bool) → AllFit (kept_after (cleared_byte (record_of l).line) (map cleared (map record_of ls)))
        → AllFit (pick repeats (kept_after (cleared_byte (record_of l).line) (map cleared (map record_of ls))) (cleared (record_of l) ∷ kept_after (cleared_byte (record_of l).line) (map cleared (map record_of ls))))
    go true others = others
    go false others = (record { cycle = small; line = omega (arith, below) }, others)

pub migrated_once : MigratedOnce
migrated_once text good taken =
    let rs = map record_of (text_lines text) in
    printed_migrated (kept (map cleared rs)) (kept_fit 0 (text_lines text) good) (kept_accepted rs taken) ∙ renewed_once rs
