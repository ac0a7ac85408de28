-- The ways through a line.
use mathlib.Core.Path.{◌≡◌, refl, sym, ap, ◌∙◌}
use mathlib.Core.Bool.{Bool, true, false, cond, ◌&&◌}
use mathlib.Core.List.{List, [], ◌∷◌}
use Prim.Native.Nat.{ℕ, suc, ◌+◌, ◌-◌, ◌≤◌, ◌<◌}
use native.Mathlib.Omega.{arith}
use lib.Dec.{eqb, eqb-suc-suc}
use lib.ListN.{length, get_or, take, drop, length-take}
use borrow.Author.Tests.{lt-leb, le-leb}
use Rattle.std.proofs.Common.{Option, Some, None}
use Rattle.bench_parse.specs.Lines.{every, words, number_word, numbers_of, hex_word, are_numbers, number_in, Line, carry_line, crash_line}
use Rattle.bench_parse.specs.Lines.{down_line, up_line, no_line, set_of, write_words, write_of, read_of, carry_of, one_of, set_text}
use Rattle.bench_parse.specs.Lines.{write_text, read_text, carry_text, crash_text, down_text, up_text, command_of, reads_words}
use Rattle.byte_lists.specs.Lists.{same}
use Rattle.bench_parse.specs.Lines.{longest, reads}
use Rattle.bench_parse.specs.Commands.{command_in, by_command, Follows}
use Rattle.bench_parse.specs.Workers.{after_carry, words_from, line_of, LineSound}
use Rattle.bench_parse.specs.Workers.{word_length, ReadAs, starts_number, others, NumberTaken, lone_number, HexesFrom, hex_alone}
use Rattle.bench_parse.proofs.Laws.NumeralLaws.{clash, and_true, fails, passes, shifted, from_some}
use Rattle.bench_parse.proofs.Laws.WordLaws.{from_here, from_none, split_at_end}
use Rattle.bench_parse.specs.declared.Line as code
use Rattle.bench_parse.specs.declared.Line.TheVariants.{Set, Write, Read, Carry, Crash, Down, Up}
use Rattle.bench_parse.specs.declared.Number.{Number}
use Rattle.bench_parse.specs.declared.Command.{Command}
use Rattle.bench_parse.specs.declared.Command.TheVariants as command

unread : (l : List ℕ) (said : Line) → said ≡ no_line → ReadAs None l said
unfolding line_of LineSound
unread l said e = record { meaning = sym e; sound = tt }

-- The only number left.
lone_are : (ws : List (List ℕ)) → None ≡ lone_number ws → are_numbers 1 ws ≡ false
unfolding lone_number
lone_are ws = go (are_numbers 1 ws)
  where
    go : (b : Bool) → None ≡ cond b (Some (number_in ws 0)) None → b ≡ false
    go true e = cc
    go false e = refl

lone_is : (ws : List (List ℕ)) (k : ℕ) → Some k ≡ lone_number ws → (are_numbers 1 ws ≡ true) × (k ≡ number_in ws 0)
unfolding lone_number
lone_is ws k = go (are_numbers 1 ws)
  where
    go : (b : Bool) → Some k ≡ cond b (Some (number_in ws 0)) None → (b ≡ true) × (k ≡ number_in ws 0)
    go true e = (refl, cc)
    go false e = cc

-- `crash`, `down`, `up`
pub one_not : (make : ℕ → Line) (l : List ℕ) (ws : List (List ℕ)) → None ≡ lone_number ws → ReadAs None l (one_of make ws)
unfolding one_of
one_not make l ws e = unread l (one_of make ws) (rw (lone_are ws e))

one_is : (make : ℕ → Line) (ws : List (List ℕ)) (k : ℕ) → Some k ≡ lone_number ws → make k ≡ one_of make ws
unfolding one_of
one_is make ws k e = let a = lone_is ws k e in rw a.0 (ap make a.1)

module _ (l : List ℕ) (ws : List (List ℕ)) (k : ℕ) (e : Some k ≡ lone_number ws) where
  pub crash_is : ReadAs (Some (Crash k)) l (one_of crash_line ws)
  unfolding line_of LineSound
  crash_is = record { meaning = one_is crash_line ws k e; sound = tt }

  pub down_is : ReadAs (Some (Down k)) l (one_of down_line ws)
  unfolding line_of LineSound
  down_is = record { meaning = one_is down_line ws k e; sound = tt }

  pub up_is : ReadAs (Some (Up k)) l (one_of up_line ws)
  unfolding line_of LineSound
  up_is = record { meaning = one_is up_line ws k e; sound = tt }

-- `carry`
pub carry_none : (l : List ℕ) (at : ℕ) → length l < at → ReadAs None l (carry_of (words_from l at))
unfolding carry_of
carry_none l at h = unread l (carry_of (words_from l at)) (ap carry_of (from_none l at h))

pub carry_not : (l : List ℕ) (at : ℕ) → at ≤ length l → every number_word (words_from l at) ≡ false → ReadAs None l (carry_of (words_from l at))
unfolding carry_of
carry_not l at h e = unread l (carry_of (words_from l at)) (rw (le-leb 1 (length (words_from l at)) (from_some l at h), e))

pub carry_is : (l : List ℕ) (at : ℕ) → at ≤ length l → length l ≤ longest → after_carry ≤ at → every number_word (words_from l at) ≡ true
    → ReadAs (Some (Carry at)) l (carry_of (words_from l at))
unfolding carry_of line_of LineSound
carry_is l at h s a e =
    let f = from_here l at h in
    record {
      meaning = rw (le-leb 1 (length (words_from l at)) (from_some l at h), e) (ap (λ (ws : List (List ℕ)). carry_line (numbers_of ws)) (sym f));
      sound = record { within = h; after = a; short = s; numbers = sym (ap (every number_word) f) ∙ e };
    }

-- `set`, `read` and `write`, a number at a time: p, q and o are what was read of each, k what was read of the last.
set_not : (l : List ℕ) (at : ℕ) → are_numbers 4 (words_from l at) ≡ false → ReadAs None l (set_of (words_from l at))
unfolding set_of
set_not l at e = unread l (set_of (words_from l at)) (rw e)

read_not : (l : List ℕ) (at : ℕ) → are_numbers 3 (words_from l at) ≡ false → ReadAs None l (read_of (words_from l at))
unfolding read_of
read_not l at e = unread l (read_of (words_from l at)) (rw e)

module _ (l : List ℕ) (at : ℕ) where
  pub set_1 : starts_number (words_from l at) ≡ false → ReadAs None l (set_of (words_from l at))
  set_1 r = set_not l at (fails l at r 3)

  pub read_1 : starts_number (words_from l at) ≡ false → ReadAs None l (read_of (words_from l at))
  read_1 r = read_not l at (fails l at r 2)

  module _ (p : Number) (rp : NumberTaken l at p) where
    pub set_2 : starts_number (words_from l (p.end + 1)) ≡ false → ReadAs None l (set_of (words_from l at))
    set_2 r = set_not l at (passes l at p rp 3 ∙ fails l (p.end + 1) r 2)

    pub read_2 : starts_number (words_from l (p.end + 1)) ≡ false → ReadAs None l (read_of (words_from l at))
    read_2 r = read_not l at (passes l at p rp 2 ∙ fails l (p.end + 1) r 1)

    module _ (q : Number) (rq : NumberTaken l (p.end + 1) q) where
      pub read_3 : None ≡ lone_number (words_from l (q.end + 1)) → ReadAs None l (read_of (words_from l at))
      read_3 e = read_not l at (passes l at p rp 2 ∙ passes l (p.end + 1) q rq 1 ∙ lone_are (words_from l (q.end + 1)) e)

      pub read_is : (k : ℕ) → Some k ≡ lone_number (words_from l (q.end + 1)) → ReadAs (Some (Read p.value q.value k)) l (read_of (words_from l at))
      unfolding read_of line_of LineSound
      read_is k e =
          let a = lone_is (words_from l (q.end + 1)) k e in
          let t : are_numbers 3 (words_from l at) ≡ true = passes l at p rp 2 ∙ passes l (p.end + 1) q rq 1 ∙ a.0 in
          let v1 = rp.value-is in
          let v2 = rq.value-is ∙ shifted l at p rp 0 in
          let v3 = a.1 ∙ shifted l (p.end + 1) q rq 0 ∙ shifted l at p rp 1 in
          record { meaning = rw t (cc (v1, v2, v3)); sound = tt }

      pub set_3 : starts_number (words_from l (q.end + 1)) ≡ false → ReadAs None l (set_of (words_from l at))
      set_3 r = set_not l at (passes l at p rp 3 ∙ passes l (p.end + 1) q rq 2 ∙ fails l (q.end + 1) r 1)

      module _ (o : Number) (ro : NumberTaken l (q.end + 1) o) where
        all_four : are_numbers 4 (words_from l at) ≡ are_numbers 1 (words_from l (o.end + 1))
        all_four = passes l at p rp 3 ∙ passes l (p.end + 1) q rq 2 ∙ passes l (q.end + 1) o ro 1

        pub set_4 : None ≡ lone_number (words_from l (o.end + 1)) → ReadAs None l (set_of (words_from l at))
        set_4 e = set_not l at (all_four ∙ lone_are (words_from l (o.end + 1)) e)

        pub set_is : (k : ℕ) → Some k ≡ lone_number (words_from l (o.end + 1))
            → ReadAs (Some (Set p.value q.value o.value k)) l (set_of (words_from l at))
        unfolding set_of line_of LineSound
        set_is k e =
            let a = lone_is (words_from l (o.end + 1)) k e in
            let v1 = rp.value-is in
            let v2 = rq.value-is ∙ shifted l at p rp 0 in
            let v3 = ro.value-is ∙ shifted l (p.end + 1) q rq 0 ∙ shifted l at p rp 1 in
            let v4 = a.1 ∙ shifted l (q.end + 1) o ro 0 ∙ shifted l (p.end + 1) q rq 1 ∙ shifted l at p rp 2 in
            record { meaning = rw (all_four, a.0) (cc (v1, v2, v3, v4)); sound = tt }

-- `write`: two numbers, then the hex word.
unfoldable second : List (List ℕ) → Bool
second ws = eqb (length ws) 2 && number_word (get_or ws 0 []) && hex_word (get_or ws 1 [])

middle : (a b : Bool) → a && false && b ≡ false
middle true b = refl
middle false b = refl

middle_2 : (a b c : Bool) → a && false && b && c ≡ false
middle_2 true b c = refl
middle_2 false b c = refl

write_more : (ws : List (List ℕ)) → starts_number ws ≡ true → write_words ws ≡ second (others ws)
unfolding write_words starts_number others second
write_more [] e = absurd (clash e)
write_more (w ∷ ws) e = rw (eqb-suc-suc (length ws) 2, e) (swap (eqb (length ws) 2) (number_word (get_or ws 0 [])) (hex_word (get_or ws 1 [])))
  where
    swap : (a b c : Bool) → a && true && b && c ≡ a && b && c
    swap true b c = refl
    swap false b c = refl

write_fails : (ws : List (List ℕ)) → starts_number ws ≡ false → write_words ws ≡ false
unfolding write_words starts_number
write_fails [] e = refl
write_fails (w ∷ ws) e = rw e (middle_2 (eqb (suc (length ws)) 3) (number_word (get_or ws 0 [])) (hex_word (get_or ws 1 [])))

second_more : (ws : List (List ℕ)) → starts_number ws ≡ true → second ws ≡ hex_alone (others ws)
unfolding second starts_number others hex_alone
second_more [] e = absurd (clash e)
second_more (w ∷ ws) e = rw (eqb-suc-suc (length ws) 1, e) (swap (eqb (length ws) 1) (hex_word (get_or ws 0 [])))
  where
    swap : (a b : Bool) → a && true && b ≡ a && b
    swap true b = refl
    swap false b = refl

second_fails : (ws : List (List ℕ)) → starts_number ws ≡ false → second ws ≡ false
unfolding second starts_number
second_fails [] e = refl
second_fails (w ∷ ws) e = rw e (middle (eqb (suc (length ws)) 2) (hex_word (get_or ws 0 [])))

word_later : (ws : List (List ℕ)) (i : ℕ) → get_or (others ws) i [] ≡ get_or ws (suc i) []
unfolding others
word_later [] i = refl
word_later (w ∷ ws) i = refl

write_not : (l : List ℕ) (at : ℕ) → write_words (words_from l at) ≡ false → ReadAs None l (write_of (words_from l at))
unfolding write_of
write_not l at e = unread l (write_of (words_from l at)) (rw e)

module _ (l : List ℕ) (at : ℕ) where
  pub write_1 : starts_number (words_from l at) ≡ false → ReadAs None l (write_of (words_from l at))
  write_1 r = write_not l at (write_fails (words_from l at) r)

  module _ (p : Number) (rp : NumberTaken l at p) where
    after_one : write_words (words_from l at) ≡ second (words_from l (p.end + 1))
    after_one = write_more (words_from l at) rp.starts ∙ ap second (sym rp.rest-is)

    pub write_2 : starts_number (words_from l (p.end + 1)) ≡ false → ReadAs None l (write_of (words_from l at))
    write_2 r = write_not l at (after_one ∙ second_fails (words_from l (p.end + 1)) r)

    module _ (q : Number) (rq : NumberTaken l (p.end + 1) q) (b : Bool) (h : HexesFrom l (q.end + 1) b) where
      after_two : write_words (words_from l at) ≡ b
      after_two = after_one ∙ second_more (words_from l (p.end + 1)) rq.starts ∙ ap hex_alone (sym rq.rest-is) ∙ sym h.tests

      pub write_3 : b ≡ false → ReadAs None l (write_of (words_from l at))
      write_3 g = write_not l at (after_two ∙ g)

      pub write_is : length l ≤ longest → b ≡ true → ReadAs (Some (Write p.value q.value (q.end + 1))) l (write_of (words_from l at))
      unfolding write_of line_of LineSound
      write_is s g =
          let v1 = rp.value-is in
          let v2 = rq.value-is ∙ shifted l at p rp 0 in
          let v3 : drop (q.end + 1) l ≡ get_or (words_from l at) 2 [] =
          sym (ap (λ (ws : List (List ℕ)). get_or ws 0 []) (h.only g)) ∙ ap (λ (ws : List (List ℕ)). get_or ws 0 []) rq.rest-is
          ∙ word_later (words_from l (p.end + 1)) 0
          ∙ ap (λ (ws : List (List ℕ)). get_or ws 1 []) rp.rest-is
          ∙ word_later (words_from l at) 1 in
          record {
            meaning = rw (after_two, g) (cc (v1, v2, v3));
            sound = record { within = h.within g; short = s; digits = h.digits g };
          }

-- A line by its first word.
unfoldable said_by : Option Command → List (List ℕ) → Line
said_by None ws = no_line
said_by (Some c) ws = by_command c ws

by_command_lem : (w : List ℕ) (ws : List (List ℕ)) → command_of w ws ≡ said_by (command_in w) ws
unfolding command_of command_in by_command said_by
by_command_lem w ws = go (same w set_text) (same w write_text) (same w read_text) (same w carry_text) (same w crash_text) (same w down_text) (same w up_text)
  where
    go : (a b c d e f g : Bool)
        → cond a (set_of ws) (cond b (write_of ws) (cond c (read_of ws) (cond d (carry_of ws) (cond e (one_of crash_line ws)
        (cond f (one_of down_line ws) (cond g (one_of up_line ws) no_line))))))
        ≡ said_by (cond a (Some command.Set) (cond b (Some command.Write) (cond c (Some command.Read) (cond d (Some command.Carry)
        (cond e (Some command.Crash) (cond f (Some command.Down) (cond g (Some command.Up) None))))))) ws
    go true b c d e f g = refl
    go false true c d e f g = refl
    go false false true d e f g = refl
    go false false false true e f g = refl
    go false false false false true f g = refl
    go false false false false false true g = refl
    go false false false false false false true = refl
    go false false false false false false false = refl

same_length : (a b : List ℕ) → same a b ≡ true → length a ≡ length b
unfolding same
same_length [] [] e = refl
same_length [] (y ∷ b) e = absurd (clash e)
same_length (x ∷ a) [] e = absurd (clash e)
same_length (x ∷ a) (y ∷ b) e = ap suc (same_length a b (and_true (eqb x y) (same a b) e).1)

carry_same : (w : List ℕ) → command_in w ≡ Some command.Carry → same w carry_text ≡ true
unfolding command_in
carry_same w = go (same w set_text) (same w write_text) (same w read_text) (same w carry_text) (same w crash_text) (same w down_text) (same w up_text)
  where
    go : (a b c d e f g : Bool)
        → cond a (Some command.Set) (cond b (Some command.Write) (cond c (Some command.Read) (cond d (Some command.Carry)
        (cond e (Some command.Crash) (cond f (Some command.Down) (cond g (Some command.Up) None)))))) ≡ Some command.Carry
        → d ≡ true
    go true b c d e f g n = cc
    go false true c d e f g n = cc
    go false false true d e f g n = cc
    go false false false true e f g n = refl
    go false false false false true f g n = cc
    go false false false false false true g n = cc
    go false false false false false false true n = cc
    go false false false false false false false n = cc

-- what follows `carry` begins behind its five letters and a space
pub command_place : (l : List ℕ) (e : ℕ) (k : Command) → Some k ≡ command_in (take e l) → Follows k (e + 1)
unfolding carry_text
command_place l e command.Set n = tt
command_place l e command.Write n = tt
command_place l e command.Read n = tt
command_place l e command.Carry n =
    let s = same_length (take e l) carry_text (carry_same (take e l) (sym n)) in
    let t = length-take e l in
    omega arith
command_place l e command.Crash n = tt
command_place l e command.Down n = tt
command_place l e command.Up n = tt

pub line_long : (l : List ℕ) → longest < length l → ReadAs None l (reads l)
unfolding reads
line_long l h = unread l (reads l) (rw (lt-leb (length l) longest h))

module _ (l : List ℕ) (e : ℕ) (h : length l ≤ longest) (f : e ≡ 0 + word_length (drop 0 l)) where
  by_words : (c : Option Command) → c ≡ command_in (take e l) → said_by c (words_from l (e + 1)) ≡ reads l
  unfolding reads reads_words
  by_words c n =
      let s : words l ≡ take e l ∷ words_from l (e + 1) =
      split_at_end l 0 e (omega arith) f ∙ ap (λ (k : ℕ). take k l ∷ words_from l (e + 1)) (let q : e - 0 ≡ e = omega arith in q) in
      ap (λ (k : Option Command). said_by k (words_from l (e + 1))) n
      ∙ sym (by_command_lem (take e l) (words_from l (e + 1)))
      ∙ sym (rw (le-leb (length l) longest h) (ap reads_words s))

  pub line_unread : None ≡ command_in (take e l) → ReadAs None l (reads l)
  unfolding said_by line_of LineSound
  line_unread n = unread l (reads l) (sym (by_words None n))

  pub line_read : (k : Command) (r : Option code.Line) → Some k ≡ command_in (take e l)
      → ReadAs r l (by_command k (words_from l (e + 1))) → ReadAs r l (reads l)
  unfolding said_by
  line_read k r n x = record { meaning = x.meaning ∙ by_words (Some k) n; sound = x.sound }
