-- Buffers filled row by row, and the ways through a routine at the boundary.
use mathlib.Core.Path.{◌≡◌, refl, sym, ap, ap₂, subst, ◌∙◌}
use mathlib.Core.Bool.{true}
use mathlib.Core.List.{List, [], ◌∷◌, ◌++◌, append_assoc, append-nil}
use Prim.Native.Nat.{ℕ, ◌+◌, ◌-◌}
use native.Mathlib.Omega.{arith}
use lib.Dec.{eqb}
use lib.ListN.{length, get_or, set, take, drop, length-append, length-drop}
use lib.Seq.{take-append-add, drop-append-add, take_at, drop-set-add}
use borrow.Author.Tests.{eq-eqb, ne_eqb, eqb-true}
use borrow.Rule.Slice.PartMut.{put_mid, Post-is}
use Rattle.byte_lists.proofs.Laws.PutLaws.{stores}
use Rattle.test_coordinator.specs.CoordinatorBoundary.{record_numbers_length, record_bytes_length, answer_numbers_length, answer_bytes_length}
use Rattle.test_coordinator.specs.CoordinatorBoundary.{coordinator_at, last_at, record_time_at, round_at, max_at}
use Rattle.test_coordinator.specs.CoordinatorBoundary.{first_at, record_n_at, record_m_at, record_size_at, record_stripes_at, record_stripe_at, record_found_at}
use Rattle.test_coordinator.specs.CoordinatorBoundary.{kind_at, phase_at, counted_at, granted_at, record_held_at, bricks_at, said_at}
use Rattle.test_coordinator.specs.CoordinatorBoundary.{targets_at, seen_bricks_at, second_targets_at, second_kind_at, seen_letter_at, rows_refusal}
use Rattle.test_coordinator.specs.CoordinatorBoundary.{record_for, record_numbers, record_bytes, answer_numbers, answer_bytes}
use Rattle.test_coordinator.specs.CoordinatorBoundary.{Lengths, Rows, rows, lent_lengths, laid_out, at_boundary, crossing, row_put, row_at}
use Rattle.coord_apply.specs.Answers.{Returned, returned}
use Rattle.settings.specs.Ranges.{max_bricks}
use Rattle.settings.specs.Refusal.{passed}
use Rattle.coord_apply.specs.Answers.{Answer}
use Rattle.coord_record.specs.declared.Coordinator.{Coordinator}
use Rattle.byte_lists.proofs.Laws.BoolLaws.{and_left, and_right}

-- a row replaced, as the code replaces it
pub row_put_is : {A : Type 0} (at end : ℕ) (row out ys : List A) → end ≡ at + max_bricks → ys ≡ row → put_mid at (end - at) out ys ≡ row_put at row out
unfolding row_put
row_put_is at end row out ys e f =
    ap (λ (l : List _). take at out ++ (ys ++ l)) (Post-is at end out (omega arith))
    ∙ ap (λ (l : List _). take at out ++ (l ++ drop end out)) f
    ∙ ap (λ (k : ℕ). take at out ++ (row ++ drop k out)) e

-- a row replaced behind a front
pub under : (p l row : List ℕ) (at k : ℕ) → length p + k ≡ at → row_put at row (p ++ l) ≡ p ++ row_put k row l
unfolding row_put
under p l row at k e =
    ap (λ (j : ℕ). take j (p ++ l) ++ (row ++ drop (j + max_bricks) (p ++ l))) (sym e)
    ∙ ap (λ (z : List ℕ). z ++ (row ++ drop (length p + k + max_bricks) (p ++ l))) (take-append-add p l k)
    ∙ ap (λ (j : ℕ). (p ++ take k l) ++ (row ++ drop j (p ++ l))) (let s : length p + k + max_bricks ≡ length p + (k + max_bricks) = omega arith in s)
    ∙ ap (λ (z : List ℕ). (p ++ take k l) ++ (row ++ z)) (drop-append-add p l (k + max_bricks))
    ∙ append_assoc p (take k l) (row ++ drop (k + max_bricks) l)

-- the same where the list is given by an equation
pub put_behind : (p l row o : List ℕ) (at : ℕ) → length p ≡ at → o ≡ p ++ l → row_put at row o ≡ p ++ (row ++ drop max_bricks l)
unfolding row_put
put_behind p l row o at e f = ap (row_put at row) f ∙ under p l row at 0 (omega arith)

-- nothing is left behind the last row
pub none_left : (l : List ℕ) → length l ≡ 0 → l ≡ []
none_left [] e = refl
none_left (x ∷ l) e = absurd (omega arith)

pub last_row : (row l : List ℕ) → length l ≡ max_bricks → row ++ drop max_bricks l ≡ row
last_row row l e = ap (λ (z : List ℕ). row ++ z) (none_left (drop max_bricks l) (length-drop max_bricks l ∙ (omega arith))) ∙ append-nil row

-- the numbers of a record
pub numbers_are : (out : List ℕ) (a b c d e f g h i j m : ℕ) (row o : List ℕ) → length out ≡ record_numbers_length
    → o ≡ row_put record_found_at row (set (set (set (set (set (set (set (set (set (set (set out 0 a) 1 b) 2 c) 3 d) 4 e) 5 f) 6 g) 7 h) 8 i) 9 j) 10 m)
    → o ≡ a ∷ b ∷ c ∷ d ∷ e ∷ f ∷ g ∷ h ∷ i ∷ j ∷ m ∷ row
numbers_are [] a b c d e f g h i j m row o k p = absurd (omega arith)
numbers_are (x0 ∷ []) a b c d e f g h i j m row o k p = absurd (omega arith)
numbers_are (x0 ∷ x1 ∷ []) a b c d e f g h i j m row o k p = absurd (omega arith)
numbers_are (x0 ∷ x1 ∷ x2 ∷ []) a b c d e f g h i j m row o k p = absurd (omega arith)
numbers_are (x0 ∷ x1 ∷ x2 ∷ x3 ∷ []) a b c d e f g h i j m row o k p = absurd (omega arith)
numbers_are (x0 ∷ x1 ∷ x2 ∷ x3 ∷ x4 ∷ []) a b c d e f g h i j m row o k p = absurd (omega arith)
numbers_are (x0 ∷ x1 ∷ x2 ∷ x3 ∷ x4 ∷ x5 ∷ []) a b c d e f g h i j m row o k p = absurd (omega arith)
numbers_are (x0 ∷ x1 ∷ x2 ∷ x3 ∷ x4 ∷ x5 ∷ x6 ∷ []) a b c d e f g h i j m row o k p = absurd (omega arith)
numbers_are (x0 ∷ x1 ∷ x2 ∷ x3 ∷ x4 ∷ x5 ∷ x6 ∷ x7 ∷ []) a b c d e f g h i j m row o k p = absurd (omega arith)
numbers_are (x0 ∷ x1 ∷ x2 ∷ x3 ∷ x4 ∷ x5 ∷ x6 ∷ x7 ∷ x8 ∷ []) a b c d e f g h i j m row o k p = absurd (omega arith)
numbers_are (x0 ∷ x1 ∷ x2 ∷ x3 ∷ x4 ∷ x5 ∷ x6 ∷ x7 ∷ x8 ∷ x9 ∷ []) a b c d e f g h i j m row o k p = absurd (omega arith)
numbers_are (x0 ∷ x1 ∷ x2 ∷ x3 ∷ x4 ∷ x5 ∷ x6 ∷ x7 ∷ x8 ∷ x9 ∷ x10 ∷ l) a b c d e f g h i j m row o k p =
    p ∙ put_behind (a ∷ b ∷ c ∷ d ∷ e ∷ f ∷ g ∷ h ∷ i ∷ j ∷ m ∷ []) l row (a ∷ b ∷ c ∷ d ∷ e ∷ f ∷ g ∷ h ∷ i ∷ j ∷ m ∷ l) record_found_at refl refl
    ∙ ap (λ (z : List ℕ). a ∷ b ∷ c ∷ d ∷ e ∷ f ∷ g ∷ h ∷ i ∷ j ∷ m ∷ z) (last_row row l (let s : length l ≡ max_bricks = omega arith in s))

-- two stores behind what is dropped
drop_two : (k i j : ℕ) (l : List ℕ) (w v : ℕ) → drop k (set (set l (k + i) w) (k + j) v) ≡ set (set (drop k l) i w) j v
drop_two k i j l w v = drop-set-add k (set l (k + i) w) j v ∙ ap (λ (r : List ℕ). set r j v) (drop-set-add k l i w)

-- the bytes of an answer: three bytes, three rows and two bytes
pub shown_are : (out : List ℕ) (x y z w v : ℕ) (a b c o1 o2 o3 : List ℕ) → length out ≡ answer_bytes_length → length a ≡ max_bricks → length b ≡ max_bricks
    → o1 ≡ row_put targets_at a (set (set (set (set (set out 0 x) 1 y) 2 z) second_kind_at w) seen_letter_at v) → o2 ≡ row_put seen_bricks_at b o1 → o3 ≡ row_put second_targets_at c o2
    → o3 ≡ x ∷ y ∷ z ∷ (a ++ (b ++ (c ++ w ∷ v ∷ [])))
shown_are [] x y z w v a b c o1 o2 o3 h la lb p1 p2 p3 = absurd (omega arith)
shown_are (x0 ∷ []) x y z w v a b c o1 o2 o3 h la lb p1 p2 p3 = absurd (omega arith)
shown_are (x0 ∷ x1 ∷ []) x y z w v a b c o1 o2 o3 h la lb p1 p2 p3 = absurd (omega arith)
shown_are (x0 ∷ x1 ∷ x2 ∷ l) x y z w v a b c o1 o2 o3 h la lb p1 p2 p3 =
    third ∙ ap (λ (r : List ℕ). x ∷ y ∷ z ∷ r) (append_assoc a b (c ++ drop max_bricks l2))
    ∙ ap (λ (r : List ℕ). x ∷ y ∷ z ∷ (a ++ (b ++ (c ++ r)))) left
  where
    l0 : List ℕ
    l0 = set (set l 48 w) 49 v

    l1 : List ℕ
    l1 = drop max_bricks l0

    l2 : List ℕ
    l2 = drop max_bricks l1

    first : o1 ≡ x ∷ y ∷ z ∷ (a ++ l1)
    first = p1 ∙ put_behind (x ∷ y ∷ z ∷ []) l0 a (x ∷ y ∷ z ∷ l0) 3 refl refl

    second : o2 ≡ x ∷ y ∷ z ∷ (a ++ (b ++ l2))
    second = p2 ∙ put_behind (x ∷ y ∷ z ∷ a) l1 b o1 19 (omega arith) first

    third : o3 ≡ (x ∷ y ∷ z ∷ (a ++ b)) ++ (c ++ drop max_bricks l2)
    third =
        p3 ∙ put_behind (x ∷ y ∷ z ∷ (a ++ b)) l2 c o2 35 (omega (arith, length-append a b))
        (second ∙ ap (λ (r : List ℕ). x ∷ y ∷ z ∷ r) (sym (append_assoc a b l2)))

    left : drop max_bricks l2 ≡ w ∷ v ∷ []
    left =
        ap (λ (r : List ℕ). drop max_bricks (drop max_bricks r)) (drop_two max_bricks 32 33 l w v)
        ∙ ap (drop max_bricks) (drop_two max_bricks max_bricks 17 (drop max_bricks l) w v)
        ∙ drop_two max_bricks 0 1 (drop max_bricks (drop max_bricks l)) w v
        ∙ stores (w ∷ v ∷ []) (drop max_bricks (drop max_bricks (drop max_bricks l)))
        (omega (arith, length-drop max_bricks l, length-drop max_bricks (drop max_bricks l), length-drop max_bricks (drop max_bricks (drop max_bricks l))))

-- the bytes of a record: two bytes and five rows
pub bytes_are : (out : List ℕ) (x y : ℕ) (a b c d e o1 o2 o3 o4 o5 : List ℕ) → length out ≡ record_bytes_length
    → length a ≡ max_bricks → length b ≡ max_bricks → length c ≡ max_bricks → length d ≡ max_bricks
    → o1 ≡ row_put counted_at a (set (set out 0 x) 1 y) → o2 ≡ row_put granted_at b o1 → o3 ≡ row_put record_held_at c o2 → o4 ≡ row_put bricks_at d o3 → o5 ≡ row_put said_at e o4
    → o5 ≡ x ∷ y ∷ (a ++ (b ++ (c ++ (d ++ e))))
bytes_are [] x y a b c d e o1 o2 o3 o4 o5 h la lb lc ld p1 p2 p3 p4 p5 = absurd (omega arith)
bytes_are (x0 ∷ []) x y a b c d e o1 o2 o3 o4 o5 h la lb lc ld p1 p2 p3 p4 p5 = absurd (omega arith)
bytes_are (x0 ∷ x1 ∷ l) x y a b c d e o1 o2 o3 o4 o5 h la lb lc ld p1 p2 p3 p4 p5 =
    fifth ∙ append_assoc (front ++ c) d (e ++ drop max_bricks l4) ∙ append_assoc front c (d ++ (e ++ drop max_bricks l4))
    ∙ ap (λ (r : List ℕ). x ∷ y ∷ r) (append_assoc a b (c ++ (d ++ (e ++ drop max_bricks l4))))
    ∙ ap (λ (r : List ℕ). x ∷ y ∷ (a ++ (b ++ (c ++ (d ++ r))))) (last_row e l4 left)
  where
    l1 : List ℕ
    l1 = drop max_bricks l

    l2 : List ℕ
    l2 = drop max_bricks l1

    l3 : List ℕ
    l3 = drop max_bricks l2

    l4 : List ℕ
    l4 = drop max_bricks l3

    left : length l4 ≡ max_bricks
    left = omega (arith, length-drop max_bricks l, length-drop max_bricks l1, length-drop max_bricks l2, length-drop max_bricks l3)

    front : List ℕ
    front = x ∷ y ∷ (a ++ b)

    long-2 : length front ≡ 34
    long-2 = omega (arith, length-append a b)

    long-3 : length (front ++ c) ≡ 50
    long-3 = omega (arith, length-append front c, long-2)

    long-4 : length ((front ++ c) ++ d) ≡ 66
    long-4 = omega (arith, length-append (front ++ c) d, long-3)

    first : o1 ≡ x ∷ y ∷ (a ++ l1)
    first = p1 ∙ put_behind (x ∷ y ∷ []) l a (x ∷ y ∷ l) 2 refl refl

    second : o2 ≡ x ∷ y ∷ (a ++ (b ++ l2))
    second = p2 ∙ put_behind (x ∷ y ∷ a) l1 b o1 18 (omega arith) first

    third : o3 ≡ front ++ (c ++ l3)
    third = p3 ∙ put_behind front l2 c o2 34 long-2 (second ∙ ap (λ (r : List ℕ). x ∷ y ∷ r) (sym (append_assoc a b l2)))

    fourth : o4 ≡ (front ++ c) ++ (d ++ l4)
    fourth = p4 ∙ put_behind (front ++ c) l3 d o3 50 long-3 (third ∙ sym (append_assoc front c l3))

    fifth : o5 ≡ ((front ++ c) ++ d) ++ (e ++ drop max_bricks l4)
    fifth = p5 ∙ put_behind ((front ++ c) ++ d) l4 e o4 66 long-4 (fourth ∙ sym (append_assoc (front ++ c) d l4))

-- the numbers of an answer
pub answer_stored : (l : List ℕ) (a b c d e f g i j k m n o p q r : ℕ) → length l ≡ answer_numbers_length
    → set (set (set (set (set (set (set (set (set (set (set (set (set (set (set (set l 0 a) 1 b) 2 c) 3 d) 4 e) 5 f) 6 g) 7 i) 8 j) 9 k) 10 m) 11 n) 12 o) 13 p) 14 q) 15 r
    ≡ a ∷ b ∷ c ∷ d ∷ e ∷ f ∷ g ∷ i ∷ j ∷ k ∷ m ∷ n ∷ o ∷ p ∷ q ∷ r ∷ []
answer_stored l a b c d e f g i j k m n o p q r h = stores (a ∷ b ∷ c ∷ d ∷ e ∷ f ∷ g ∷ i ∷ j ∷ k ∷ m ∷ n ∷ o ∷ p ∷ q ∷ r ∷ []) l h

-- an answer laid out, or refused
pub laid_refused : (l : Rows) (a : Answer) → (a.refusal ≡ 0 → ⊥) → l ≡ laid_out l a
unfolding laid_out
laid_refused l a h = rw (ne_eqb a.refusal 0 h) refl

pub laid_given : (l : Rows) (a : Answer) (numbers bytes sent shown : List ℕ) → a.refusal ≡ 0 → numbers ≡ record_numbers a.next
    → bytes ≡ record_bytes a.next → sent ≡ answer_numbers a → shown ≡ answer_bytes a → rows numbers bytes sent shown ≡ laid_out l a
unfolding laid_out
laid_given l a numbers bytes sent shown h en eb es eo = rw (eq-eqb a.refusal 0 h) cc

-- the record that is read
pub record_is : (numbers bytes found counted granted held bricks said : List ℕ) → found ≡ row_at record_found_at numbers → counted ≡ row_at counted_at bytes → granted ≡ row_at granted_at bytes
    → held ≡ row_at record_held_at bytes → bricks ≡ row_at bricks_at bytes → said ≡ row_at said_at bytes
    → ◌≡◌ {A = Coordinator}
    (record {
      geometry =
          record {
            n = get_or numbers record_n_at 0;
            m = get_or numbers record_m_at 0;
            size = get_or numbers record_size_at 0;
            stripes = get_or numbers record_stripes_at 0;
          };
      clock = record { coordinator = get_or numbers coordinator_at 0; last = get_or numbers last_at 0 };
      op =
          record {
            kind = get_or bytes kind_at 0;
            phase = get_or bytes phase_at 0;
            stripe = get_or numbers record_stripe_at 0;
            time = get_or numbers record_time_at 0;
            round = get_or numbers round_at 0;
            max = get_or numbers max_at 0;
            first = get_or numbers first_at 0;
          };
      tally = record { counted = counted; granted = granted; held = held; found = found; said = said };
      bricks = bricks;
    })
    (record_for numbers bytes)
unfolding record_for
record_is numbers bytes found counted granted held bricks said ef ec eg eh eb es = rw (ef, ec, eg, eh, eb, es) refl

-- what the test says of the four lengths
pub lengths_right_lem : (a b c d : ℕ) → lent_lengths a b c d ≡ true → Lengths a b c d
unfolding lent_lengths
lengths_right_lem a b c d e =
    let e2 = and_right (eqb a record_numbers_length) _ e in
    let e3 = and_right (eqb b record_bytes_length) _ e2 in
    record {
      numbers-long = eqb-true a record_numbers_length (and_left (eqb a record_numbers_length) _ e);
      bytes-long = eqb-true b record_bytes_length (and_left (eqb b record_bytes_length) _ e2);
      sent-long = eqb-true c answer_numbers_length (and_left (eqb c answer_numbers_length) _ e3);
      shown-long = eqb-true d answer_bytes_length (and_right (eqb c answer_numbers_length) _ e3);
    }

-- a call that the boundary refuses, or lets through
pub crossed_refused : (n m size stripes k : ℕ) (l : Rows) (blocks stripe coded : List ℕ) (r : Returned) → k ≡ rows_refusal n m size stripes l → (k ≡ passed → ⊥)
    → at_boundary k l blocks stripe coded ≡ crossing (rows_refusal n m size stripes l) l blocks stripe coded r
unfolding crossing
crossed_refused n m size stripes k l blocks stripe coded r e h = rw (← e, ne_eqb k passed h) refl

pub crossed : (n m size stripes k : ℕ) (l l' : Rows) (number : ℕ) (a : Answer) (blocks stripe coded blocks' stripe' coded' : List ℕ) (r : Returned)
    → k ≡ rows_refusal n m size stripes l → k ≡ passed → returned a blocks' stripe' coded' ≡ r → number ≡ a.refusal → l' ≡ laid_out l a
    → at_boundary number l' blocks' stripe' coded' ≡ crossing (rows_refusal n m size stripes l) l blocks stripe coded r
unfolding crossing
crossed n m size stripes k l l' number a blocks stripe coded blocks' stripe' coded' r e h er en el =
    subst (λ (x : Returned). at_boundary number l' blocks' stripe' coded' ≡ crossing (rows_refusal n m size stripes l) l blocks stripe coded x) er
    (rw (← e, eq-eqb k passed h) (ap₂ (λ (x : ℕ) (y : Rows). at_boundary x y blocks' stripe' coded') en el))

-- rows out of a list of rows
pub row_here : (a rest : List ℕ) → length a ≡ max_bricks → take max_bricks (a ++ rest) ≡ a
row_here a rest e = take_at a rest max_bricks e

pub row_later : (k : ℕ) (a rest : List ℕ) → length a ≡ max_bricks → take max_bricks (drop (max_bricks + k) (a ++ rest)) ≡ take max_bricks (drop k rest)
row_later k a rest e =
    ap (λ (j : ℕ). take max_bricks (drop (j + k) (a ++ rest))) (sym e) ∙ ap (take max_bricks) (drop-append-add a rest k)

pub row_only : (a : List ℕ) → length a ≡ max_bricks → take max_bricks a ≡ a
row_only a e = ap (take max_bricks) (sym (append-nil a)) ∙ row_here a [] e

-- what is written is read back: the numbers and bytes of a record have its every field
pub read_back : (c : Coordinator) → length c.tally.counted ≡ max_bricks → length c.tally.granted ≡ max_bricks → length c.tally.held ≡ max_bricks
    → length c.tally.found ≡ max_bricks → length c.bricks ≡ max_bricks → length c.tally.said ≡ max_bricks → record_for (record_numbers c) (record_bytes c) ≡ c
unfolding record_numbers record_bytes row_at
read_back c la lb lc lf ld ls =
    let t = c.tally in
    let r3 = c.bricks ++ t.said in
    let r2 = t.held ++ r3 in
    let r1 = t.granted ++ r2 in
    let e1 = row_here t.counted r1 la in
    let e2 = row_later 0 t.counted r1 la ∙ row_here t.granted r2 lb in
    let e3 = row_later max_bricks t.counted r1 la ∙ row_later 0 t.granted r2 lb ∙ row_here t.held r3 lc in
    let e4 = row_later 32 t.counted r1 la ∙ row_later max_bricks t.granted r2 lb ∙ row_later 0 t.held r3 lc ∙ row_here c.bricks t.said ld in
    let e5 = row_only t.found lf in
    let e6 = row_later 48 t.counted r1 la ∙ row_later 32 t.granted r2 lb ∙ row_later max_bricks t.held r3 lc ∙ row_later 0 c.bricks t.said ld ∙ row_only t.said ls in
    sym (record_is (record_numbers c) (record_bytes c) t.found t.counted t.granted t.held c.bricks t.said (sym e5) (sym e1) (sym e2) (sym e3) (sym e4) (sym e6))
