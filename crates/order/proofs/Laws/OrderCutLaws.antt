-- Laws of `specs/OrderUse`: the one order cut at one finished operation, and at two.
use mathlib.Core.Path.{◌≡◌, refl, sym, ap, ap₂, subst, ◌∙◌}
use mathlib.Core.Logic.{◌≢◌, ◌⊎◌, inl, inr}
use mathlib.Core.List.Memᴰ
use mathlib.Core.List.{List, [], ◌∷◌, ◌++◌, append_assoc}
use Prim.Native.Nat.{ℕ}
use native.Mathlib.Decide.{ℕ_discrete}
use Rattle.order.specs.Claim.{Plain, Blocks, Action, write, Result, changed, given, stripe, finished, Seen, Operation, ◌∈◌}
use Rattle.order.specs.Claim.{Before, here, later, Once, Right, OneOrder, fed}
use Rattle.order.specs.OrderUse.{EndedBefore, Within, OperationGave, InOrder, CutAt, CutAtTwo, AfterOneList, IsWrite}
use Rattle.order.proofs.Laws.ClaimLaws.{right_at}
use Rattle.order.proofs.Laws.OrderUseLaws.{Placed, same, first, second, placed, before_left, before_right, one_way, other_time_lem, ahead_of, one_kind}
use Rattle.order.proofs.Laws.StripeUseLaws.{leaves_or_is_write}

-- a list cut at one of its members, and at two
split_in : {A : Type 0} {a : A} (l : List A) → a ∈ l → (p : List A) × (q : List A) × (l ≡ p ++ (a ∷ q))
split_in l (Memᴰ.head {xs} e) = ([], xs, ap (◌∷ xs) (sym e))
split_in l (Memᴰ.tail {x} {xs} m) = let w = split_in xs m in (x ∷ w.0, w.1, ap (x ∷◌) w.2)

split_two : {A : Type 0} {a b : A} (l : List A) → Before a b l
    → (p : List A) × (q : List A) × (r : List A) × (l ≡ p ++ (a ∷ (q ++ (b ∷ r))))
split_two {A} {a} k (here {l} e m) = let w = split_in l m in ([], w.0, w.1, ap (◌∷ l) (sym e) ∙ ap (a ∷◌) w.2)
split_two k (later {x} {l} c) = let w = split_two l c in (x ∷ w.0, w.1, w.2, ap (x ∷◌) w.3)

-- what stands ahead of a cut, and behind it
across : {A : Type 0} {a b : A} (p : List A) {q : List A} → a ∈ p → b ∈ q → Before a b (p ++ q)
across p (Memᴰ.head {xs} e) n = here e (Memᴰ.append_right xs n)
across p (Memᴰ.tail {xs} m) n = later (across xs m n)

behind : {A : Type 0} {a b : A} (p : List A) {q : List A} → Before a b q → Before a b (p ++ q)
behind [] c = c
behind (x ∷ p) c = later (behind p c)

longer : {A : Type 0} {a b : A} {p : List A} (q : List A) → Before a b p → Before a b (p ++ q)
longer q (here e m) = here e (Memᴰ.append_left q m)
longer q (later c) = later (longer q c)

module _ {P : Plain} where
  once_ahead : (p q : List (Operation P)) → Once (p ++ q) → Once p
  unfolding Once
  once_ahead [] q u = tt
  once_ahead (o ∷ p) q u = ((λ x m. u.0 x (Memᴰ.append_left q m)), once_ahead p q u.1)

  fed_append : (s : P.Stripe) (p q : List (Operation P)) → fed s (p ++ q) ≡ fed (fed s p) q
  unfolding fed
  fed_append s [] q = refl
  fed_append s (o ∷ p) q = fed_append (P.effect o.kind s) p q

  -- operations that change nothing
  fed_kept : (s : P.Stripe) (os : List (Operation P)) → ((o : Operation P) → o ∈ os → (r : P.Stripe) → P.effect o.kind r ≡ r) → fed s os ≡ s
  unfolding fed
  fed_kept s [] k = refl
  fed_kept s (o ∷ os) k = fed_kept (P.effect o.kind s) os (λ p m. k p (Memᴰ.tail m)) ∙ k o (Memᴰ.head refl) s

  abbrev operation : ℕ → P.Kind → Operation P
  operation t k = record { time = t; kind = k }

  same_operation : (x y : Operation P) → x.time ≡ y.time → x.kind ≡ y.kind → x ≡ y
  same_operation x y p q = ap₂ operation p q

  -- whether an operation of time t stands in a list is decided
  find : (t : ℕ) (os : List (Operation P)) → ((o : Operation P) × (o.time ≡ t) × (o ∈ os)) ⊎ ((o : Operation P) → o ∈ os → o.time ≢ t)
  find t [] = inr (λ o m. absurd (Memᴰ.not-nil m))
  find t (x ∷ os) = go (ℕ_discrete x.time t) (find t os)
    where
      other : x.time ≢ t → ((o : Operation P) → o ∈ os → o.time ≢ t) → (o : Operation P) → (o ≡ x) ⊎ (o ∈ os) → o.time ≢ t
      other n f o (inl e) q = n (ap (λ (c : Operation P). c.time) (sym e) ∙ q)
      other n f o (inr m) q = f o m q

      go : Dec (x.time ≡ t) → ((o : Operation P) × (o.time ≡ t) × (o ∈ os)) ⊎ ((o : Operation P) → o ∈ os → o.time ≢ t)
          → ((o : Operation P) × (o.time ≡ t) × (o ∈ (x ∷ os))) ⊎ ((o : Operation P) → o ∈ (x ∷ os) → o.time ≢ t)
      go (yes e) f = inl (x, e, Memᴰ.head refl)
      go (no n) (inl (o, e, m)) = inl (o, e, Memᴰ.tail m)
      go (no n) (inr f) = inr (λ o m. other n f o (Memᴰ.cases_cons m))

-- What is known of the whole order, as a list.
record Whole {P : Plain} (l : List (Seen P)) (os : List (Operation P)) : Type 0 where
  in_order : InOrder l os
  right : Right l P.zeros os
  all : (t : ℕ) (g : P.Given) → Seen.ended t (finished g) ∈ l → (o : Operation P) × (o.time ≡ t) × (o ∈ os)

module _ {P : Plain} {l : List (Seen P)} (o : OneOrder P l) where
  whole : Whole l o.order
  whole =
      record {
        in_order = record { begun = o.begun; once = o.once; ahead = λ x y m n e. ahead_of o x y m n e };
        right = o.right;
        all = o.all;
      }

  module _ {os : List (Operation P)} (w : Whole l os) where
    -- what stands in the order under the time of an operation that began is that operation
    is_that : (x z : Operation P) → x ∈ os → x.time ≡ z.time → Seen.began z.time z.kind ∈ l → x ≡ z
    is_that x z m e b =
        same_operation x z e
        (one_kind o z.time x.kind z.kind (subst (λ (c : ℕ). Seen.began c x.kind ∈ l) e (w.in_order.begun x m)) b)

    -- a finished operation stands in the order
    there : (z : Operation P) (g : P.Given) → OperationGave l z.time z.kind g → z ∈ os
    there z g v =
        let x = w.all z.time g v.1 in subst (λ (c : Operation P). c ∈ os) (is_that x.0 z x.2 x.1 v.0) x.2

  -- The order cut at c.
  module _ (p : List (Operation P)) (c : Operation P) (q : List (Operation P)) (w : Whole l (p ++ (c ∷ q))) where
    at : c ∈ (p ++ (c ∷ q))
    at = Memᴰ.append_right p (Memᴰ.head refl)

    cut_at : (a : P.Given) → Seen.ended c.time (finished a) ∈ l → CutAt l c.time c.kind a p
    cut_at a m =
        record {
          in_order = record {
            begun = λ x i. w.in_order.begun x (Memᴰ.append_left (c ∷ q) i);
            once = once_ahead p (c ∷ q) w.in_order.once;
            ahead = λ x y i j e. inside x y (w.in_order.ahead x y (Memᴰ.append_left (c ∷ q) i) (Memᴰ.append_left (c ∷ q) j) e) (placed p i j);
          };
          gave = right_at P.zeros p c q w.right a m;
          finished-there = λ z g v e. let i = there w z g v in ahead-of-it z (w.in_order.ahead z c i at e) (Memᴰ.append_cases p i);
          not_after = λ z i e. one_way (p ++ (c ∷ q)) w.in_order.once (across p i (Memᴰ.head refl))
              (w.in_order.ahead c z at (Memᴰ.append_left (c ∷ q) i) e);
        }
      where
        inside : (x y : Operation P) → Before x y (p ++ (c ∷ q)) → Placed x y p → Before x y p
        inside x y b (same e) = absurd (other_time_lem (p ++ (c ∷ q)) w.in_order.once b (ap (λ (z : Operation P). z.time) e))
        inside x y b (first d) = d
        inside x y b (second d) = absurd (one_way (p ++ (c ∷ q)) w.in_order.once b (longer (c ∷ q) d))

        not_behind : (z : Operation P) → Before z c (p ++ (c ∷ q)) → (z ≡ c) ⊎ (z ∈ q) → z ∈ p
        not_behind z b (inl e) = absurd (other_time_lem (p ++ (c ∷ q)) w.in_order.once b (ap (λ (y : Operation P). y.time) e))
        not_behind z b (inr n) = absurd (one_way (p ++ (c ∷ q)) w.in_order.once b (behind p (here refl n)))

        ahead-of-it : (z : Operation P) → Before z c (p ++ (c ∷ q)) → (z ∈ p) ⊎ (z ∈ (c ∷ q)) → z ∈ p
        ahead-of-it z b (inl i) = i
        ahead-of-it z b (inr n) = not_behind z b (Memᴰ.cases_cons n)

  -- The order cut at c and d.
  module _ (p : List (Operation P)) (c : Operation P) (q : List (Operation P)) (d : Operation P) (r : List (Operation P))
      (w : Whole l (p ++ (c ∷ (q ++ (d ∷ r))))) (a b : P.Given)
      (m : Seen.ended c.time (finished a) ∈ l) (n : Seen.ended d.time (finished b) ∈ l) where
    ahead_of_d : CutAt l d.time d.kind b (p ++ (c ∷ q))
    ahead_of_d = cut_at (p ++ (c ∷ q)) d r (subst (Whole l) (sym (append_assoc p (c ∷ q) (d ∷ r))) w) b n

    not_ahead_of_c : (z : Operation P) → z ∈ (c ∷ q) → ¬ EndedBefore l z.time c.time
    not_ahead_of_c z i e =
        go (w.in_order.ahead z c (Memᴰ.append_right p (Memᴰ.append_left (d ∷ r) i)) (at p c (q ++ (d ∷ r)) w) e) (Memᴰ.cases_cons i)
      where
        go : Before z c (p ++ (c ∷ (q ++ (d ∷ r)))) → (z ≡ c) ⊎ (z ∈ q) → ⊥
        go f (inl s) = other_time_lem (p ++ (c ∷ (q ++ (d ∷ r)))) w.in_order.once f (ap (λ (y : Operation P). y.time) s)
        go f (inr j) = one_way (p ++ (c ∷ (q ++ (d ∷ r)))) w.in_order.once f (behind p (here refl (Memᴰ.append_left (d ∷ r) j)))

    cut_at_both : CutAtTwo l c.time c.kind a d.time d.kind b
    cut_at_both =
        record {
          before = p;
          between = q;
          first = cut_at p c (q ++ (d ∷ r)) w a m;
          second = ahead_of_d;
          within = λ z i. let j = Memᴰ.tail i in
              record { not-before = not_ahead_of_c z j; not_after = ahead_of_d.not_after z (Memᴰ.append_right p j) };
          there-or-away = λ z s e. go z s e (find z.time p);
        }
      where
        apart : (z : Operation P) → EndedBefore l z.time c.time → ((o : Operation P) → o ∈ p → o.time ≢ z.time)
            → (z ∈ p) ⊎ (z ∈ q) → ⊥
        apart z e f (inl i) = f z i refl
        apart z e f (inr j) = not_ahead_of_c z (Memᴰ.tail j) e

        go : (z : Operation P) → Seen.began z.time z.kind ∈ l → EndedBefore l z.time c.time
            → ((o : Operation P) × (o.time ≡ z.time) × (o ∈ p)) ⊎ ((o : Operation P) → o ∈ p → o.time ≢ z.time)
            → (z ∈ p) ⊎ (¬ (z ∈ (p ++ q)))
        go z s e (inl (y, t, i)) = inl (subst (λ (x : Operation P). x ∈ p) (is_that w y z (Memᴰ.append_left (c ∷ (q ++ (d ∷ r))) i) t s) i)
        go z s e (inr f) = inr (λ i. apart z e f (Memᴰ.append_cases p i))

  module _ {t u : ℕ} {x y : P.Kind} {a b : P.Given} (v : OperationGave l t x a) (k : OperationGave l u y b) where
    cut_placed : Before (operation t x) (operation u y) o.order → CutAtTwo l t x a u y b
    cut_placed c =
        let s = split_two o.order c in
        cut_at_both s.0 (operation t x) s.1 (operation u y) s.2 (subst (Whole l) s.3 whole) a b v.1 k.1

    -- Of two finished operations, of which t ended before u began, the order is cut at t and then at u.
    pub cut_at_two : EndedBefore l t u → CutAtTwo l t x a u y b
    cut_at_two e = cut_placed (ahead_of o (operation t x) (operation u y) (there whole (operation t x) a v) (there whole (operation u y) b k) e)

    -- an operation taken twice is cut at once
    cut_once : ◌≡◌ {A = Operation P} (operation t x) (operation u y) → AfterOneList l t x a u y b
    cut_once e =
        let s = split_in o.order (there whole (operation t x) a v) in
        let w = subst (Whole l) s.2 whole in
        let f = cut_at s.0 (operation t x) s.1 w a v.1 in
        let g = cut_at s.0 (operation t x) s.1 w b (subst (λ (c : Operation P). Seen.ended c.time (finished b) ∈ l) (sym e) k.1) in
        record {
          list = s.0;
          in_order = f.in_order;
          first-gave = f.gave;
          second-gave = g.gave ∙ ap (λ (c : Operation P). P.gives c.kind (fed P.zeros s.0)) e;
          finished-there = λ z h i d j. f.finished-there z h i d;
          not_after = λ z i d. f.not_after z i d.0;
        }

module _ {S B : Type 0} {blocks : Blocks S B} {z : S} {l : List (Seen (stripe blocks z))} where
  -- each operation changes nothing, or is a write
  keeps_or_writes : (w : ℕ) (k : Action blocks) → Seen.began w k ∈ l → ((r : S) → changed k r ≡ r) ⊎ IsWrite l w
  keeps_or_writes w k b = go (leaves_or_is_write w k b)
    where
      go : ((s : S) → Unit {0} → changed k s ≡ s) ⊎ ((s : S) → Unit {0} → IsWrite l w) → ((r : S) → changed k r ≡ r) ⊎ IsWrite l w
      go (inl e) = inl (λ r. e r tt)
      go (inr i) = inr (i z tt)

  -- if no write is within the time of two operations, the plain stripe is the same at both cuts
  no_write_between : {t u : ℕ} {x y : Action blocks} {a b : Result S B} (c : CutAtTwo l t x a u y b)
      → ((w : ℕ) → IsWrite l w → EndedBefore l w t ⊎ EndedBefore l u w)
      → fed z (c.before ++ (record { time = t; kind = x } ∷ c.between)) ≡ fed z c.before
  no_write_between {t} {u} {x} c f =
      fed_append z c.before (own ∷ c.between)
      ∙ fed_kept (fed z c.before) (own ∷ c.between)
      (λ o m. kept o (within o (Memᴰ.cases_cons m))
      (keeps_or_writes o.time o.kind (c.second.in_order.begun o (Memᴰ.append_right c.before m))))
    where
      own : Operation (stripe blocks z)
      own = record { time = t; kind = x }

      at_own : own ∈ (c.before ++ (own ∷ c.between))
      at_own = Memᴰ.append_right c.before (Memᴰ.head refl)

      own-within : Within l t u t
      own-within =
          record {
            not-before = λ e. other_time_lem (c.before ++ (own ∷ c.between)) c.second.in_order.once
                (c.second.in_order.ahead own own at_own at_own e) refl;
            not_after = c.second.not_after own at_own;
          }

      within : (o : Operation (stripe blocks z)) → (o ≡ own) ⊎ (o ∈ c.between) → Within l t u o.time
      within o (inl e) = subst (λ (i : Operation (stripe blocks z)). Within l t u i.time) (sym e) own-within
      within o (inr m) = c.within o m

      none : (w : ℕ) → Within l t u w → EndedBefore l w t ⊎ EndedBefore l u w → ⊥
      none w h (inl e) = h.not-before e
      none w h (inr e) = h.not_after e

      kept : (o : Operation (stripe blocks z)) → Within l t u o.time → ((r : S) → changed o.kind r ≡ r) ⊎ IsWrite l o.time
          → (r : S) → changed o.kind r ≡ r
      kept o h (inl e) = e
      kept o h (inr i) = absurd (none o.time h (f o.time i))

  module _ (o : OneOrder (stripe blocks z) l) {t u : ℕ} {x y : Action blocks} {a b : Result S B} (v : OperationGave l t x a) (k : OperationGave l u y b) where
    -- Two finished reads, of the stripe or of one block each, gave what the plain stripe gives after one list of operations, if every write had
    -- ended before both began, by answer, abort or cut, or began after both had ended.
    pub after_one_list : ((w : ℕ) → IsWrite l w → (EndedBefore l w t × EndedBefore l w u) ⊎ (EndedBefore l t w × EndedBefore l u w))
        → AfterOneList l t x a u y b
    after_one_list f = go (placed o.order (there o (whole o) (operation t x) a v) (there o (whole o) (operation u y) b k))
      where
        left : (w : ℕ) → (EndedBefore l w t × EndedBefore l w u) ⊎ (EndedBefore l t w × EndedBefore l u w) → EndedBefore l w t ⊎ EndedBefore l u w
        left w (inl e) = inl e.0
        left w (inr e) = inr e.1

        right : (w : ℕ) → (EndedBefore l w t × EndedBefore l w u) ⊎ (EndedBefore l t w × EndedBefore l u w) → EndedBefore l w u ⊎ EndedBefore l t w
        right w (inl e) = inl e.1
        right w (inr e) = inr e.0

        t-first : CutAtTwo l t x a u y b → AfterOneList l t x a u y b
        t-first c =
            record {
              list = c.before;
              in_order = c.first.in_order;
              first-gave = c.first.gave;
              second-gave = c.second.gave ∙ ap (given y) (no_write_between c (λ w i. left w (f w i)));
              finished-there = λ z h i d j. c.first.finished-there z h i d;
              not_after = λ z i d. c.first.not_after z i d.0;
            }

        u-first : CutAtTwo l u y b t x a → AfterOneList l t x a u y b
        u-first c =
            record {
              list = c.before;
              in_order = c.first.in_order;
              first-gave = c.second.gave ∙ ap (given x) (no_write_between c (λ w i. right w (f w i)));
              second-gave = c.first.gave;
              finished-there = λ z h i d j. c.first.finished-there z h i j;
              not_after = λ z i d. c.first.not_after z i d.1;
            }

        go : Placed (operation t x) (operation u y) o.order → AfterOneList l t x a u y b
        go (same e) = cut_once o v k e
        go (first c) = t-first (cut_placed o v k c)
        go (second c) = u-first (cut_placed o k v c)

    -- A write of the stripe that ended before both began is there for both, whole, or away for both, if every other write had ended before all
    -- three began, or began after both had ended.
    pub there_or_away_for_both : (w : ℕ) (s : S) → Seen.began w (write s) ∈ l → EndedBefore l w t → EndedBefore l w u
        → ((i : ℕ) → IsWrite l i → i ≢ w
        → (EndedBefore l i w × EndedBefore l i t × EndedBefore l i u) ⊎ (EndedBefore l t i × EndedBefore l u i))
        → ((a ≡ given x s) × (b ≡ given y s))
        ⊎ ((c : AfterOneList l t x a u y b) × ((i : Operation (stripe blocks z)) → i ∈ c.list → i.time ≢ w))
    unfolding changed fed
    there_or_away_for_both w s m e d f = go (find w c.list)
      where
        apart : (i : ℕ) → (EndedBefore l i w × EndedBefore l i t × EndedBefore l i u) ⊎ (EndedBefore l t i × EndedBefore l u i)
            → (EndedBefore l i t × EndedBefore l i u) ⊎ (EndedBefore l t i × EndedBefore l u i)
        apart i (inl g) = inl (g.1, g.2)
        apart i (inr g) = inr g

        when : (i : ℕ) → IsWrite l i → Dec (i ≡ w) → (EndedBefore l i t × EndedBefore l i u) ⊎ (EndedBefore l t i × EndedBefore l u i)
        when i j (yes q) = inl (subst (λ (n : ℕ). EndedBefore l n t) (sym q) e, subst (λ (n : ℕ). EndedBefore l n u) (sym q) d)
        when i j (no q) = apart i (f i j q)

        c : AfterOneList l t x a u y b
        c = after_one_list (λ i j. when i j (ℕ_discrete i w))

        not_behind : (h i : Operation (stripe blocks z)) → h.time ≡ w → Before h i c.list
            → (EndedBefore l i.time w × EndedBefore l i.time t × EndedBefore l i.time u)
            ⊎ (EndedBefore l t i.time × EndedBefore l u i.time) → ⊥
        not_behind h i q p (inl g) =
            one_way c.list c.in_order.once p
            (c.in_order.ahead i h (before_right p) (before_left p) (subst (EndedBefore l i.time) (sym q) g.0))
        not_behind h i q p (inr g) = c.not_after i (before_right p) g

        kept : (h i : Operation (stripe blocks z)) → h.time ≡ w → Before h i c.list
            → ((r : S) → changed i.kind r ≡ r) ⊎ IsWrite l i.time → (r : S) → changed i.kind r ≡ r
        kept h i q p (inl g) = g
        kept h i q p (inr j) =
            absurd (not_behind h i q p (f i.time j (λ n. other_time_lem c.list c.in_order.once p (q ∙ sym n))))

        there-last : (h : Operation (stripe blocks z)) → h.time ≡ w → h ∈ c.list → fed z c.list ≡ s
        there-last h q n =
            let k = split_in c.list n in
            let j = one_kind o w h.kind (write s) (subst (λ (g : ℕ). Seen.began g h.kind ∈ l) q (c.in_order.begun h n)) m in
            ap (fed z) k.2
            ∙ fed_append z k.0 (h ∷ k.1)
            ∙ fed_kept (changed h.kind (fed z k.0)) k.1
            (λ i r. let p = subst (Before h i) (sym k.2) (behind k.0 (here refl r)) in
            kept h i q p (keeps_or_writes i.time i.kind (c.in_order.begun i (before_right p))))
            ∙ ap (λ (g : Action blocks). changed g (fed z k.0)) j

        go : ((i : Operation (stripe blocks z)) × (i.time ≡ w) × (i ∈ c.list)) ⊎ ((i : Operation (stripe blocks z)) → i ∈ c.list → i.time ≢ w)
            → ((a ≡ given x s) × (b ≡ given y s))
            ⊎ ((c : AfterOneList l t x a u y b) × ((i : Operation (stripe blocks z)) → i ∈ c.list → i.time ≢ w))
        go (inl (h, q, n)) =
            let k = there-last h q n in inl (c.first-gave ∙ ap (given x) k, c.second-gave ∙ ap (given y) k)
        go (inr n) = inr (c, n)
