-- Laws of `specs/OrderUse`, of any plain stripe: places in an order, and what an operation there gave.
use mathlib.Core.Path.{◌≡◌, sym, ap, subst, ◌∙◌}
use mathlib.Core.Logic.{◌≢◌, ◌⊎◌, inl, inr}
use mathlib.Core.List.Memᴰ
use mathlib.Core.List.{List, [], ◌∷◌}
use Prim.Native.Nat.{ℕ}
use Rattle.order.specs.Claim.{Plain, finished, Seen, Operation, ◌∈◌, Before, here, later, Once, Right, OneOrder}
use Rattle.order.specs.OrderUse.{EndedBefore}

-- of two members of a list one stands before the other, or they are the same
pub data Placed {A : Type 0} (a b : A) (l : List A) : Type 0 where
  same : a ≡ b → Placed a b l
  first : Before a b l → Placed a b l
  second : Before b a l → Placed a b l

pub placed : {A : Type 0} {a b : A} (l : List A) → a ∈ l → b ∈ l → Placed a b l
placed [] m n = absurd (Memᴰ.not-nil m)
placed {A} {a} {b} (x ∷ l) m n = go (Memᴰ.cases_cons m) (Memᴰ.cases_cons n) (placed l)
  where
    up : Placed a b l → Placed a b (x ∷ l)
    up (same e) = same e
    up (first p) = first (later p)
    up (second p) = second (later p)

    go : (a ≡ x) ⊎ (a ∈ l) → (b ≡ x) ⊎ (b ∈ l) → (a ∈ l → b ∈ l → Placed a b l) → Placed a b (x ∷ l)
    go (inl e) (inl f) ih = same (e ∙ sym f)
    go (inl e) (inr q) ih = first (here e q)
    go (inr p) (inl f) ih = second (here f p)
    go (inr p) (inr q) ih = up (ih p q)

pub before_left : {A : Type 0} {a b : A} {l : List A} → Before a b l → a ∈ l
before_left (here e m) = Memᴰ.head e
before_left (later p) = Memᴰ.tail (before_left p)

pub before_right : {A : Type 0} {a b : A} {l : List A} → Before a b l → b ∈ l
before_right (here e m) = Memᴰ.tail m
before_right (later p) = Memᴰ.tail (before_right p)

module _ {P : Plain} where
  -- an order goes one way, and has no operation twice
  pub one_way : {x y : Operation P} (os : List (Operation P)) → Once os → Before x y os → Before y x os → ⊥
  unfolding Once
  one_way [] o p q = Memᴰ.not-nil (before_left p)
  one_way (w ∷ os) o (here e m) (here f k) = o.0 _ m (ap (λ (a : Operation P). a.time) (sym f))
  one_way (w ∷ os) o (here e m) (later q) = o.0 _ (before_right q) (ap (λ (a : Operation P). a.time) (sym e))
  one_way (w ∷ os) o (later p) (here f k) = o.0 _ (before_right p) (ap (λ (a : Operation P). a.time) (sym f))
  one_way (w ∷ os) o (later p) (later q) = one_way os o.1 p q

  pub other_time_lem : {x y : Operation P} (os : List (Operation P)) → Once os → Before x y os → x.time ≢ y.time
  unfolding Once
  other_time_lem [] o p q = absurd (Memᴰ.not-nil (before_left p))
  other_time_lem (w ∷ os) o (here e m) q = o.0 _ m (ap (λ (a : Operation P). a.time) (sym e) ∙ q)
  other_time_lem (w ∷ os) o (later p) q = other_time_lem os o.1 p q

module _ {P : Plain} {l : List (Seen P)} where
  -- what an operation that is this one gave
  pub gave : (o x : Operation P) (s : P.Stripe) (a : P.Given)
      → ((g : P.Given) → Seen.ended o.time (finished g) ∈ l → g ≡ P.gives o.kind s)
      → x ≡ o → Seen.ended x.time (finished a) ∈ l → a ≡ P.gives x.kind s
  gave o x s a f q m =
      f a (subst (λ (y : Operation P). Seen.ended y.time (finished a) ∈ l) q m) ∙ ap (λ (y : Operation P). P.gives y.kind s) (sym q)

  -- what an operation of an order gave, some stripe gives
  pub some_stripe : (os : List (Operation P)) (s : P.Stripe) (a : P.Given) (x : Operation P) → Right l s os → x ∈ os
      → Seen.ended x.time (finished a) ∈ l → (v : P.Stripe) × (a ≡ P.gives x.kind v)
  unfolding Right
  some_stripe [] s a x r m e = absurd (Memᴰ.not-nil m)
  some_stripe (o ∷ os) s a x r m e = go (Memᴰ.cases_cons m) (λ p. some_stripe os (P.effect o.kind s) a x r.1 p e)
    where
      go : (x ≡ o) ⊎ (x ∈ os) → (x ∈ os → (v : P.Stripe) × (a ≡ P.gives x.kind v)) → (v : P.Stripe) × (a ≡ P.gives x.kind v)
      go (inl q) ih = (s, gave o x s a r.0 q e)
      go (inr p) ih = ih p

module _ {P : Plain} {l : List (Seen P)} (o : OneOrder P l) where
  pub ahead_of : (x y : Operation P) → x ∈ o.order → y ∈ o.order → EndedBefore l x.time y.time → Before x y o.order
  ahead_of x y m n e = o.ahead x y e.0 e.1 m n e.2

  -- a time began with one kind
  pub one_kind : (t : ℕ) (k k' : P.Kind) → Seen.began t k ∈ l → Seen.began t k' ∈ l → k ≡ k'
  one_kind t k k' m n = go (placed l m n)
    where
      go : Placed (Seen.began t k) (Seen.began t k') l → k ≡ k'
      go (same e) = cc
      go (first p) = absurd (o.named t k k' p)
      go (second p) = absurd (o.named t k' k p)

  -- the place of a finished operation in the order
  pub record Finished (t : ℕ) (k : P.Kind) : Type 0 where
    pub op : Operation P
    pub of-time : op.time ≡ t
    pub of-kind : op.kind ≡ k
    pub stands : op ∈ o.order

  pub finished_at : (t : ℕ) (a : P.Given) (k : P.Kind) → Seen.ended t (finished a) ∈ l → Seen.began t k ∈ l → Finished t k
  finished_at t a k m b =
      let x = o.all t a m in
      record {
        op = x.0;
        of-time = x.1;
        of-kind = one_kind t x.0.kind k (subst (λ (c : ℕ). Seen.began c x.0.kind ∈ l) x.1 (o.begun x.0 x.2)) b;
        stands = x.2;
      }

  -- a finished operation began, and gave what some stripe gives
  pub finished_began : (t : ℕ) (a : P.Given) → Seen.ended t (finished a) ∈ l
      → (k : P.Kind) × (v : P.Stripe) × Seen.began t k ∈ l × (a ≡ P.gives k v)
  finished_began t a m =
      let x = o.all t a m in
      let w = some_stripe o.order P.zeros a x.0 o.right x.2 (subst (λ (c : ℕ). Seen.ended c (finished a) ∈ l) (sym x.1) m) in
      (x.0.kind, w.0, subst (λ (c : ℕ). Seen.began c x.0.kind ∈ l) x.1 (o.begun x.0 x.2), w.1)

  -- what stands behind another in the order did not end before that one began
  pub not_ended : {x y : Operation P} → Before x y o.order → ¬ EndedBefore l y.time x.time
  not_ended {x} {y} p e = one_way o.order o.once p (ahead_of y x (before_right p) (before_left p) e)
