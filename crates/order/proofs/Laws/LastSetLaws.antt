-- Where what is looked at in a stripe comes from, if every operation leaves it as it is or writes it: the whole stripe, or one block.
use mathlib.Core.Path.{◌≡◌, refl, sym, ap, subst, ◌∙◌}
use mathlib.Core.Logic.{◌≢◌, ◌⊎◌, inl, inr}
use mathlib.Core.List.Memᴰ
use mathlib.Core.List.{List, [], ◌∷◌}
use Prim.Native.Nat.{ℕ}
use native.Mathlib.Omega.{arith}
use Rattle.order.specs.Claim.{Plain, finished, Seen, Operation, ◌∈◌, Before, here, later, Right, OneOrder}
use Rattle.order.specs.OrderUse.{EndedBefore, Within}
use Rattle.order.proofs.Laws.OrderUseLaws.{Placed, same, first, second, placed, before_left, other_time_lem, gave, ahead_of, not_ended}
use Rattle.order.proofs.Laws.OrderUseLaws.{Finished, finished_at}

-- What is looked at in the stripes that fit, and what the operations that began do to it.
pub record Look {P : Plain} (l : List (Seen P)) (A : Type 0) : Type 1 where
  pub part : P.Stripe → A
  pub Fits : P.Stripe → Type 0
  -- operation w writes v there
  pub Written : ℕ → A → Type 0
  pub fresh : Fits P.zeros
  pub stays : (w : ℕ) (k : P.Kind) → Seen.began w k ∈ l → (s : P.Stripe) → Fits s → Fits (P.effect k s)
  pub each : (w : ℕ) (k : P.Kind) → Seen.began w k ∈ l
      → ((s : P.Stripe) → Fits s → part (P.effect k s) ≡ part s) ⊎ ((s : P.Stripe) → Fits s → Written w (part (P.effect k s)))

module _ {P : Plain} {l : List (Seen P)} {A : Type 0} (look : Look l A) where
  -- the stripe that an operation met in the order
  record Met (y : Operation P) : Type 0 where
    stripe : P.Stripe
    fits : look.Fits stripe
    shown : (g : P.Given) → Seen.ended y.time (finished g) ∈ l → g ≡ P.gives y.kind stripe

  abbrev seen_in : {y : Operation P} → Met y → A
  seen_in m = look.part m.stripe

  Begun : List (Operation P) → Type 0
  Begun os = (o : Operation P) → o ∈ os → Seen.began o.time o.kind ∈ l

  -- an operation met what was looked at as it was at first, or as one ahead of it wrote it
  from_first : (os : List (Operation P)) (s : P.Stripe) (y : Operation P) → Right l s os → Begun os → look.Fits s → y ∈ os
      → (m : Met y) × ((seen_in m ≡ look.part s) ⊎ ((x : Operation P) × Before x y os × look.Written x.time (seen_in m)))
  unfolding Right Begun
  from_first [] s y r b f m = absurd (Memᴰ.not-nil m)
  from_first (o ∷ os) s y r b f m =
      go (Memᴰ.cases_cons m)
      (λ p. from_first os (P.effect o.kind s) y r.1 (λ x n. b x (Memᴰ.tail n)) (look.stays o.time o.kind own s f) p)
    where
      own : Seen.began o.time o.kind ∈ l
      own = b o (Memᴰ.head refl)

      up : y ∈ os → (n : Met y)
          → ((z : P.Stripe) → look.Fits z → look.part (P.effect o.kind z) ≡ look.part z)
          ⊎ ((z : P.Stripe) → look.Fits z → look.Written o.time (look.part (P.effect o.kind z)))
          → (seen_in n ≡ look.part (P.effect o.kind s)) ⊎ ((x : Operation P) × Before x y os × look.Written x.time (seen_in n))
          → (seen_in n ≡ look.part s) ⊎ ((x : Operation P) × Before x y (o ∷ os) × look.Written x.time (seen_in n))
      up p n (inl k) (inl e) = inl (e ∙ k s f)
      up p n (inr k) (inl e) = inr (o, here refl p, subst (look.Written o.time) (sym e) (k s f))
      up p n k (inr (x, c, w)) = inr (x, later c, w)

      go : (y ≡ o) ⊎ (y ∈ os)
          → (y ∈ os → (n : Met y)
          × ((seen_in n ≡ look.part (P.effect o.kind s)) ⊎ ((x : Operation P) × Before x y os × look.Written x.time (seen_in n))))
          → (n : Met y) × ((seen_in n ≡ look.part s) ⊎ ((x : Operation P) × Before x y (o ∷ os) × look.Written x.time (seen_in n)))
      go (inl q) ih = (record { stripe = s; fits = f; shown = λ g e. gave o y s g r.0 q e }, inl refl)
      go (inr p) ih = let w = ih p in (w.0, up p w.0 (look.each o.time o.kind own) w.1)

  -- an operation behind another met what that one left, or what one between them wrote
  from_behind : (os : List (Operation P)) (s : P.Stripe) (x y : Operation P) → Right l s os → Begun os → look.Fits s → Before x y os
      → (m : Met x) × (n : Met y)
      × ((seen_in n ≡ look.part (P.effect x.kind m.stripe))
      ⊎ ((w : Operation P) × Before x w os × Before w y os × look.Written w.time (seen_in n)))
  unfolding Right Begun
  from_behind [] s x y r b f p = absurd (Memᴰ.not-nil (before_left p))
  from_behind (o ∷ os) s x y r b f (here q i) =
      let w = from_first os (P.effect o.kind s) y r.1 (λ z n. b z (Memᴰ.tail n)) (look.stays o.time o.kind (b o (Memᴰ.head refl)) s f) i in
      (record { stripe = s; fits = f; shown = λ g e. gave o x s g r.0 q e }, w.0, go w.0 w.1)
    where
      go : (n : Met y)
          → (seen_in n ≡ look.part (P.effect o.kind s)) ⊎ ((w : Operation P) × Before w y os × look.Written w.time (seen_in n))
          → (seen_in n ≡ look.part (P.effect x.kind s))
          ⊎ ((w : Operation P) × Before x w (o ∷ os) × Before w y (o ∷ os) × look.Written w.time (seen_in n))
      go n (inl e) = inl (e ∙ ap (λ (z : Operation P). look.part (P.effect z.kind s)) (sym q))
      go n (inr (w, c, k)) = inr (w, here q (before_left c), later c, k)
  from_behind (o ∷ os) s x y r b f (later p) =
      let w =
      from_behind os (P.effect o.kind s) x y r.1 (λ z n. b z (Memᴰ.tail n))
      (look.stays o.time o.kind (b o (Memᴰ.head refl)) s f) p
      in
      (w.0, w.1, go w.0 w.1 w.2)
    where
      go : (m : Met x) (n : Met y)
          → (seen_in n ≡ look.part (P.effect x.kind m.stripe))
          ⊎ ((w : Operation P) × Before x w os × Before w y os × look.Written w.time (seen_in n))
          → (seen_in n ≡ look.part (P.effect x.kind m.stripe))
          ⊎ ((w : Operation P) × Before x w (o ∷ os) × Before w y (o ∷ os) × look.Written w.time (seen_in n))
      go m n (inl e) = inl e
      go m n (inr (w, c, d, k)) = inr (w, later c, later d, k)

  -- Finished operation t leaves what is looked at as it is, and tells that it is v.
  pub record Reads (t : ℕ) (v : A) : Type 0 where
    pub kind : P.Kind
    pub given : P.Given
    pub began : Seen.began t kind ∈ l
    pub ended : Seen.ended t (finished given) ∈ l
    pub leaves : (s : P.Stripe) → look.Fits s → look.part (P.effect kind s) ≡ look.part s
    pub tells : (s : P.Stripe) → look.Fits s → given ≡ P.gives kind s → look.part s ≡ v

  -- what it met there is what it tells
  told : {t : ℕ} {v : A} (r : Reads t v) (y : Operation P) → y.time ≡ t → y.kind ≡ r.kind → (m : Met y) → seen_in m ≡ v
  told r y e q m =
      r.tells m.stripe m.fits
      (m.shown r.given (subst (λ (c : ℕ). Seen.ended c (finished r.given) ∈ l) (sym e) r.ended)
      ∙ ap (λ (k : P.Kind). P.gives k m.stripe) q)

  -- and what it leaves
  left : {t : ℕ} {v : A} (r : Reads t v) (y : Operation P) → y.time ≡ t → y.kind ≡ r.kind → (m : Met y)
      → look.part (P.effect y.kind m.stripe) ≡ v
  left r y e q m =
      ap (λ (k : P.Kind). look.part (P.effect k m.stripe)) q ∙ r.leaves m.stripe m.fits ∙ told r y e q m

  module _ (o : OneOrder P l) where
    place : {t : ℕ} {v : A} (r : Reads t v) → Finished o t r.kind
    place {t} r = finished_at o t r.given r.kind r.ended r.began

    -- Read t told what was there at first, or what one operation wrote that began before t ended.
    pub zeros_or_written : (t : ℕ) (a : A) (r : Reads t a)
        → (a ≡ look.part P.zeros)
        ⊎ ((x : ℕ) × (k : P.Kind) × look.Written x a × Before (Seen.began x k) (Seen.ended t (finished r.given)) l)
    unfolding Begun
    zeros_or_written t a r =
        let w = from_first o.order P.zeros y.op o.right o.begun look.fresh y.stands in
        go w.0 w.1
      where
        y : Finished o t r.kind
        y = place r

        began-before : (x : Operation P) → Before x y.op o.order
            → Placed (Seen.began x.time x.kind) (Seen.ended t (finished r.given)) l
            → Before (Seen.began x.time x.kind) (Seen.ended t (finished r.given)) l
        began-before x p (same e) = absurd (let q : ◌≡◌ {A = ℕ} 0 1 = cc in omega arith)
        began-before x p (first c) = c
        began-before x p (second c) =
            absurd (not_ended o p (subst (λ (i : ℕ). EndedBefore l i x.time) (sym y.of-time) (finished r.given, x.kind, c)))

        go : (m : Met y.op)
            → (seen_in m ≡ look.part P.zeros) ⊎ ((x : Operation P) × Before x y.op o.order × look.Written x.time (seen_in m))
            → (a ≡ look.part P.zeros)
            ⊎ ((x : ℕ) × (k : P.Kind) × look.Written x a × Before (Seen.began x k) (Seen.ended t (finished r.given)) l)
        go m (inl e) = inl (sym (told r y.op y.of-time y.of-kind m) ∙ e)
        go m (inr (x, p, w)) =
            inr (
              x.time,
              x.kind,
              subst (look.Written x.time) (told r y.op y.of-time y.of-kind m) w,
              began-before x p (placed l (o.begun x (before_left p)) r.ended),
            )

    -- what stands between two operations of the order is within their time
    within : {t u : ℕ} {j k : P.Kind} (x : Finished o t j) (y : Finished o u k) (w : Operation P)
        → Before x.op w o.order → Before w y.op o.order → Within l t u w.time
    within x y w p q =
        record {
          not-before = λ e. not_ended o p (subst (λ (i : ℕ). EndedBefore l w.time i) (sym x.of-time) e);
          not_after = λ e. not_ended o q (subst (λ (i : ℕ). EndedBefore l i w.time) (sym y.of-time) e);
        }

    -- Of two reads, of which t stands ahead of u, both told the same, or u told what an operation wrote that stands between them.
    same_or_between : {t u : ℕ} {a b : A} (r : Reads t a) (q : Reads u b) → Before (place r).op (place q).op o.order
        → (a ≡ b) ⊎ ((x : ℕ) × look.Written x b × Within l t u x)
    unfolding Begun
    same_or_between {t} {u} {a} {b} r q p =
        let w = from_behind o.order P.zeros x.op y.op o.right o.begun look.fresh p in
        go w.0 w.1 w.2
      where
        x : Finished o t r.kind
        x = place r

        y : Finished o u q.kind
        y = place q

        go : (m : Met x.op) (n : Met y.op)
            → (seen_in n ≡ look.part (P.effect x.op.kind m.stripe))
            ⊎ ((w : Operation P) × Before x.op w o.order × Before w y.op o.order × look.Written w.time (seen_in n))
            → (a ≡ b) ⊎ ((x : ℕ) × look.Written x b × Within l t u x)
        go m n (inl e) = inl (sym (left r x.op x.of-time x.of-kind m) ∙ sym e ∙ told q y.op y.of-time y.of-kind n)
        go m n (inr (w, c, d, k)) =
            inr (w.time, subst (look.Written w.time) (told q y.op y.of-time y.of-kind n) k, within x y w c d)

    ahead : {t u : ℕ} {j k : P.Kind} (x : Finished o t j) (y : Finished o u k) → EndedBefore l t u → Before x.op y.op o.order
    ahead {t} x y e =
        ahead_of o x.op y.op x.stands y.stands
        (subst (λ (c : ℕ). EndedBefore l c y.op.time) (sym x.of-time) (subst (λ (c : ℕ). EndedBefore l t c) (sym y.of-time) e))

    -- Of two reads, of which t ended before u began, both told the same, or u told what an operation wrote that neither ended before t began
    -- nor began after u ended.
    pub same_or_written : (t u : ℕ) (a b : A) → Reads t a → Reads u b → EndedBefore l t u
        → (a ≡ b) ⊎ ((x : ℕ) × look.Written x b × Within l t u x)
    same_or_written t u a b r q e = same_or_between r q (ahead (place r) (place q) e)

    -- What was written by one operation alone, which ended before a read that told something else, no later read tells.
    pub stays_away : (w t u : ℕ) (v a b : A) → ((x : ℕ) → look.Written x v → x ≡ w) → EndedBefore l w t → EndedBefore l t u
        → Reads t a → Reads u b → a ≢ v → b ≢ v
    stays_away w t u v a b only e d r q f g = go (same_or_written t u a b r q d)
      where
        go : (a ≡ b) ⊎ ((x : ℕ) × look.Written x b × Within l t u x) → ⊥
        go (inl p) = f (p ∙ g)
        go (inr (x, k, h)) = h.not-before (subst (λ (y : ℕ). EndedBefore l y t) (sym (only x (subst (look.Written x) g k))) e)

    -- A later read that told something else told what another operation wrote, one within the time of the two reads.
    pub until_another : (w t u : ℕ) (v b : A) → EndedBefore l w t → EndedBefore l t u → Reads t v → Reads u b → b ≢ v
        → (x : ℕ) × (x ≢ w) × look.Written x b × Within l t u x
    until_another w t u v b e d r q f = go (same_or_written t u v b r q d)
      where
        go : (v ≡ b) ⊎ ((x : ℕ) × look.Written x b × Within l t u x) → (x : ℕ) × (x ≢ w) × look.Written x b × Within l t u x
        go (inl p) = absurd (f (sym p))
        go (inr (x, k, h)) = (x, (λ p. h.not-before (subst (λ (y : ℕ). EndedBefore l y t) (sym p) e)), k, h)

    -- Two reads told the same if all that was written there was by operations that had ended before both began, by answer, abort or cut,
    -- or began after both had ended.
    pub reads_agree : (t u : ℕ) (a b : A) → Reads t a → Reads u b
        → ((w : ℕ) (v : A) → look.Written w v → (EndedBefore l w t × EndedBefore l w u) ⊎ (EndedBefore l t w × EndedBefore l u w))
        → a ≡ b
    unfolding Begun
    reads_agree t u a b r q f = go (placed o.order x.stands y.stands)
      where
        x : Finished o t r.kind
        x = place r

        y : Finished o u q.kind
        y = place q

        first-none : (a ≡ b) ⊎ ((w : ℕ) × look.Written w b × Within l t u w) → a ≡ b
        first-none (inl e) = e
        first-none (inr (w, k, h)) = apart (f w b k)
          where
            apart : (EndedBefore l w t × EndedBefore l w u) ⊎ (EndedBefore l t w × EndedBefore l u w) → a ≡ b
            apart (inl e) = absurd (h.not-before e.0)
            apart (inr e) = absurd (h.not_after e.1)

        second_none : (b ≡ a) ⊎ ((w : ℕ) × look.Written w a × Within l u t w) → a ≡ b
        second_none (inl e) = sym e
        second_none (inr (w, k, h)) = apart (f w a k)
          where
            apart : (EndedBefore l w t × EndedBefore l w u) ⊎ (EndedBefore l t w × EndedBefore l u w) → a ≡ b
            apart (inl e) = absurd (h.not-before e.1)
            apart (inr e) = absurd (h.not_after e.0)

        go : Placed x.op y.op o.order → a ≡ b
        go (same e) =
            let m = (from_first o.order P.zeros x.op o.right o.begun look.fresh x.stands).0 in
            sym (told r x.op x.of-time x.of-kind m)
            ∙ told q x.op (ap (λ (z : Operation P). z.time) e ∙ y.of-time) (ap (λ (z : Operation P). z.kind) e ∙ y.of-kind) m
        go (first p) = first-none (same_or_between r q p)
        go (second p) = second_none (same_or_between q r p)

    -- A read that began after a finished operation that sets v told v, if all else was written there by operations that had ended before
    -- that one began, or began after the read ended.
    pub written_is_read : (w t : ℕ) (k : P.Kind) (c : P.Given) (v a : A)
        → ((s : P.Stripe) → look.Fits s → look.part (P.effect k s) ≡ v)
        → Seen.began w k ∈ l → Seen.ended w (finished c) ∈ l → Reads t a → EndedBefore l w t
        → ((x : ℕ) (d : A) → look.Written x d → x ≢ w → EndedBefore l x w ⊎ EndedBefore l t x)
        → a ≡ v
    unfolding Begun
    written_is_read w t k c v a sets b m r e f =
        let p = ahead x y e in
        let z = from_behind o.order P.zeros x.op y.op o.right o.begun look.fresh p in
        sym (told r y.op y.of-time y.of-kind z.1) ∙ go z.0 z.1 z.2
      where
        x : Finished o w k
        x = finished_at o w c k m b

        y : Finished o t r.kind
        y = place r

        go : (m : Met x.op) (n : Met y.op)
            → (seen_in n ≡ look.part (P.effect x.op.kind m.stripe))
            ⊎ ((u : Operation P) × Before x.op u o.order × Before u y.op o.order × look.Written u.time (seen_in n))
            → seen_in n ≡ v
        go m n (inl d) = d ∙ ap (λ (j : P.Kind). look.part (P.effect j m.stripe)) x.of-kind ∙ sets m.stripe m.fits
        go m n (inr (u, p, q, i)) =
            apart (f u.time (seen_in n) i (λ d. other_time_lem o.order o.once p (x.of-time ∙ sym d)))
          where
            h : Within l w t u.time
            h = within x y u p q

            apart : EndedBefore l u.time w ⊎ EndedBefore l t u.time → seen_in n ≡ v
            apart (inl d) = absurd (h.not-before d)
            apart (inr d) = absurd (h.not_after d)
