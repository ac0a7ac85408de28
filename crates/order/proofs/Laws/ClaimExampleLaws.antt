-- Laws of `specs/ClaimExample`.
use mathlib.Core.Path.{◌≡◌, refl, ap, subst}
use mathlib.Core.Logic.{◌⊎◌, inl, inr}
use mathlib.Core.List.Memᴰ
use mathlib.Core.List.{List, [], ◌∷◌}
use Prim.Native.Nat.{ℕ}
use native.Mathlib.Omega.{arith}
use Rattle.order.specs.Claim.{Ending, read, bytes, changed, given, finished, Seen, Operation, ◌∈◌, Before, here, later, Once, Right}
use Rattle.order.specs.BenchExample.{one_byte, nought, ten}
use Rattle.order.specs.ClaimExample.{turned_up, TurnedUpHasNoOrder}

Begun : Operation one_byte → Type 0
Begun o = Seen.began o.time o.kind ∈ turned_up

-- all but 16 are reads
reads : (o : Operation one_byte) → Begun o → (o.time ≡ 16) ⊎ (o.kind ≡ read)
unfolding Begun
reads o (Memᴰ.head e) = inl (cc)
reads o (Memᴰ.tail (Memᴰ.head e)) = inl (cc)
reads o (Memᴰ.tail (Memᴰ.tail (Memᴰ.head e))) = inr (cc)
reads o (Memᴰ.tail (Memᴰ.tail (Memᴰ.tail (Memᴰ.head e)))) = inl (cc)
reads o (Memᴰ.tail (Memᴰ.tail (Memᴰ.tail (Memᴰ.tail (Memᴰ.head e))))) = inr (cc)
reads o (Memᴰ.tail (Memᴰ.tail (Memᴰ.tail (Memᴰ.tail (Memᴰ.tail (Memᴰ.head e)))))) = inl (cc)
reads o (Memᴰ.tail (Memᴰ.tail (Memᴰ.tail (Memᴰ.tail (Memᴰ.tail (Memᴰ.tail i)))))) = absurd (Memᴰ.not-nil i)

read_of : (o : Operation one_byte) → Begun o → (o.time ≡ 16 → ⊥) → o.kind ≡ read
read_of o b f = go (reads o b)
  where
    go : (o.time ≡ 16) ⊎ (o.kind ≡ read) → o.kind ≡ read
    go (inl e) = absurd (f e)
    go (inr e) = e

-- after the first read only reads follow, so the stripe stays zeros and the second read cannot have given the write
after_first : (os : List (Operation one_byte)) (b : Operation one_byte) → Right turned_up nought os → b ∈ os → b.time ≡ 49
    → ((o : Operation one_byte) → o ∈ os → o.kind ≡ read) → ⊥
unfolding Right changed given
after_first [] b r i t k = Memᴰ.not-nil i
after_first (x ∷ os) b r (Memᴰ.head e) t k =
    let q = k x (Memᴰ.head refl) in
    let at : ◌≡◌ {A = Seen one_byte} (Seen.ended x.time (finished (bytes ten))) (Seen.ended 49 (finished (bytes ten))) = cc in
    let g = r.0 (bytes ten) (Memᴰ.tail (Memᴰ.tail (Memᴰ.tail (Memᴰ.tail (Memᴰ.tail (Memᴰ.head at)))))) in
    let z : ◌≡◌ {A = ℕ} 10 0 = cc in
    omega arith
after_first (x ∷ os) b r (Memᴰ.tail i) t k =
    let q = k x (Memᴰ.head refl) in
    after_first os b (subst (λ (z : one_byte.Kind). Right turned_up (changed z nought) os) q r.1) i t (λ o j. k o (Memᴰ.tail j))

-- no order has both reads: 16 stands before the first or nowhere
no_order : (os : List (Operation one_byte)) (a b : Operation one_byte) (s : List ℕ)
    → Before a b os
    → a.time ≡ 33
    → b.time ≡ 49
    → Right turned_up s os
    → Once os
    → ((o : Operation one_byte) → o ∈ os → Begun o)
    → ((o : Operation one_byte) → o ∈ os → o.time ≡ 16 → Before o a os)
    → ⊥
unfolding Right Once given changed
no_order [] a b s i p q r u g f = elim i [ ]
no_order (x ∷ os) a b s (here e i) p q r u g f =
    let kx = read_of x (g x (Memᴰ.head refl)) (λ t. let z : ◌≡◌ {A = ℕ} 16 33 = cc in omega arith) in
    let at : ◌≡◌ {A = Seen one_byte} (Seen.ended x.time (finished (bytes nought))) (Seen.ended 33 (finished (bytes nought))) = cc in
    let c = r.0 (bytes nought) (Memᴰ.tail (Memᴰ.tail (Memᴰ.tail (Memᴰ.head at)))) in
    let z : changed x.kind s ≡ nought = cc in
    after_first os b (subst (λ (w : List ℕ). Right turned_up w os) z r.1) i q
    (λ o j. read_of o (g o (Memᴰ.tail j)) (λ t. late o j t (f o (Memᴰ.tail j) t)))
  where
    late : (o : Operation one_byte) → o ∈ os → o.time ≡ 16 → Before o a (x ∷ os) → ⊥
    late o j t (here d m) = u.0 o j (cc)
    late o j t (later m) = u.0 a (second m) (cc)
      where
        second : {l : List (Operation one_byte)} → Before o a l → a ∈ l
        second (here _ n) = Memᴰ.tail n
        second (later n) = Memᴰ.tail (second n)
no_order (x ∷ os) a b s (later m) p q r u g f =
    no_order os a b (changed x.kind s) m p q r.1 u.1 (λ o j. g o (Memᴰ.tail j)) (λ o j t. down o j (f o (Memᴰ.tail j) t))
  where
    down : (o : Operation one_byte) → o ∈ os → Before o a (x ∷ os) → Before o a os
    down o j (here d n) = absurd (u.0 o j (cc))
    down o j (later n) = n

pub turned_up_has_no_order : TurnedUpHasNoOrder
unfolding Begun
turned_up_has_no_order w =
    let a = w.all 33 (bytes nought) (Memᴰ.tail (Memᴰ.tail (Memᴰ.tail (Memᴰ.head refl)))) in
    let b = w.all 49 (bytes ten) (Memᴰ.tail (Memᴰ.tail (Memᴰ.tail (Memᴰ.tail (Memᴰ.tail (Memᴰ.head refl)))))) in
    no_order w.order a.0 b.0 nought
    (w.ahead a.0 b.0 (finished (bytes nought)) read a.2 b.2 (first a.0 b.0 a.1 b.1))
    a.1
    b.1
    w.right
    w.once
    w.begun
    (λ o i t. w.ahead o a.0 Ending.cut read i a.2 (write-first o a.0 t a.1))
  where
    first : (x y : Operation one_byte) → x.time ≡ 33 → y.time ≡ 49
        → Before (Seen.ended x.time (finished (bytes nought))) (Seen.began y.time read) turned_up
    first x y p q = later (later (later (here (ap (λ (t : ℕ). Seen.ended t (finished (bytes nought))) p) (Memᴰ.head (ap (λ (t : ℕ). Seen.began t read) q)))))

    write-first : (x y : Operation one_byte) → x.time ≡ 16 → y.time ≡ 33
        → Before (Seen.ended x.time Ending.cut) (Seen.began y.time read) turned_up
    write-first x y p q = later (here (ap (λ (t : ℕ). Seen.ended t Ending.cut) p) (Memᴰ.head (ap (λ (t : ℕ). Seen.began t read) q)))
