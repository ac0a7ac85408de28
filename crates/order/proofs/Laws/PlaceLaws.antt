-- Places: an end of an end is an end, and of two places one is the earlier or they are the same.
use mathlib.Core.Path.{◌≡◌, refl, subst, sym}
use mathlib.Core.Logic.{◌⊎◌, inl, inr}
use mathlib.Core.List.{List, ◌∷◌}
use Prim.Native.Nat.{◌≤◌}
use native.Mathlib.Nat.{le_refl}
use native.Mathlib.Omega.{arith}
use lib.ListN.{length}
use Rattle.order.specs.Places.{Suf, whole, above, In}

module _ {A : Type 0} where
  pub suf_trans : {a b c : List A} → Suf a b → Suf b c → Suf a c
  suf_trans s whole = s
  suf_trans s (above t) = above (suf_trans s t)

  -- what stands below a place stands in the history
  pub suf_below : {f : A} {a h : List A} → Suf (f ∷ a) h → Suf a h
  suf_below s = suf_trans (above whole) s

  pub in_suf : {f : A} {a h : List A} → Suf a h → In f a → In f h
  in_suf s i = (i.0, suf_trans i.1 s)

  pub in_above : {f g : A} {h : List A} → In f h → In f (g ∷ h)
  in_above i = (i.0, above i.1)

  pub in_top : {f : A} {h : List A} → In f (f ∷ h)
  in_top {h} = (h, whole)

  pub suf_length : {a h : List A} → Suf a h → length a ≤ length h
  suf_length whole = le_refl _
  suf_length (above s) = omega (arith, suf_length s)

  -- the last step of a way up
  pub suf_cons : {g : A} {h a : List A} → Suf a (g ∷ h) → (a ≡ g ∷ h) ⊎ Suf a h
  suf_cons whole = inl refl
  suf_cons (above s) = inr s

  -- of two ends of one list one is an end of the other
  pub suf_either : {a b h : List A} → Suf a h → Suf b h → Suf a b ⊎ Suf b a
  suf_either whole t = inr t
  suf_either {a} {b} (above {f} {h} s) t = go (suf_cons t) (λ r. suf_either s r)
    where
      go : (b ≡ f ∷ h) ⊎ Suf b h → (Suf b h → Suf a b ⊎ Suf b a) → Suf a b ⊎ Suf b a
      go (inl e) r = inl (subst (λ (z : List A). Suf a z) (sym e) (above s))
      go (inr q) r = r q

-- how two places of one history lie
pub data Cmp {A : Type 0} (f : A) (a : List A) (g : A) (b : List A) : Type 0 where
  earlier : Suf (f ∷ a) b → Cmp f a g b
  same : f ∷ a ≡ g ∷ b → Cmp f a g b
  later : Suf (g ∷ b) a → Cmp f a g b

pub cmp : {A : Type 0} {f g : A} {a b h : List A} → Suf (f ∷ a) h → Suf (g ∷ b) h → Cmp f a g b
cmp {A} {f} {g} {a} {b} s t = go (suf_either s t)
  where
    up : (f ∷ a ≡ g ∷ b) ⊎ Suf (f ∷ a) b → Cmp f a g b
    up (inl e) = same e
    up (inr r) = earlier r

    down : (g ∷ b ≡ f ∷ a) ⊎ Suf (g ∷ b) a → Cmp f a g b
    down (inl e) = same (cc)
    down (inr r) = later r

    go : Suf (f ∷ a) (g ∷ b) ⊎ Suf (g ∷ b) (f ∷ a) → Cmp f a g b
    go (inl r) = up (suf_cons r)
    go (inr r) = down (suf_cons r)
