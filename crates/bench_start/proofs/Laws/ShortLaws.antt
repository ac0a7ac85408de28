-- The digits of a write.
use mathlib.Core.Path.{◌≡◌, ap, ◌∙◌}
use mathlib.Core.Bool.{Bool, cond}
use mathlib.Core.List.{List}
use Prim.Native.Nat.{ℕ, ◌*◌}
use lib.Dec.{eqb}
use lib.ListN.{length, replicate, length-replicate}
use Rattle.settings.specs.declared.Settings.{Settings}
use Rattle.bench_parse.specs.Lines.{bytes_of}
use Rattle.bench_rules.specs.Content.{counted, content}

pub content_long : (k : ℕ) (cont : List ℕ) → cont ≡ replicate k 0 → length cont ≡ k
content_long k cont e = ap length e ∙ length-replicate k 0

-- the buffer of zeros, after the digits were read into it
module _ (s : Settings) (digits cont cont' : List ℕ) (ok : Bool) (ez : cont ≡ replicate (s.m * s.size) 0) (eo : ok ≡ eqb (length digits) (2 * length cont)) where
  pub count_is : ok ≡ counted s digits
  unfolding counted
  count_is = eo ∙ ap (λ (k : ℕ). eqb (length digits) (2 * k)) (content_long (s.m * s.size) cont ez)

  pub content_is : cont' ≡ cond ok (bytes_of digits) cont → cont' ≡ content s digits
  unfolding content
  content_is e =
      e ∙ ap (λ (b : Bool). cond b (bytes_of digits) cont) count_is ∙ ap (λ (z : List ℕ). cond (counted s digits) (bytes_of digits) z) ez

-- what holds of a list holds of one that is the same
pub at_same : {R : Type 0} (g : List ℕ → List ℕ → List ℕ → R) (f : List ℕ → List ℕ → R) (s t : List ℕ) → t ≡ s → ((x z : List ℕ) → g x s z ≡ f x z)
    → (x z : List ℕ) → g x t z ≡ f x z
at_same g f s t e h x z = ap (λ (y : List ℕ). g x y z) e ∙ h x z
