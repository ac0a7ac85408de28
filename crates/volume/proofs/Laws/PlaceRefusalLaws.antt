-- What a buffer of two numbers holds of a client block's place, or of its refusal.
use mathlib.Core.Path.{◌≡◌, refl, sym, ap, ◌∙◌}
use mathlib.Core.List.{List, [], ◌∷◌}
use Prim.Native.Nat.{ℕ}
use lib.ListN.{length, set}
use Rattle.byte_lists.proofs.Laws.PutLaws.{stores}
use borrow.Author.Tests.{eq-eqb}
use Rattle.settings.specs.Ranges.{settings_refusal}
use Rattle.settings.specs.Refusal.{passed, first_refusal}
use Rattle.settings.specs.declared.Settings.{Settings}
use Rattle.volume.specs.ClientPlaces.{place_of, placed_number, place_with, buffer_refusal, placed_buffer}
use Rattle.volume.specs.ClientPlaces.{place_given, place_length}
use Rattle.volume.specs.ClientPlaces.{Placed}
use Rattle.volume.specs.ClientPlaces.{At, Refused}

-- two stores fill a buffer of two
two : (l : List ℕ) (a b : ℕ) → length l ≡ place_length → set (set l 0 a) 1 b ≡ a ∷ b ∷ []
two l a b h = stores (a ∷ b ∷ []) l h

-- From C: a buffer of two numbers.
module _ (s : Settings) (v k : ℕ) (old : List ℕ) (e : k ≡ settings_refusal s) where
  module _ (z : k ≡ 0) (l : length old ≡ place_length) (p : Placed) (ep : p ≡ place_of s v) where
    -- what the place's own answer gives
    given_by_lem : place_with (placed_number p) (placed_buffer p old) ≡ place_given s v old
    unfolding place_given buffer_refusal first_refusal
    given_by_lem =
        ap (λ (a : Placed). place_with (placed_number a) (placed_buffer a old)) ep
        ∙ sym (rw (sym e ∙ z, eq-eqb (length old) place_length l) refl)

    pub given_at : (stripe block : ℕ) → p ≡ At stripe block → place_with passed (set (set old 0 stripe) 1 block) ≡ place_given s v old
    unfolding placed_number placed_buffer
    given_at stripe block q =
        ap (place_with passed) (two old stripe block l) ∙ ap (λ (a : Placed). place_with (placed_number a) (placed_buffer a old)) (sym q) ∙ given_by_lem

    pub given_refused : (number : ℕ) → p ≡ Refused number → place_with number old ≡ place_given s v old
    unfolding placed_number placed_buffer
    given_refused number q = ap (λ (a : Placed). place_with (placed_number a) (placed_buffer a old)) (sym q) ∙ given_by_lem
