-- A product by the bits of the right factor.
use mathlib.Core.Path.{◌≡◌, refl, sym, ap, ap₂, ◌∙◌}
use Prim.Native.Nat.{ℕ, zero, suc, ◌*◌, ◌/◌, ◌%◌, ◌<◌}
use native.Mathlib.Nat.{zero-mul, one-mul, mod-lt}
use native.Mathlib.Omega.{arith}
use mathlib.Core.List.{List, [], ◌∷◌}
use lib.ListN.{get_or}
use Rattle.gf256.specs.Tables.{doublings}
use Rattle.gf256.specs.Product.{plus, twice, shift_add, product}
use Rattle.gf256.proofs.Laws.XorLaws.{plus_zero}
use Rattle.gf256.proofs.Laws.ProductLaws.{product_twice}

-- a bit times a byte is a byte
pub bit_fits : (y w : ℕ) → w < 256 → y % 2 * w < 256
bit_fits y w h = go (y % 2) (mod-lt y (omega arith))
  where
    go : (x : ℕ) → x < 2 → x * w < 256
    go zero l = rw (zero-mul w) (omega arith)
    go (suc zero) l = rw (one-mul w) h
    go (suc (suc x)) l = absurd (omega arith)

last_bit : (w y : ℕ) → y % 2 * w ≡ shift_add 1 w y
unfolding shift_add
last_bit w y = sym (plus_zero (y % 2 * w))

more_bits : (k w w' y y' rest : ℕ) → w' ≡ twice w → y / 2 ≡ y' → rest ≡ shift_add k w' y' → plus (y % 2 * w) rest ≡ shift_add (suc k) w y
unfolding shift_add
more_bits k w w' y y' rest e f g = ap (λ (x : ℕ). plus (y % 2 * w) x) (g ∙ ap₂ (λ (a b : ℕ). shift_add k a b) e (sym f))

by_bits : (w0 w1 w2 w3 w4 w5 w6 w7 x : ℕ)
    → w1 ≡ twice w0 → w2 ≡ twice w1 → w3 ≡ twice w2 → w4 ≡ twice w3 → w5 ≡ twice w4 → w6 ≡ twice w5 → w7 ≡ twice w6
    → plus (x % 2 * w0) (plus (x / 2 % 2 * w1) (plus (x / 4 % 2 * w2) (plus (x / 8 % 2 * w3)
    (plus (x / 16 % 2 * w4) (plus (x / 32 % 2 * w5) (plus (x / 64 % 2 * w6) (x / 128 % 2 * w7))))))) ≡ product w0 x
unfolding product
by_bits w0 w1 w2 w3 w4 w5 w6 w7 x e1 e2 e3 e4 e5 e6 e7 =
    more_bits 7 w0 w1 x (x / 2) _ e1 refl
    (more_bits 6 w1 w2 (x / 2) (x / 4) _ e2 (omega arith)
    (more_bits 5 w2 w3 (x / 4) (x / 8) _ e3 (omega arith)
    (more_bits 4 w3 w4 (x / 8) (x / 16) _ e4 (omega arith)
    (more_bits 3 w4 w5 (x / 16) (x / 32) _ e5 (omega arith)
    (more_bits 2 w5 w6 (x / 32) (x / 64) _ e6 (omega arith)
    (more_bits 1 w6 w7 (x / 64) (x / 128) _ e7 (omega arith)
    (last_bit w7 (x / 128))))))))

-- a product with the double of p is the double of that with p
pub doubles : (p q a w r : ℕ) → twice p ≡ q → p < 256 → a < 256 → w ≡ product a p → r ≡ product a q → r ≡ twice w
doubles p q a w r t hp ha e f = f ∙ ap (product a) (sym t) ∙ product_twice a p ha hp ∙ ap twice (sym e)

-- the list of a byte's doublings, one by one
pub doublings_are : (w0 w1 w2 w3 w4 w5 w6 w7 : ℕ)
    → w1 ≡ twice w0 → w2 ≡ twice w1 → w3 ≡ twice w2 → w4 ≡ twice w3 → w5 ≡ twice w4 → w6 ≡ twice w5 → w7 ≡ twice w6
    → w0 ∷ w1 ∷ w2 ∷ w3 ∷ w4 ∷ w5 ∷ w6 ∷ w7 ∷ [] ≡ doublings 8 w0
unfolding doublings
doublings_are w0 w1 w2 w3 w4 w5 w6 w7 e1 e2 e3 e4 e5 e6 e7 = cc

-- a product by the bits of the right factor, from that list
pub by_doublings : (w x : ℕ) (l : List ℕ) → l ≡ doublings 8 w
    → plus (x % 2 * get_or l 0 0) (plus (x / 2 % 2 * get_or l 1 0) (plus (x / 4 % 2 * get_or l 2 0) (plus (x / 8 % 2 * get_or l 3 0)
    (plus (x / 16 % 2 * get_or l 4 0) (plus (x / 32 % 2 * get_or l 5 0) (plus (x / 64 % 2 * get_or l 6 0) (x / 128 % 2 * get_or l 7 0))))))) ≡ product w x
unfolding doublings
by_doublings w x l e = rw e (by_bits w _ _ _ _ _ _ _ x refl refl refl refl refl refl refl)
