-- For a player of runs: which item an arrival takes, and which items a coordinator's broadcasts add.
use mathlib.Core.Path.{◌≡◌, refl, sym, ap, ◌∙◌}
use mathlib.Core.List.{List, [], ◌∷◌, ◌++◌}
use Prim.Native.Nat.{ℕ, zero, suc, ◌+◌, ◌*◌, ◌≤◌, ◌<◌}
use native.Mathlib.Omega.{arith}
use native.Mathlib.Decide.{dec_lt}
use native.Mathlib.Nat.{suc-mul, mul-le-mul_right}
use lib.ListN.{length, length-append}
use Rattle.message.specs.Kinds.{modify_kind}
use Rattle.message.specs.declared.Message.{Message}
use Rattle.register.specs.Runs.{Item, World, arriving, arriving_at}
use Rattle.settings.specs.declared.Settings.{Settings}
use Rattle.bench_sent.specs.Sent.{item_at, items_of}
use Rattle.bench_sent.specs.Workers.{Coded}

-- k rows stand for k items
pub items_length : (size : ℕ) (numbers bytes : List ℕ) (k : ℕ) → length (items_of size numbers bytes k) ≡ k
unfolding items_of
items_length size numbers bytes zero = refl
items_length size numbers bytes (suc k) =
    let h = items_length size numbers bytes k in
    length-append (items_of size numbers bytes k) (item_at size numbers bytes k ∷ []) ∙ (let e : length (items_of size numbers bytes k) + 1 ≡ suc k = omega arith in e)

module _ (s : Settings) (w : World) where
  at_front : (l t : List Item) (j : ℕ) → j < length l → arriving_at s w (l ++ t) j ≡ arriving_at s w l j
  unfolding arriving_at
  at_front [] t j h = absurd (omega arith)
  at_front (i ∷ l) t zero h = refl
  at_front (i ∷ l) t (suc j) h = at_front l t j (omega arith)

  at_end_lem : (l : List Item) (i : Item) (j : ℕ) → j ≡ length l → arriving_at s w (l ++ i ∷ []) j ≡ arriving s w i
  unfolding arriving_at
  at_end_lem [] i zero h = refl
  at_end_lem [] i (suc j) h = absurd (omega arith)
  at_end_lem (x ∷ l) i zero h = absurd (omega arith)
  at_end_lem (x ∷ l) i (suc j) h = at_end_lem l i j (omega arith)

  -- an arrival takes the item of its row, and one past the rows nothing
  pub arrives_item : (size : ℕ) (numbers bytes : List ℕ) (k j : ℕ) → j < k
      → arriving_at s w (items_of size numbers bytes k) j ≡ arriving s w (item_at size numbers bytes j)
  unfolding items_of
  arrives_item size numbers bytes zero j h = absurd (omega arith)
  arrives_item size numbers bytes (suc k) j h = go (dec_lt j k) (arrives_item size numbers bytes k j)
    where
      l : List Item
      l = items_of size numbers bytes k

      n : length l ≡ k
      n = items_length size numbers bytes k

      go : Dec (j < k) → (j < k → arriving_at s w l j ≡ arriving s w (item_at size numbers bytes j))
          → arriving_at s w (l ++ item_at size numbers bytes k ∷ []) j ≡ arriving s w (item_at size numbers bytes j)
      go (yes a) f = at_front l (item_at size numbers bytes k ∷ []) j (omega (arith, n)) ∙ f a
      go (no a) f =
          let e : j ≡ k = omega arith in
          at_end_lem l (item_at size numbers bytes k) j (omega (arith, n)) ∙ ap (λ (x : ℕ). arriving s w (item_at size numbers bytes x)) (sym e)

-- buffers that are long enough: for n blocks, and for m with the one that Modify names among them
pub coded_long : (n m size : ℕ) (msg : Message) (blocks stripe coded : List ℕ) → m * size ≤ length blocks → m * size ≤ length stripe → n * size ≤ length coded
    → (msg.kind ≡ modify_kind → msg.block < m) → Coded n size msg blocks stripe coded
coded_long n m size msg blocks stripe coded hb hs hc low =
    record {
      enough = λ e. hc;
      new-there = λ e. (let q = mul-le-mul_right size (low e) in let p = suc-mul msg.block size in omega arith);
      old-there = λ e. (let q = mul-le-mul_right size (low e) in let p = suc-mul msg.block size in omega arith);
    }
