-- The block that an entry of the working log means: turn by turn, and in the image.
use mathlib.Core.Path.{◌≡◌, refl, sym, ap, ◌∙◌}
use mathlib.Core.Bool.{Bool, true, false}
use mathlib.Core.List.{List}
use Prim.Native.Nat.{ℕ, zero, suc, ◌+◌, ◌-◌, ◌≤◌, ◌<◌}
use native.Mathlib.Omega.{arith}
use lib.ListN.{get_or}
use borrow.Author.Tests.{eq-eqb, ne_eqb}
use Rattle.settings.specs.declared.Settings.{Settings}
use Rattle.settings.specs.Ranges.{max_capacity}
use Rattle.image.specs.Brick.{Brick, entry_count, means_at, mark_at}
use Rattle.image.specs.Parse.{image_block_at, held_in, mark_in, count_in}
use Rattle.image.specs.Opening.{place_in, holding_for, holder_of, blank, working_log}
use Rattle.image.specs.Workers.{ImageOpened}
use Rattle.image.specs.declared.Entry.{Entry}
use Rattle.image.proofs.Laws.HubLaws.{log_at}
use Rattle.image.proofs.Laws.ParseLaws.{count_in_lem}
use Rattle.image.proofs.Laws.FieldTestLaws.{held_in_lem, mark_in_lem, holder_own}

-- it is here,
own_place : (log : List Entry) (k : ℕ) → (place_in (get_or log k blank).holding ≡ 0 → ⊥) → holder_of log k ≡ place_in (get_or log k blank).holding
unfolding holder_of
own_place log zero n = refl
own_place log (suc j) n = rw (ne_eqb (place_in (get_or log (suc j) blank).holding) 0 n) refl

-- or that of the entry below,
pub holder_down : (log : List Entry) (k : ℕ) → 0 < k → place_in (get_or log k blank).holding ≡ 0 → holder_of log k ≡ holder_of log (k - 1)
unfolding holder_of
holder_down log zero h e = absurd (omega arith)
holder_down log (suc j) h e =
    let m : j ≡ suc j - 1 = omega arith in
    rw (eq-eqb (place_in (get_or log (suc j) blank).holding) 0 e) (ap (holder_of log) m)

-- the entry looked at has its own,
pub holder_here : (log : List Entry) (i k place : ℕ) → place ≡ place_in (get_or log k blank).holding → (place ≡ 0 → ⊥)
    → holder_of log k ≡ holder_of log i → place ≡ holder_of log i
holder_here log i k place p n w = p ∙ sym (own_place log k (λ z. n (p ∙ z))) ∙ w

-- or the search goes on below it,
pub holder_next : (log : List Entry) (i k place : ℕ) → 0 < k → place ≡ place_in (get_or log k blank).holding → place ≡ 0
    → holder_of log k ≡ holder_of log i → holder_of log (k - 1) ≡ holder_of log i
holder_next log i k place h p z w = sym (holder_down log k h (sym p ∙ z)) ∙ w

-- down to the lowest
pub holder_lowest : (log : List Entry) (i k place : ℕ) → k ≤ 0 → place ≡ place_in (get_or log 0 blank).holding → holder_of log k ≡ holder_of log i
    → place ≡ holder_of log i
unfolding holder_of
holder_lowest log i k place h p w = let e : 0 ≡ k = omega arith in p ∙ ap (holder_of log) e ∙ w

-- In an image that opens it is the block that the entry means, one of the blocks of entries up to its own.
pub record Meant (s : Settings) (l : List ℕ) (x : Brick) (i : ℕ) : Type 0 where
  pub low : 1 ≤ holder_of (working_log x) i
  pub high : holder_of (working_log x) i ≤ i + 1
  pub means : held_in s.size (image_block_at l (holder_of (working_log x) i)) ≡ means_at x i
  pub own : holder_of (working_log x) i ≡ i + 1 → mark_at x i ≡ false

module _ (s : Settings) (brick : ℕ) (l : List ℕ) (x : Brick) (o : ImageOpened s brick l x) where
  few : entry_count x ≤ max_capacity
  few = omega (arith, o.keeps.count-high, o.range.capacity-high)

  at : (i : ℕ) → i < entry_count x → place_in (get_or (working_log x) i blank).holding ≡ place_in (holding_for (mark_at x i) i)
  at i h = ap (λ (e : Entry). place_in e.holding) (log_at x i blank h few)

  -- an entry with a block
  pub holder_of_held : (i : ℕ) → i < entry_count x → mark_at x i ≡ false → holder_of (working_log x) i ≡ i + 1
  unfolding place_in holding_for
  holder_of_held i h e =
      let p : place_in (get_or (working_log x) i blank).holding ≡ i + 1 = at i h ∙ rw e refl in
      own_place (working_log x) i (λ z. omega (arith, p, z)) ∙ p

  -- a mark means what the entry below it means
  pub holder_of_mark : (i : ℕ) → suc i < entry_count x → mark_at x (suc i) ≡ true → holder_of (working_log x) (suc i) ≡ holder_of (working_log x) i
  unfolding place_in holding_for
  holder_of_mark i h e =
      let m : suc i - 1 ≡ i = omega arith in
      let p : place_in (get_or (working_log x) (suc i) blank).holding ≡ 0 = at (suc i) h ∙ rw e refl in
      holder_down (working_log x) (suc i) (omega arith) p ∙ ap (holder_of (working_log x)) m

  means_here : (i : ℕ) → i < entry_count x → mark_at x i ≡ false → held_in s.size (image_block_at l (i + 1)) ≡ means_at x i
  means_here i h e =
      let c : i < count_in (image_block_at l 0) = omega (arith, h, ap entry_count o.is_read, count_in_lem s l) in
      let m : mark_in (image_block_at l (i + 1)) ≡ false = sym (mark_in_lem s l i c) ∙ ap (λ (y : Brick). mark_at y i) (sym o.is_read) ∙ e in
      sym
      (ap (λ (y : Brick). means_at y i) o.is_read ∙ held_in_lem s l i c
      ∙ ap (λ (k : ℕ). held_in s.size (image_block_at l k)) (holder_own l i m))

  meant_here : (i : ℕ) → i < entry_count x → mark_at x i ≡ false → Meant s l x i
  meant_here i h e =
      let p = holder_of_held i h e in
      record {
        low = omega (arith, p);
        high = omega (arith, p);
        means = ap (λ (k : ℕ). held_in s.size (image_block_at l k)) p ∙ means_here i h e;
        own = λ z. e;
      }

  pub meant : (i : ℕ) → i < entry_count x → Meant s l x i
  meant zero h = go (mark_at x zero) refl
    where
      go : (b : Bool) → mark_at x zero ≡ b → Meant s l x zero
      go false e = meant_here zero h e
      go true e = absurd (omega (arith, ((o.keeps.entries zero h).marked e).0))
  meant (suc i) h = go (mark_at x (suc i)) refl (meant i (omega arith))
    where
      go : (b : Bool) → mark_at x (suc i) ≡ b → Meant s l x i → Meant s l x (suc i)
      go false e ih = meant_here (suc i) h e
      go true e ih =
          let m : suc i - 1 ≡ i = omega arith in
          let d = holder_of_mark i h e in
          record {
            low = omega (arith, d, ih.low);
            high = omega (arith, d, ih.high);
            means = ap (λ (k : ℕ). held_in s.size (image_block_at l k)) d ∙ ih.means
                ∙ sym (((o.keeps.entries (suc i) h).marked e).1 ∙ ap (means_at x) m);
            own = λ z. absurd (omega (arith, d, ih.high, z));
          }
