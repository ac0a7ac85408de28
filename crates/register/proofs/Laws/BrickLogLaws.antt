-- One message at one brick: the history grows by one fact at most, and what holds of the brick and of its reply.
use mathlib.Core.Path.{◌≡◌, refl, sym, ap, subst, ◌∙◌}
use mathlib.Core.Logic.{◌⊎◌, inl, inr}
use mathlib.Core.Bool.{Bool, true, false, cond}
use mathlib.Core.List.{List, ◌∷◌, append-nil}
use Prim.Native.Nat.{ℕ, zero, suc, ◌+◌, ◌-◌, ◌≤◌, ◌<◌}
use native.Mathlib.Omega.{arith}
use native.Mathlib.Decide.{ℕ_discrete, dec_lt}
use lib.Dec.{ltb}
use borrow.Author.Tests.{ltb-true, ltb-false, leb-true}
use Rattle.settings.specs.Ranges.{SettingsRange}
use Rattle.settings.specs.declared.Settings.{Settings}
use Rattle.image.proofs.Laws.LogPlaceLaws.{newest_at}
use Rattle.image_write.proofs.Laws.ImageStepLaws.{promised_promise, promised_count, promised_time, promised_means, appended_promise}
use Rattle.image_write.proofs.Laws.ImageStepLaws.{appended_count, appended_time_old, appended_means_old, appended_time_new, appended_means_new}
use Rattle.brick_log.proofs.Laws.DropLaws.{drop_promise, drop_keeps, drop_from}
use Rattle.brick_log.proofs.Laws.TrimLaws.{Trims, trim_places}
use Rattle.brick.proofs.Laws.BrickLaws.{by_place, order_not_below, write_ordered}
use Rattle.image.specs.Brick.{Brick, LogEntry, entry_count, time_at, means_at, newest}
use Rattle.image.specs.Brick.{Sound}
use Rattle.image_write.specs.Saving
use Rattle.brick_answer.specs.Comparisons.{not_below_promise}
use Rattle.brick_log.specs.BrickRules.{read_yes, order_yes, write_yes, trimmed_to, dropped_from, under}
use Rattle.order.specs.Facts.{Fact, promised, stored, showed, seen, shows}
use Rattle.order.specs.Places.{Suf, whole, above, In}
use Rattle.order.proofs.Laws.PlaceLaws.{in_top}
use Rattle.order.specs.Valid.{Began, Launched, Committed, Passed, Gone, OkPromised, OkStored, OkShowed, Ok, Valid, next}
use Rattle.order.proofs.Laws.FactLaws.{passed_up}
use Rattle.order.proofs.Laws.GoneLaws.{gone_up}
use Rattle.coord_apply.specs.Answers.{Buffered}
use Rattle.register.specs.Runs.{plain, Item}
use Rattle.register.proofs.Laws.Invariant.{quorums, Hist, Means, Stands, LogHas, BrickInv, CoordinatorInv}
use Rattle.register.proofs.Laws.UpLaws.{in_cons, means_up, stands_up, AtBrick, AtCoordinator, brick_up, coordinator_up}

-- The history grows by what concerns brick b alone, and nothing is seen of it.
pub record Grows (s : Settings) (g : SettingsRange s) (b : ℕ) (h h' : Hist s) : Type 0 where
  pub valid : Valid (quorums s g) h'
  pub longer : Suf h h'
  pub same_seen : seen h' ≡ seen h
  pub others : (b' : ℕ) → (b' ≡ b → ⊥) → (x : Brick) → BrickInv s g h b' x → BrickInv s g h' b' x
  pub coordinators : (sent : List Item) (c : ℕ) (k : Buffered) → CoordinatorInv s g h sent c k → CoordinatorInv s g h' sent c k

module _ (s : Settings) (g : SettingsRange s) (b : ℕ) (h : Hist s) (v : Valid (quorums s g) h) where
  pub grows_not : Grows s g b h h
  grows_not = record { valid = v; longer = whole; same_seen = refl; others = λ b' n x i. i; coordinators = λ sent c k i. i }

  grows_by : (f : Fact (plain s)) → Ok (quorums s g) f h → seen (f ∷ h) ≡ seen h → ((b' : ℕ) → AtBrick b' f → b' ≡ b)
      → ((c : ℕ) → AtCoordinator c f → ⊥) → Grows s g b h (f ∷ h)
  grows_by f o e at co =
      record {
        valid = next v o;
        longer = above whole;
        same_seen = e;
        others = λ b' n x i. brick_up (next v o) (λ a. n (at b' a)) i;
        coordinators = λ sent c k i. coordinator_up (next v o) (co c) i;
      }

  pub grows_promised : (t : ℕ) → OkPromised h b t → Grows s g b h (promised b t ∷ h)
  unfolding seen shows
  grows_promised t o = grows_by (promised b t) o (append-nil (seen h)) (λ b' a. a) (λ c a. a)

  pub grows_stored : (t : ℕ) → OkStored h b t → Grows s g b h (stored b t ∷ h)
  unfolding seen shows
  grows_stored t o = grows_by (stored b t) o (append-nil (seen h)) (λ b' a. a) (λ c a. a)

  pub grows_showed : (t c : ℕ) → OkShowed h b t c → Grows s g b h (showed b t c ∷ h)
  unfolding seen shows
  grows_showed t c o = grows_by (showed b t c) o (append-nil (seen h)) (λ b' a. absurd a) (λ d a. a)

pub read_settled : (x : Brick) → read_yes x ≡ true → x.promise ≤ newest x
unfolding read_yes not_below_promise
read_settled x e = leb-true x.promise (newest x) e

-- what holds of a time and a block holds of their equals
pub carried : {s : Settings} {h : Hist s} {b t t' : ℕ} {block block' : List ℕ} → t' ≡ t → block' ≡ block
    → Stands h b t × Means s h t b block → Stands h b t' × Means s h t' b block'
carried {s} {h} {b} {t} {t'} {block} {block'} e q w =
    subst (λ (u : ℕ). Stands h b u × Means s h u b block') (sym e) (subst (λ (c : List ℕ). Stands h b t × Means s h t b c) (sym q) w)

module _ {s : Settings} {g : SettingsRange s} {b : ℕ} {h : Hist s} {x : Brick} (i : BrickInv s g h b x) (r : Sound s x) where
  -- a yes to Order or Order-and-read
  pub ok_promised : (t : ℕ) → Began h t → order_yes x t ≡ true → OkPromised h b t
  ok_promised t k e = record { known = k; rising = λ u p. let w = i.bounded u p in omega (arith, order_not_below x t e) }

  pub brick_promised : (t : ℕ) → Valid (quorums s g) (promised b t ∷ h) → order_yes x t ≡ true → BrickInv s g (promised b t ∷ h) b (Saving.with_promise x t)
  brick_promised t v e =
      record {
        bounded = λ u p. subst (λ (k : ℕ). u ≤ k) (sym (promised_promise x t)) (bound u (in_cons p));
        entries = λ j l.
            let w = i.entries j (omega (arith, l, promised_count x t)) in
            carried (promised_time x t j) (promised_means x t j) (stands_up (above whole) w.0, means_up (above whole) w.1);
        kept = λ u w. keep u (i.kept u (before u w));
        kept-zero = fresh i.kept-zero;
      }
    where
      fresh : LogHas x 0 ⊎ Passed (quorums s g) h 0 → LogHas (Saving.with_promise x t) 0 ⊎ Passed (quorums s g) (promised b t ∷ h) 0
      fresh (inl (j, l, q)) = inl (j, omega (arith, l, promised_count x t), promised_time x t j ∙ q)
      fresh (inr w) = inr (passed_up (quorums s g) (above whole) w)

      bound : (u : ℕ) → (◌≡◌ {A = Fact (plain s)} (promised b u) (promised b t)) ⊎ In (promised b u) h → u ≤ t
      bound u (inl q) = let z : u ≡ t = cc in omega arith
      bound u (inr p) = let w = i.bounded u p in omega (arith, order_not_below x t e)

      old : (u : ℕ) → (◌≡◌ {A = Fact (plain s)} (stored b u) (promised b t)) ⊎ In (stored b u) h → Stands h b u
      old u (inl q) = let z : ◌≡◌ {A = ℕ} 0 1 = cc in absurd (omega arith)
      old u (inr p) = inr p

      before : (u : ℕ) → Stands (promised b t ∷ h) b u → Stands h b u
      before u (inl q) = inl q
      before u (inr p) = old u (in_cons p)

      keep : (u : ℕ) → LogHas x u ⊎ Gone (quorums s g) h u → LogHas (Saving.with_promise x t) u ⊎ Gone (quorums s g) (promised b t ∷ h) u
      keep u (inl (j, l, q)) = inl (j, omega (arith, l, promised_count x t), promised_time x t j ∙ q)
      keep u (inr w) = inr (gone_up v (above whole) w)

  -- a yes to Write
  pub ok_stored : (t : ℕ) → Launched h t → write_yes s x t ≡ true → OkStored h b t
  ok_stored t k e = record { known = k; allowed = λ u p. let w = i.bounded u p in omega (arith, order_not_below x t (write_ordered s x t e)) }

  pub brick_stored : (e : LogEntry) → Valid (quorums s g) (stored b e.time ∷ h) → Means s h e.time b e.block
      → BrickInv s g (stored b e.time ∷ h) b (Saving.appended x e)
  brick_stored e v means =
      record {
        bounded = λ u p. subst (λ (k : ℕ). u ≤ k) (sym (appended_promise x e)) (bound u (in_cons p));
        entries = λ j l. entry j (omega (arith, l, appended_count x e));
        kept = λ u w. stood u w;
        kept-zero = fresh i.kept-zero;
      }
    where
      fresh : LogHas x 0 ⊎ Passed (quorums s g) h 0 → LogHas (Saving.appended x e) 0 ⊎ Passed (quorums s g) (stored b e.time ∷ h) 0
      fresh (inl (j, l, q)) = inl (j, omega (arith, l, appended_count x e), appended_time_old x e j l ∙ q)
      fresh (inr w) = inr (passed_up (quorums s g) (above whole) w)

      later : Hist s
      later = stored b e.time ∷ h

      bound : (u : ℕ) → (◌≡◌ {A = Fact (plain s)} (promised b u) (stored b e.time)) ⊎ In (promised b u) h → u ≤ x.promise
      bound u (inl q) = let z : ◌≡◌ {A = ℕ} 0 1 = cc in absurd (omega arith)
      bound u (inr p) = i.bounded u p

      entry : (j : ℕ) → j < entry_count x + 1 → Stands later b (time_at (Saving.appended x e) j)
          × Means s later (time_at (Saving.appended x e) j) b (means_at (Saving.appended x e) j)
      entry = by_place (entry_count x)
          (λ j l. let w = i.entries j l in
          carried (appended_time_old x e j l) (appended_means_old x e j l) (stands_up (above whole) w.0, means_up (above whole) w.1))
          (carried (appended_time_new x e) (appended_means_new x e) (inr in_top, means_up (above whole) means))

      keep : (u : ℕ) → LogHas x u ⊎ Gone (quorums s g) h u → LogHas (Saving.appended x e) u ⊎ Gone (quorums s g) later u
      keep u (inl (j, l, q)) = inl (j, omega (arith, l, appended_count x e), appended_time_old x e j l ∙ q)
      keep u (inr w) = inr (gone_up v (above whole) w)

      one : (u : ℕ) → (◌≡◌ {A = Fact (plain s)} (stored b u) (stored b e.time)) ⊎ In (stored b u) h
          → LogHas (Saving.appended x e) u ⊎ Gone (quorums s g) later u
      one u (inl q) = let z : e.time ≡ u = cc in inl (entry_count x, omega (arith, appended_count x e), appended_time_new x e ∙ z)
      one u (inr p) = keep u (i.kept u (inr p))

      stood : (u : ℕ) → Stands later b u → LogHas (Saving.appended x e) u ⊎ Gone (quorums s g) later u
      stood u (inl q) = keep u (i.kept u (inl q))
      stood u (inr p) = one u (in_cons p)

  -- the newest entry is the brick's own, with its block
  pub newest_there : Stands h b (newest x) × Means s h (newest x) b (means_at x (entry_count x - 1))
  newest_there =
      let e = newest_at x (entry_count x - 1) refl in
      carried e refl (i.entries (entry_count x - 1) (omega (arith, r.count_low)))

  -- a yes to Read
  pub ok_showed : (t : ℕ) → Began h t → read_yes x ≡ true → OkShowed h b t (newest x)
  ok_showed t k e =
      record {
        known = k;
        has = newest_there.0;
        settled = λ u p. let q = i.bounded u p in omega (arith, read_settled x e);
      }

  -- a Trim of a committed time drops only what is gone
  pub brick_trimmed : (t : ℕ) → Committed (quorums s g) h t → BrickInv s g h b (trimmed_to x t)
  brick_trimmed t c = go (trim_places s x t r)
    where
      go : (d : ℕ) × Trims x t d → BrickInv s g h b (trimmed_to x t)
      go (d, z) =
          record {
            bounded = λ u p. subst (λ (k : ℕ). u ≤ k) (sym z.promise-is) (i.bounded u p);
            entries = λ j l. carried (z.times j) (z.means j) (i.entries (d + j) (omega (arith, l, z.count)));
            kept = λ u w. keep u (i.kept u w);
            kept-zero = fresh i.kept-zero;
          }
        where
          -- an entry stays, or was under the committed time
          stays : (u : ℕ) → LogHas x u → LogHas (trimmed_to x t) u ⊎ Passed (quorums s g) h u
          stays u (j, l, q) = by (dec_lt j d)
            where
              by : Dec (j < d) → LogHas (trimmed_to x t) u ⊎ Passed (quorums s g) h u
              by (yes a) = inr (t, omega (arith, z.cut.before j a), c)
              by (no a) =
                  let m : d + (j - d) ≡ j = omega arith in
                  inl (j - d, omega (arith, z.count, l), z.times (j - d) ∙ ap (time_at x) m ∙ q)

          keep : (u : ℕ) → LogHas x u ⊎ Gone (quorums s g) h u → LogHas (trimmed_to x t) u ⊎ Gone (quorums s g) h u
          keep u (inr w) = inr w
          keep u (inl w) = or (stays u w)
            where
              or : LogHas (trimmed_to x t) u ⊎ Passed (quorums s g) h u → LogHas (trimmed_to x t) u ⊎ Gone (quorums s g) h u
              or (inl p) = inl p
              or (inr p) = inr (inl p)

          fresh : LogHas x 0 ⊎ Passed (quorums s g) h 0 → LogHas (trimmed_to x t) 0 ⊎ Passed (quorums s g) h 0
          fresh (inl w) = stays 0 w
          fresh (inr w) = inr w

  -- a Drop of a time that is gone drops only that
  pub brick_dropped : (t : ℕ) → 0 < t → Gone (quorums s g) h t → BrickInv s g h b (dropped_from x t)
  brick_dropped t pos gone =
      record {
        bounded = λ u p. subst (λ (k : ℕ). u ≤ k) (sym (drop_promise x t)) (i.bounded u p);
        entries = λ j l. let w = drop_from x t j l in carried w.2 w.3 (i.entries w.0 w.1);
        kept = λ u w. keep u (i.kept u w);
        kept-zero = fresh i.kept-zero;
      }
    where
      stays : (u : ℕ) → (u ≡ t → ⊥) → LogHas x u → LogHas (dropped_from x t) u
      stays u n (j, l, q) = let w = drop_keeps x t j l (λ e. n (sym q ∙ e)) in (w.0, w.1, w.2 ∙ q)

      keep : (u : ℕ) → LogHas x u ⊎ Gone (quorums s g) h u → LogHas (dropped_from x t) u ⊎ Gone (quorums s g) h u
      keep u (inr w) = inr w
      keep u (inl w) = by (ℕ_discrete u t)
        where
          by : Dec (u ≡ t) → LogHas (dropped_from x t) u ⊎ Gone (quorums s g) h u
          by (yes e) = inr (subst (Gone (quorums s g) h) (sym e) gone)
          by (no n) = inl (stays u n w)

      fresh : LogHas x 0 ⊎ Passed (quorums s g) h 0 → LogHas (dropped_from x t) 0 ⊎ Passed (quorums s g) h 0
      fresh (inl w) = inl (stays 0 (λ e. omega (arith, e)) w)
      fresh (inr w) = inr w

-- What the lookup finds: nothing under max, or the highest under max.
pub data Found (x : Brick) (max n : ℕ) : ℕ → Type 0 where
  none : ((i : ℕ) → i < n → max ≤ time_at x i) → Found x max n 0
  entry : (i : ℕ) → i < n → time_at x i < max → ((j : ℕ) → i < j → j < n → max ≤ time_at x j) → Found x max n (suc i)

pub found_under : (x : Brick) (max n : ℕ) → Found x max n (under x max n)
unfolding under
found_under x max zero = none (λ i l. absurd (omega arith))
found_under x max (suc n) = go (ltb (time_at x n) max) refl (found_under x max n)
  where
    last : (j : ℕ) → j < suc n → (j < n → max ≤ time_at x j) → max ≤ time_at x n → max ≤ time_at x j
    last j l f top = by (ltb j n) refl
      where
        by : (a : Bool) → ltb j n ≡ a → max ≤ time_at x j
        by true q = f (ltb-true j n q)
        by false q = let z : n ≡ j = omega (arith, ltb-false j n q) in subst (λ (k : ℕ). max ≤ time_at x k) z top

    up : (k : ℕ) → max ≤ time_at x n → Found x max n k → Found x max (suc n) k
    up k top (none f) = none (λ i l. last i l (λ m. f i m) top)
    up k top (entry i l m f) = entry i (omega arith) m (λ j p q. last j q (λ w. f j p w) top)

    go : (a : Bool) → ltb (time_at x n) max ≡ a → Found x max n (under x max n) → Found x max (suc n) (cond a (suc n) (under x max n))
    go true q ih = entry n (omega arith) (ltb-true (time_at x n) max q) (λ j l m. absurd (omega arith))
    go false q ih = up (under x max n) (ltb-false (time_at x n) max q) ih
