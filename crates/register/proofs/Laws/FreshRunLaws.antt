-- What holds of a fresh set.
use mathlib.Core.Path.{◌≡◌, refl, sym, ap, subst, ◌∙◌}
use mathlib.Core.Logic.{◌⊎◌, inl, inr}
use mathlib.Core.List.Memᴰ
use mathlib.Core.List.{List, [], ◌∷◌}
use Prim.Native.Nat.{ℕ, ◌+◌, ◌*◌, ◌<◌}
use native.Mathlib.Omega.{arith}
use native.Mathlib.Nat.{mul-le-mul_right, suc-mul}
use lib.ListN.{length, take, drop, replicate, length-replicate, length-drop}
use lib.Seq.{ext_get_or, length-take-le, get_or-take, get_or-drop}
use Rattle.settings.specs.Ranges.{SettingsRange}
use Rattle.settings.specs.declared.Settings.{Settings}
use Rattle.byte_lists.specs.Lists.{zeros}
use Rattle.image.specs.Brick.{time_at, means_at, fresh_brick}
use Rattle.image.proofs.Laws.LogPlaceLaws.{fresh_count, fresh_time, fresh_means}
use Rattle.image.proofs.Laws.Saved.{fresh_sound}
use Rattle.erasure.specs.Code.{coded_of}
use Rattle.erasure.specs.Code.{block_of, Stripe}
use Rattle.erasure.proofs.Laws.CodeTheoremLaws.{coded_of_zeros}
use Rattle.coord_record.specs.Records.{no_op, idle_with}
use Rattle.coord_laws.proofs.Laws.SoundnessLaws.{none_sized}
use Rattle.order.specs.Claim.{Plain}
use Rattle.order.specs.Facts.{Fact, seen}
use Rattle.order.specs.Places.{Suf, In}
use Rattle.order.specs.Valid.{start, Val, Gone}
use Rattle.register.specs.Runs.{plain, zero_stripe, idle, unmoved, fresh_set}
use Rattle.register.proofs.Laws.Invariant.{quorums, Means, Stands, LogHas, BrickInv, CoordinatorInv, items_on, viewed, view, Inv}
use Rattle.register.proofs.Laws.StripeViewLaws.{viewed_there}
use Rattle.volume.proofs.Laws.RowLaws.{fresh_row_at_lem}
use Rattle.settings.proofs.Laws.RangeLaws.{in_range_lem}
use Rattle.register.proofs.Laws.BrickLogLaws.{carried}
use Rattle.byte_lists.proofs.Laws.ZeroLaws.{zero_list}
use Rattle.coord_laws.proofs.Laws.TallyLaws.{zeros_at}

-- nothing stands in an empty history
pub in_none : {P : Plain} {f : Fact P} → In f [] → ⊥
in_none i = go i.1
  where
    go : {A : Type 0} {a : A} {l : List A} → Suf (a ∷ l) [] → ⊥
    go s = elim s [ ]

-- a zero block is each coded block of the zero stripe
zero_block : (s : Settings) (g : SettingsRange s) (b : ℕ) → b < s.n
    → replicate s.size 0 ≡ block_of s.size (coded_of s.n s.m s.size (replicate (s.m * s.size) 0)) b
unfolding block_of
zero_block s g b l =
    ext_get_or 0 (replicate s.size 0) (take s.size (drop (b * s.size) (replicate (s.n * s.size) 0)))
    (length-replicate s.size 0 ∙ sym long)
    (λ i h.
    let k = length-replicate {A = ℕ} s.size 0 in
    zeros_at s.size i
    ∙ sym
    (get_or-take s.size (drop (b * s.size) (replicate (s.n * s.size) 0)) i 0 (omega arith)
    ∙ get_or-drop (b * s.size) (replicate (s.n * s.size) 0) i 0 ∙ zeros_at (s.n * s.size) (b * s.size + i)))
    ∙ ap (λ (z : List ℕ). take s.size (drop (b * s.size) z))
    (sym (coded_of_zeros s.n s.m s.size g.code.size_low))
  where
    long : length {A = ℕ} (take s.size (drop (b * s.size) (replicate (s.n * s.size) 0))) ≡ s.size
    long =
        length-take-le s.size (drop (b * s.size) (replicate (s.n * s.size) 0))
        (let d = length-drop {A = ℕ} (b * s.size) (replicate (s.n * s.size) 0) in
        let k = length-replicate {A = ℕ} (s.n * s.size) 0 in
        let h = mul-le-mul_right s.size l in
        let q = suc-mul b s.size in
        omega arith)

pub zero_stripe_lem : (s : Settings) (g : SettingsRange s) → Stripe s.m s.size (replicate (s.m * s.size) 0)
zero_stripe_lem s g =
    record {
      pos = g.code.size_low;
      length-is = length-replicate (s.m * s.size) 0;
      small = λ i. let z = zeros_at (s.m * s.size) i in omega arith;
    }

module _ (s : Settings) (g : SettingsRange s) where
  -- the zero block of brick b is that of the zero stripe
  fresh_zero : (b : ℕ) → b < s.n → Means s [] 0 b (zeros s.size)
  unfolding zero_stripe
  fresh_zero b l =
      record {
        full = replicate (s.m * s.size) 0;
        value = Val.fresh;
        proper = zero_stripe_lem s g;
        coded = zero_list s.size ∙ zero_block s g b l;
      }

  fresh_brick_lem : (b : ℕ) → b < s.n → BrickInv s g [] b (fresh_brick s)
  fresh_brick_lem b l =
      record {
        bounded = λ t p. absurd (in_none p);
        entries = λ j k.
            let z : j ≡ 0 = omega (arith, k, fresh_count s) in
            carried (ap (time_at (fresh_brick s)) z ∙ fresh_time s) (ap (means_at (fresh_brick s)) z ∙ fresh_means s) (inl refl, fresh_zero b l);
        kept = λ u w. keep u w;
        kept-zero = inl (0, omega (arith, fresh_count s), fresh_time s);
      }
    where
      keep : (u : ℕ) → Stands {P = plain s} [] b u → LogHas (fresh_brick s) u ⊎ Gone (quorums s g) {P = plain s} [] u
      keep u (inl e) = inl (0, omega (arith, fresh_count s), fresh_time s ∙ sym e)
      keep u (inr p) = absurd (in_none p)

  fresh_coordinator : (k c : ℕ) → CoordinatorInv s g [] [] c (viewed k (idle s c))
  fresh_coordinator k c = subst (CoordinatorInv s g [] [] c) (sym (viewed_there k (idle s c) (λ n _. n (unfold idle idle_with no_op in refl)))) fresh
    where
      fresh : CoordinatorInv s g [] [] c
          (record { state = idle_with (idle s c).state.geometry (idle s c).state.clock; blocks = (idle s c).blocks; stripe = (idle s c).stripe })
      fresh =
          unfold idle idle_with no_op in
          record { number = refl; used = λ t w m. absurd (in_none w.1); sized = none_sized; idle-is = λ e. refl; runs = λ n. absurd (n refl) }

  pub fresh_holds : (k : ℕ) → k < s.stripes → Inv s g k [] (unmoved s (fresh_set s))
  unfolding unmoved fresh_set seen view items_on
  fresh_holds k low =
      record {
        valid = start;
        seen-is = refl;
        bricks = λ b l. record { state = fresh_brick s; saved = fresh_row_at_lem s g b k low; sound = fresh_sound s (in_range_lem s g); keeps = fresh_brick_lem b l };
        items = λ i m. absurd (Memᴰ.not-nil m);
        coordinators = fresh_coordinator k;
        told = λ b t m. absurd (in_none m);
      }
