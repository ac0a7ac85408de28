-- Laws of `specs/Entries`, from the invariant of runs.
use mathlib.Core.Path.{◌≡◌, sym, ap, subst, ◌∙◌}
use mathlib.Core.Logic.{◌≢◌, ◌⊎◌, inl, inr}
use mathlib.Core.Bool.{true}
use mathlib.Core.List.{List}
use Prim.Native.Nat.{ℕ, zero, suc, ◌*◌, ◌<◌}
use native.Mathlib.Decide.{ℕ_discrete}
use native.Mathlib.Nat.{not-suc-le-zero}
use native.Mathlib.Omega.{arith}
use lib.ListN.{replicate}
use Rattle.settings.specs.Ranges.{SettingsRange, in_range}
use Rattle.settings.specs.declared.Settings.{Settings}
use Rattle.image.specs.Brick.{Brick, entry_count, time_at, Sound}
use Rattle.image.specs.Parse.{Opens, parse}
use Rattle.image.proofs.Laws.ParseLaws.{range_of, parse_image}
use Rattle.brick.proofs.Laws.BrickLaws.{by_place}
use Rattle.erasure.specs.Code.{block_of, coded_of, Stripe}
use Rattle.order.specs.Valid.{Val, Valid}
use Rattle.order.proofs.Laws.ValueLaws.{one_value}
use Rattle.register.specs.Runs.{Event, run}
use Rattle.register.specs.Entries.{HasState, EntriesMean, EntriesMeanOneStripe}
use Rattle.register.proofs.Laws.Invariant.{quorums, Hist, BrickInv, Inv, view}
use Rattle.register.proofs.Laws.FreshRunLaws.{zero_stripe_lem}
use Rattle.register.proofs.Laws.TheoremProof.{run_holds}

-- something is found at one of the numbers below k, or it is at none of them
found_below : {F : Type 0} (None : ℕ → Type 0) (k : ℕ) → ((i : ℕ) → i < k → F ⊎ None i) → F ⊎ ((i : ℕ) → i < k → None i)
found_below None zero f = inr (λ i l. absurd (not-suc-le-zero l))
found_below {F} None (suc k) f = go (f k (omega arith)) (found_below None k (λ i l. f i (omega (arith, l))))
  where
    go : F ⊎ None k → F ⊎ ((i : ℕ) → i < k → None i) → F ⊎ ((i : ℕ) → i < suc k → None i)
    go (inl x) r = inl x
    go (inr n) (inl x) = inl x
    go (inr n) (inr r) = inr (λ i l. by_place {P = None} k r n i (omega (arith, l)))

module _ (s : Settings) (e : in_range s ≡ true) (events : List Event) (stripe : ℕ) (low : stripe < s.stripes) where
  g : SettingsRange s
  g = range_of s e

  abbrev h : Hist s
  h = (run_holds s (range_of s e) stripe low events).0

  abbrev i : Inv s (range_of s e) stripe h (run s events)
  i = (run_holds s (range_of s e) stripe low events).1

  -- what a brick's image opens as keeps to the rules
  module _ (b : ℕ) (l : b < s.n) (x : Brick) (o : HasState s (run s events).world stripe b x) where
    same : (i.bricks b l).state ≡ x
    unfolding view
    same =
        let w = i.bricks b l in
        let q : Opens w.state ≡ Opens x = sym (ap (parse s b) w.saved ∙ parse_image s b w.state e l w.sound) ∙ o in
        cc

    pub sound : Sound s x
    sound = subst (Sound s) same (i.bricks b l).sound

    pub keeps : BrickInv s (range_of s e) h b x
    keeps = subst (BrickInv s (range_of s e) h b) same (i.bricks b l).keeps

  -- the stripe that a time stands for, if some brick has an entry of it
  abbrev Stood : ℕ → Type 0
  Stood time = (v : List ℕ) × Val h time v × Stripe s.m s.size v

  abbrev NoneAt : ℕ → Brick → Type 0
  NoneAt time x = (j : ℕ) → j < entry_count x → time_at x j ≢ time

  at_state : (time b : ℕ) (x : Brick) → BrickInv s (range_of s e) h b x → Stood time ⊎ NoneAt time x
  at_state time b x k = found_below (λ (j : ℕ). time_at x j ≢ time) (entry_count x) (λ j m. go j m (ℕ_discrete (time_at x j) time))
    where
      go : (j : ℕ) → j < entry_count x → Dec (time_at x j ≡ time) → Stood time ⊎ (time_at x j ≢ time)
      go j m (yes q) = let p = (k.entries j m).1 in inl (p.full, subst (λ (c : ℕ). Val h c p.full) q p.value, p.proper)
      go j m (no q) = inr q

  at_brick : (time b : ℕ) → b < s.n → Stood time ⊎ ((x : Brick) → HasState s (run s events).world stripe b x → NoneAt time x)
  at_brick time b l = go (at_state time b (i.bricks b l).state (i.bricks b l).keeps)
    where
      go : Stood time ⊎ NoneAt time (i.bricks b l).state
          → Stood time ⊎ ((x : Brick) → HasState s (run s events).world stripe b x → NoneAt time x)
      go (inl v) = inl v
      go (inr f) = inr (λ x o. subst (NoneAt time) (same b l x o) f)

pub entries_mean_one_stripe : EntriesMeanOneStripe
entries_mean_one_stripe s e events stripe low time =
    go (found_below (λ (b : ℕ). (x : Brick) → HasState s (run s events).world stripe b x → NoneAt s e events stripe low time x) s.n
    (at_brick s e events stripe low time))
  where
    valid : Valid (quorums s (range_of s e)) (h s e events stripe low)
    valid = (i s e events stripe low).valid

    go : Stood s e events stripe low time
        ⊎ ((b : ℕ) → b < s.n → (x : Brick) → HasState s (run s events).world stripe b x → NoneAt s e events stripe low time x)
        → (v : List ℕ) × Stripe s.m s.size v × EntriesMean s (run s events).world stripe time v
    go (inl (v, value, proper)) = (
      v,
      proper,
      λ b bl x o j jl q. let p = ((keeps s e events stripe low b bl x o).entries j jl).1 in
          p.coded ∙ ap (λ (full : List ℕ). block_of s.size (coded_of s.n s.m s.size full) b) (one_value valid p.value value q),
    )
    go (inr none) = (
      replicate (s.m * s.size) 0,
      zero_stripe_lem s (range_of s e),
      λ b bl x o j jl q. absurd (none b bl x o j jl q),
    )
