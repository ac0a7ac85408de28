-- A sound record without an operation is that of its settings and its clock alone.
use mathlib.Core.Path.{◌≡◌, refl, sym, ap, ap₂, subst, ◌∙◌}
use mathlib.Core.Bool.{Bool, true, false, cond, ◌&&◌, ◌||◌}
use mathlib.Core.List.{List}
use Prim.Native.Nat.{ℕ, ◌-◌, ◌<◌}
use native.Mathlib.Omega.{arith}
use lib.Dec.{eqb, ltb}
use lib.ListN.{length, get_or, replicate, length-replicate}
use lib.Seq.{ext_get_or}
use borrow.Author.Tests.{eqb-true, eq-eqb, le-ltb}
use Rattle.byte_lists.proofs.Laws.BoolLaws.{and_left, and_right}
use Rattle.byte_lists.proofs.Laws.EachLaws.{each_at}
use Rattle.settings.specs.Ranges.{max_bricks}
use Rattle.message.specs.Kinds.{no_comparison}
use Rattle.coord_record.specs.Records.{idle_kind, is_reading, target_count, no_op, no_bricks, nothing_counted, idle_with}
use Rattle.coord_record.specs.CountedRules.{counted_right, entry_right, said_right, tally_right, brick_right, bricks_right}
use Rattle.coord_record.specs.Sound.{op_right, unset_op, named_count}
use Rattle.coord_record.specs.SoundParts.{SoundParts}
use Rattle.coord_record.specs.declared.Coordinator.{Coordinator}
use Rattle.coord_record.specs.declared.Geometry.{Geometry}
use Rattle.coord_record.specs.declared.Op.{Op}
use Rattle.coord_record.specs.declared.Tally.{Tally}
use Rattle.coord_record.proofs.Laws.RecordSoundLaws.{time_idle}
use Rattle.coord_record.proofs.Laws.SoundPartLaws.{made_for}
use Rattle.coord_laws.specs.Soundness.{Sized}
use Rattle.coord_laws.proofs.Laws.OpCaseLaws.{clash}
use Rattle.coord_laws.proofs.Laws.TallyLaws.{zeros_at, entry_kept, said_kept}
use Rattle.register.specs.Lending.{SixteenPlaces}

-- a list of zeros
all_zeros : (k : ℕ) (l : List ℕ) → length l ≡ k → ((i : ℕ) → i < k → get_or l i 0 ≡ 0) → l ≡ replicate k 0
all_zeros k l e f =
    ext_get_or 0 l (replicate k 0) (e ∙ sym (length-replicate k 0)) (λ i h. f i (omega (arith, e, h)) ∙ sym (zeros_at k i))

-- nothing is kept of a brick while no round is open
record Unkept (counted granted held found : ℕ) : Type 0 where
  no-count : counted ≡ 0
  no-grant : granted ≡ 0
  no-hold : held ≡ 0
  no-find : found ≡ 0

unkept : (n targets first b counted granted held found : ℕ) → entry_right n targets 0 first b counted granted held found ≡ true → Unkept counted granted held found
unfolding entry_right counted_right
unkept n targets first b counted granted held found = go (eqb counted 0) refl
  where
    go : (a : Bool) → eqb counted 0 ≡ a
        → cond a (eqb granted 0 && eqb held 0 && eqb found 0) (eqb counted 1 && counted_right n targets 0 first b granted held found) ≡ true
        → Unkept counted granted held found
    go true e q =
        let two = and_left (eqb granted 0 && eqb held 0) (eqb found 0) q in
        record {
          no-count = eqb-true counted 0 e;
          no-grant = eqb-true granted 0 (and_left (eqb granted 0) (eqb held 0) two);
          no-hold = eqb-true held 0 (and_right (eqb granted 0) (eqb held 0) two);
          no-find = eqb-true found 0 (and_right (eqb granted 0 && eqb held 0) (eqb found 0) q);
        }
    go false e q = clash (and_right (eqb counted 1) (counted_right n targets 0 first b granted held found) q)

-- nor of a no
unsaid : (phase counted granted said : ℕ) → counted ≡ 0 → said_right phase counted granted said ≡ true → said ≡ 0
unfolding said_right
unsaid phase counted granted said e q = eqb-true said no_comparison (rw (eq-eqb counted 0 e) at q)

idle_tally : (n targets first : ℕ) (t : Tally) → Sized t → tally_right n targets 0 first t ≡ true → t ≡ nothing_counted
unfolding nothing_counted
idle_tally n targets first t z e =
    let at : (b : ℕ) → b < max_bricks → Unkept (get_or t.counted b 0) (get_or t.granted b 0) (get_or t.held b 0) (get_or t.found b 0) =
    λ b l. unkept n targets first b _ _ _ _ (entry_kept n targets 0 first t b l e) in
    ap₂ (λ (a b : List ℕ). record { counted = a; granted = b; held = t.held; found = t.found; said = t.said })
    (all_zeros max_bricks t.counted z.counted-size (λ b l. (at b l).no-count))
    (all_zeros max_bricks t.granted z.granted-size (λ b l. (at b l).no-grant))
    ∙ ap₂ (λ (a b : List ℕ). record { counted = replicate max_bricks 0; granted = replicate max_bricks 0; held = a; found = b; said = t.said })
    (all_zeros max_bricks t.held z.held-size (λ b l. (at b l).no-hold))
    (all_zeros max_bricks t.found z.found-size (λ b l. (at b l).no-find))
    ∙ ap (λ (a : List ℕ). record { counted = replicate max_bricks 0; granted = replicate max_bricks 0; held = replicate max_bricks 0; found = replicate max_bricks 0; said = a })
    (all_zeros max_bricks t.said z.said-size (λ b l. unsaid 0 _ _ _ (at b l).no-count (said_kept n targets 0 first t b l e)))

idle_bricks : (n : ℕ) (l : List ℕ) → length l ≡ max_bricks → bricks_right n 0 l ≡ true → l ≡ no_bricks
unfolding bricks_right brick_right no_bricks
idle_bricks n l long e = all_zeros max_bricks l long (λ i h. eqb-true (get_or l i 0) 0 (at i (each_at _ max_bricks i e h)))
  where
    at : (i : ℕ) → cond (ltb i 0) (ltb (get_or l i 0) n && (eqb i 0 || ltb (get_or l (i - 1) 0) (get_or l i 0))) (eqb (get_or l i 0) 0) ≡ true → eqb (get_or l i 0) 0 ≡ true
    at i q = sym (rw (le-ltb i 0 (omega arith)) refl) ∙ q

idle_op : (n m size stripes : ℕ) (c : Coordinator) → SoundParts n m size stripes c → c.op.kind ≡ idle_kind → c.op ≡ no_op
unfolding no_op op_right unset_op
idle_op n m size stripes c p k = go (sym (rw (eq-eqb c.op.kind idle_kind k) refl) ∙ p.op-right)
  where
    o : Op
    o = c.op

    time : o.time ≡ 0
    time = eqb-true o.time 0 (time_idle o.kind o.time c.clock k ∙ p.time-right)

    go : eqb o.phase 0 && eqb o.round 0 && eqb o.max 0 && eqb o.first 0 && eqb o.stripe 0 ≡ true
        → o ≡ record { kind = 0; phase = 0; stripe = 0; time = 0; round = 0; max = 0; first = 0 }
    go e =
        let four = and_left (eqb o.phase 0 && eqb o.round 0 && eqb o.max 0 && eqb o.first 0) (eqb o.stripe 0) e in
        let three = and_left (eqb o.phase 0 && eqb o.round 0 && eqb o.max 0) (eqb o.first 0) four in
        let two = and_left (eqb o.phase 0 && eqb o.round 0) (eqb o.max 0) three in
        let phase = eqb-true o.phase 0 (and_left (eqb o.phase 0) (eqb o.round 0) two) in
        let round = eqb-true o.round 0 (and_right (eqb o.phase 0) (eqb o.round 0) two) in
        let max = eqb-true o.max 0 (and_right (eqb o.phase 0 && eqb o.round 0) (eqb o.max 0) three) in
        let first = eqb-true o.first 0 (and_right (eqb o.phase 0 && eqb o.round 0 && eqb o.max 0) (eqb o.first 0) four) in
        let stripe = eqb-true o.stripe 0 (and_right (eqb o.phase 0 && eqb o.round 0 && eqb o.max 0 && eqb o.first 0) (eqb o.stripe 0) e) in
        ap₂ (λ (a b : ℕ). record { kind = a; phase = b; stripe = o.stripe; time = o.time; round = o.round; max = o.max; first = o.first }) k phase
        ∙ ap₂ (λ (a b : ℕ). record { kind = 0; phase = 0; stripe = a; time = b; round = o.round; max = o.max; first = o.first }) stripe time
        ∙ ap₂ (λ (a b : ℕ). record { kind = 0; phase = 0; stripe = 0; time = 0; round = a; max = b; first = o.first }) round max
        ∙ ap (λ (a : ℕ). record { kind = 0; phase = 0; stripe = 0; time = 0; round = 0; max = 0; first = a }) first

none_named : (m : ℕ) (op : Op) → op.kind ≡ idle_kind → named_count m op ≡ 0
unfolding named_count is_reading
none_named m op k = rw k refl

-- what a sound record without an operation is
pub idle_record : (n m size stripes : ℕ) (c : Coordinator) → SoundParts n m size stripes c → SixteenPlaces c → c.op.kind ≡ idle_kind
    → c ≡ idle_with (record { n = n; m = m; size = size; stripes = stripes }) c.clock
unfolding idle_with no_op
idle_record n m size stripes c p z k =
    let op = idle_op n m size stripes c p k in
    let phase : c.op.phase ≡ 0 = ap (λ (o : Op). o.phase) op in
    let targets = target_count m c.op.kind in
    let tally = idle_tally n targets c.op.first c.tally z.tally-sized
    (subst (λ (j : ℕ). tally_right n targets j c.op.first c.tally ≡ true) phase p.tally-right) in
    let bricks = idle_bricks n c.bricks z.bricks-sized (subst (λ (j : ℕ). bricks_right n j c.bricks ≡ true) (none_named m c.op k) p.bricks-right) in
    ap₂ (λ (g : Geometry) (o : Op). record { geometry = g; clock = c.clock; op = o; tally = c.tally; bricks = c.bricks })
    (made_for n m size stripes c.geometry p.made-for) op
    ∙ ap₂
    (λ (t : Tally) (b : List ℕ). record { geometry = record { n = n; m = m; size = size; stripes = stripes }; clock = c.clock; op = no_op; tally = t; bricks = b })
    tally bricks
