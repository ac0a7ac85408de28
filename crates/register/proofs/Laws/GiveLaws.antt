-- The q-th reply of a Read round decides: a read of one round gives its stripe, or its block.
use mathlib.Core.Path.{◌≡◌, refl, sym, ap, subst, ◌∙◌}
use mathlib.Core.Logic.{◌⊎◌, inl, inr}
use mathlib.Core.Bool.{Bool, true, false, not, ◌&&◌}
use mathlib.Core.List.Memᴰ
use mathlib.Core.List.{List, [], ◌∷◌}
use Prim.Native.Nat.{ℕ, ◌-◌, ◌*◌, ◌≤◌, ◌<◌}
use native.Mathlib.Omega.{arith}
use lib.Dec.{eqb}
use lib.ListN.{length, get_or, take}
use borrow.Author.Tests.{eqb-true, eq-eqb, ne_eqb, lt-ltb, le-leb}
use Rattle.coord_record.specs.Records.{idle_kind, reading_kind, reading_block_kind, writing_block_kind, is_reading, on_block, target_count}
use Rattle.message.specs.Kinds.{read_kind, block_targets}
use Rattle.settings.specs.Ranges.{quorum}
use Rattle.settings.specs.Ranges.{SettingsRange}
use Rattle.settings.specs.declared.Settings.{Settings}
use Rattle.message.specs.Flags.{member, members}
use Rattle.erasure.specs.Code.{block_of, with_block, Stripe}
use Rattle.erasure.proofs.Laws.BlockOfLaws.{block_within, block_length, block_with}
use Rattle.erasure.proofs.Laws.RecodingLaws.{data_coded}
use Rattle.byte_lists.specs.Each.{some}
use Rattle.byte_lists.proofs.Laws.EachLaws.{some_at}
use Rattle.coord_record.specs.CountedRules.{steps_above, is_target, block_right}
use Rattle.coord_tally.specs.Counting.{said_no, highest, other_time, missing, target_row}
use Rattle.coord_blocks.specs.Blocks.{stripe_from, given_stripe}
use Rattle.coord_apply.specs.Acts.{notice_of, ending}
use Rattle.coord_apply.specs.Answers.{Buffered, read_seen, letter_of}
use Rattle.order.specs.Claim.{Result, given, Ending, Seen, ◌∈◌}
use Rattle.order.specs.Facts.{one_round, showed, shows, ending_of}
use Rattle.order.specs.Places.{In}
use Rattle.order.specs.Valid.{Val, Valid}
use Rattle.register.specs.Runs.{plain, Item, begun_kind, read_given, seen_of, broadcasts}
use Rattle.register.proofs.Laws.BegunLaws.{read_cases, begun_read_block, read_keeps, read_gives, known_begun}
use Rattle.register.proofs.Laws.Invariant.{quorums, Hist, Means, ItemInv, Running, CoordinatorInv}
use Rattle.register.proofs.Laws.TurnLaws.{TurnedRound}
use Rattle.register.proofs.Laws.RoundLaws.{ends}
use Rattle.register.proofs.Laws.DecodeLaws.{target_bricks, target_is}
use Rattle.register.proofs.Laws.DecideLaws.{now, reply_at_lem, said_yes, quorum_of}
use Rattle.register.proofs.Laws.RecoverLaws.{means_decode}

-- how many bricks a read asks for their block
pub targets_whole : (m kind : ℕ) → kind ≡ reading_kind → target_count m kind ≡ m
unfolding target_count on_block
targets_whole m kind e =
    rw (ne_eqb kind reading_block_kind (λ q. omega (arith, e, q)), ne_eqb kind writing_block_kind (λ q. omega (arith, e, q))) refl

pub targets_block : (m kind : ℕ) → on_block kind ≡ true → target_count m kind ≡ block_targets
unfolding target_count
targets_block m kind e = rw e refl

pub on_block_lem : (kind : ℕ) → (kind ≡ reading_block_kind) ⊎ (kind ≡ writing_block_kind) → on_block kind ≡ true
unfolding on_block
on_block_lem kind (inl e) = rw (eq-eqb kind reading_block_kind e) refl
on_block_lem kind (inr e) = rw (ne_eqb kind reading_block_kind (λ q. omega (arith, e, q)), eq-eqb kind writing_block_kind e) refl

pub not_on_block : (kind : ℕ) → kind ≡ reading_kind → on_block kind ≡ false
unfolding on_block
not_on_block kind e = rw (ne_eqb kind reading_block_kind (λ q. omega (arith, e, q)), ne_eqb kind writing_block_kind (λ q. omega (arith, e, q))) refl

-- of one target, the first is it
pub first_target : (n first : ℕ) → is_target n block_targets first first ≡ true
unfolding is_target steps_above
first_target n first = rw (le-leb first first (omega arith)) (lt-ltb (first - first) block_targets (omega arith))

-- a target's yes to a Read holds a block
pub target_holds : (phase : ℕ) (target granted held : Bool) (found : ℕ) → phase ≡ read_kind → target ≡ true → granted ≡ true
    → block_right phase target granted held found ≡ true → held ≡ true
target_holds phase target granted held found p t y q =
    let z : block_right phase target granted held found ≡ held = unfold block_right in rw (eq-eqb phase read_kind p, y, t) refl in
    sym z ∙ q

-- a coded block is of its size
pub coded_sized : (s : Settings) (g : SettingsRange s) (full : List ℕ) (b : ℕ) → Stripe s.m s.size full → b < s.m
    → length (block_of s.size full b) ≡ s.size
coded_sized s g full b p l = block_length s.size full b (block_within s.m s.size b full p.length-is l)

module _ (s : Settings) (g : SettingsRange s) (h : Hist s) (sent : List Item) (c : ℕ) (k : Buffered) (v : Valid (quorums s g) h)
    (i : CoordinatorInv s g h sent c k) (items : (z : Item) → z ∈ sent → ItemInv s g h sent z) (n : k.state.op.kind ≡ idle_kind → ⊥)
    (yeses : some (said_no k.state.tally.counted k.state.tally.granted) s.n ≡ false)
    (same : some (other_time k.state.tally.counted k.state.tally.found (highest k.state.tally.counted k.state.tally.found s.n)) s.n ≡ false)
    (there : some (missing s.n (target_count s.m k.state.op.kind) k.state.op.first k.state.tally.counted) s.n ≡ false) where
  -- the one newest time that the counted bricks found
  abbrev pub newest_of : ℕ
  newest_of = highest k.state.tally.counted k.state.tally.found s.n

  abbrev asked : ℕ
  asked = target_count s.m k.state.op.kind

  -- each counted brick found it
  pub found_newest : (b : ℕ) (m : member k.state.tally.counted b ≡ true) → ((now s g h sent c k v i items n).counts b m).from.found ≡ newest_of
  found_newest b m =
      (r.counts b m).found-is ∙ go (eqb (get_or k.state.tally.found b 0) newest_of) refl
      (unfold other_time in
      (sym (ap (λ (a : Bool). a && not (eqb (get_or k.state.tally.found b 0) newest_of)) m)
      ∙ some_at (other_time k.state.tally.counted k.state.tally.found newest_of) s.n b same (r.counts b m).low))
    where
      r : Running s g h sent c k
      r = now s g h sent c k v i items n

      go : (a : Bool) → eqb (get_or k.state.tally.found b 0) newest_of ≡ a → true && not a ≡ false → get_or k.state.tally.found b 0 ≡ newest_of
      go true e q = eqb-true (get_or k.state.tally.found b 0) newest_of e
      go false e q = let z : ◌≡◌ {A = ℕ} 0 1 = cc in absurd (omega arith)

  -- each target is counted
  pub target_counted : (b : ℕ) → b < s.n → is_target s.n asked k.state.op.first b ≡ true → member k.state.tally.counted b ≡ true
  target_counted b l e =
      go (member k.state.tally.counted b)
      (unfold missing in
      (sym (ap (λ (a : Bool). a && not (member k.state.tally.counted b)) e)
      ∙ some_at (missing s.n asked k.state.op.first k.state.tally.counted) s.n b there l))
    where
      go : (a : Bool) → true && not a ≡ false → a ≡ true
      go true q = refl
      go false q = sym q

  -- a read of one round: all said yes with one newest time, and every target is among them
  module _ (phase : k.state.op.phase ≡ read_kind) (low : k.state.op.first < s.n)
      (enough : quorum s.n s.m ≤ members k.state.tally.counted s.n) where
    shown : (b : ℕ) → member k.state.tally.counted b ≡ true → In (showed b k.state.op.time newest_of) h
    shown b m =
        let x = (now s g h sent c k v i items n).counts b m in
        subst (λ (u : ℕ). In (showed b k.state.op.time u) h) (found_newest b m)
        (subst (λ (t : ℕ). In (showed b t x.from.found) h) x.time-is
        (subst (λ (z : ℕ). In (showed z x.from.time x.from.found) h) x.brick-is
        ((reply_at_lem s g h sent c k v i items n b m).reads (said_yes s g h sent c k v i items n yeses b m) (x.kind-is ∙ phase))))

    -- each target holds its block
    means : (b : ℕ) → b < s.n → is_target s.n asked k.state.op.first b ≡ true → Means s h newest_of b (block_of s.size k.blocks b)
    means b l e =
        let m = target_counted b l e in
        let x = (now s g h sent c k v i items n).counts b m in
        let y = said_yes s g h sent c k v i items n yeses b m in
        let held = target_holds k.state.op.phase (is_target s.n asked k.state.op.first b) x.from.yes x.from.held x.from.found phase e y x.right in
        let w = (reply_at_lem s g h sent c k v i items n b m).shows y (x.kind-is ∙ phase) held in
        subst (λ (u : ℕ). Means s h u b (block_of s.size k.blocks b)) (found_newest b m)
        (subst (λ (z : ℕ). Means s h x.from.found z (block_of s.size k.blocks b)) x.brick-is
        (subst (λ (z : List ℕ). Means s h x.from.found x.from.brick z) (sym (x.block-is held)) w))

    -- the stripe that the newest time stands for, and that what is given is what the read gives of it
    Shows : Type 0
    Shows =
        (full : List ℕ) × Val h newest_of full
        × (read_given s (notice_of k.state.op read_seen (letter_of s.n k.state.op k.state.tally read_seen) (target_row s.n asked k.state.op.first))
        (given_stripe s.n s.m s.size k.state.op k.blocks k.stripe)
        ≡ (plain s).gives (begun_kind s k) full)

    shows_whole : k.state.op.kind ≡ reading_kind → is_reading k.state.op.kind ≡ true → Shows
    unfolding Shows given_stripe
    shows_whole q e =
        let first = k.state.op.first in
        let b = target_bricks s.n s.m first g.code.n-high g.code.m-high low in
        let d = means_decode s g h v newest_of (take s.m (target_row s.n s.m first)) k.blocks b
        (λ j l. means (get_or (take s.m (target_row s.n s.m first)) j 0) (b.below j l)
        (subst (λ (t : ℕ). is_target s.n t first (get_or (take s.m (target_row s.n s.m first)) j 0) ≡ true)
        (sym (targets_whole s.m k.state.op.kind q))
        (target_is s.n s.m first g.code.n-high g.code.m-high low j l))) in (
          d.full,
          d.value,
          rw (not_on_block k.state.op.kind q)
              (read_gives s k e read_seen _ (target_row s.n asked first) (stripe_from s.m s.size (take s.m (target_row s.n s.m first)) k.blocks)
              ∙ ap ((plain s).gives (begun_kind s k)) d.gives),
        )

    shows_block : k.state.op.kind ≡ reading_block_kind → is_reading k.state.op.kind ≡ true → k.state.op.first < s.m
        → length k.stripe ≡ s.m * s.size → Shows
    unfolding Shows given_stripe given
    shows_block q e l long = (
      w.full,
      w.value,
      rw on
          (read_gives s k e read_seen _ (target_row s.n asked j) (with_block s.size k.stripe j (block_of s.size k.blocks j))
          ∙ ap (λ (a : (plain s).Kind). (plain s).gives a (with_block s.size k.stripe j (block_of s.size k.blocks j))) (begun_read_block s k q)
          ∙ ap Result.block (block_with s.size k.stripe j (block_of s.size k.blocks j) sized (block_within s.m s.size j k.stripe long l) ∙ coded)
          ∙ sym (ap (λ (a : (plain s).Kind). (plain s).gives a w.full) (begun_read_block s k q))),
    )
      where
        j : ℕ
        j = k.state.op.first

        on : on_block k.state.op.kind ≡ true
        on = on_block_lem k.state.op.kind (inl q)

        w : Means s h newest_of j (block_of s.size k.blocks j)
        w = means j low
            (subst (λ (t : ℕ). is_target s.n t j j ≡ true) (sym (targets_block s.m k.state.op.kind on)) (first_target s.n j))

        -- a data brick's coded block is its data block
        coded : block_of s.size k.blocks j ≡ block_of s.size w.full j
        coded = w.coded ∙ data_coded s.n s.m s.size w.full j g.code w.proper l

        sized : length (block_of s.size k.blocks j) ≡ s.size
        sized = ap length coded ∙ coded_sized s g w.full j w.proper l

    pub does_give : is_reading k.state.op.kind ≡ true → (on_block k.state.op.kind ≡ true → k.state.op.first < s.m)
        → length k.stripe ≡ s.m * s.size
        → TurnedRound s g h sent c
        (ending s.n k (given_stripe s.n s.m s.size k.state.op k.blocks k.stripe) [] read_seen (target_row s.n asked k.state.op.first))
    unfolding Shows
    does_give e block-low long =
        let r = now s g h sent c k v i items n in
        let gave = (plain s).gives (begun_kind s k) d.0 in
        ends s g h sent c k i v (one_round newest_of gave)
        (given_stripe s.n s.m s.size k.state.op k.blocks k.stripe) [] read_seen (target_row s.n asked k.state.op.first) r.own
        (record {
          known = known_begun r;
          running = r.unended;
          answer = (
            r.unsent (λ z. omega (arith, z)) (λ z. omega (arith, z)),
            quorum_of s g h sent c k v i items n (λ (b : ℕ). In (showed b k.state.op.time newest_of) h) enough shown,
            record { kind = begun_kind s k; asked = r.begun; keeps = read_keeps s k e; stripe = d.0; value = d.1; bytes = refl },
          );
        })
        (unfold ending seen_of shows ending_of in ap (λ (a : (plain s).Given). Seen.ended k.state.op.time (Ending.finished a) ∷ []) d.2)
        (λ z m. absurd (unfold broadcasts in Memᴰ.not-nil m)) (λ b msg block old m _. unfold broadcasts in Memᴰ.not-nil m)
      where
        d : Shows
        d = go (read_cases k.state.op.kind e)
          where
            go : (k.state.op.kind ≡ reading_kind) ⊎ (k.state.op.kind ≡ reading_block_kind) → Shows
            go (inl q) = shows_whole q e
            go (inr q) = shows_block q e (block-low (on_block_lem k.state.op.kind (inl q))) long
