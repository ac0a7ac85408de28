-- The kind of a begun operation, by what runs: what it does to the plain stripe and gives of it; and what is known of the beginning of one
-- that runs.
use mathlib.Core.Path.{◌≡◌, refl, sym, ap, subst, ◌∙◌}
use mathlib.Core.Logic.{◌⊎◌, inl, inr}
use mathlib.Core.Bool.{Bool, true, false, cond, ◌||◌}
use mathlib.Core.List.{List}
use Prim.Native.Nat.{ℕ}
use native.Mathlib.Omega.{arith}
use lib.Dec.{eqb}
use borrow.Author.Tests.{eq-eqb, ne_eqb, eqb-true}
use Rattle.settings.specs.Ranges.{SettingsRange}
use Rattle.settings.specs.declared.Settings.{Settings}
use Rattle.erasure.specs.Code.{block_of, with_block, Stripe}
use Rattle.erasure.proofs.Laws.BlockOfLaws.{block_within, block_with, with_block_stripe}
use Rattle.coord_record.specs.Records.{reading_kind, writing_kind, reading_block_kind, writing_block_kind, is_reading, on_block}
use Rattle.coord_laws.specs.OpCases.{can_recover}
use Rattle.coord_blocks.specs.Blocks.{stored_stripe}
use Rattle.coord_apply.specs.Acts.{seen_block, notice_of}
use Rattle.coord_apply.specs.Answers.{Buffered}
use Rattle.order.specs.Claim.{Result, read, write, read_block, write_block, ok, bytes, changed, given}
use Rattle.order.specs.Facts.{began}
use Rattle.order.specs.Places.{In}
use Rattle.order.specs.Valid.{Began, Keeps}
use Rattle.register.specs.Runs.{plain, Item, begun_kind, read_given}
use Rattle.register.proofs.Laws.Invariant.{Hist, Piece, Running}

-- a read is of the stripe or of one block
pub read_cases : (kind : ℕ) → is_reading kind ≡ true → (kind ≡ reading_kind) ⊎ (kind ≡ reading_block_kind)
unfolding is_reading
read_cases kind e = go (eqb kind reading_kind) (eqb kind reading_block_kind) refl refl e
  where
    go : (a b : Bool) → eqb kind reading_kind ≡ a → eqb kind reading_block_kind ≡ b → a || b ≡ true → (kind ≡ reading_kind) ⊎ (kind ≡ reading_block_kind)
    go true b ea eb w = inl (eqb-true kind reading_kind ea)
    go false true ea eb w = inr (eqb-true kind reading_block_kind eb)
    go false false ea eb w = let z : ◌≡◌ {A = ℕ} 0 1 = cc in absurd (omega arith)

-- what recovers is a read or a write of one block
pub recover_cases : (kind : ℕ) → can_recover kind ≡ true → (is_reading kind ≡ true) ⊎ (kind ≡ writing_block_kind)
unfolding can_recover
recover_cases kind e = go (is_reading kind) (eqb kind writing_block_kind) refl refl e
  where
    go : (a b : Bool) → is_reading kind ≡ a → eqb kind writing_block_kind ≡ b → a || b ≡ true → (is_reading kind ≡ true) ⊎ (kind ≡ writing_block_kind)
    go true b ea eb w = inl ea
    go false true ea eb w = inr (eqb-true kind writing_block_kind eb)
    go false false ea eb w = let z : ◌≡◌ {A = ℕ} 0 1 = cc in absurd (omega arith)

module _ (s : Settings) (k : Buffered) where
  pub begun_read : k.state.op.kind ≡ reading_kind → begun_kind s k ≡ read
  unfolding begun_kind
  begun_read e = rw (eq-eqb k.state.op.kind reading_kind e) refl

  pub begun_read_block : k.state.op.kind ≡ reading_block_kind → begun_kind s k ≡ read_block k.state.op.first
  unfolding begun_kind
  begun_read_block e =
      rw (ne_eqb k.state.op.kind reading_kind (λ q. omega (arith, e, q)), eq-eqb k.state.op.kind reading_block_kind e) refl

  pub begun_write_block : k.state.op.kind ≡ writing_block_kind
      → begun_kind s k ≡ write_block k.state.op.first (block_of s.size k.stripe k.state.op.first)
  unfolding begun_kind
  begun_write_block e =
      rw (
        ne_eqb k.state.op.kind reading_kind (λ q. omega (arith, e, q)),
        ne_eqb k.state.op.kind reading_block_kind (λ q. omega (arith, e, q)),
        eq-eqb k.state.op.kind writing_block_kind e,
      )
      refl

  pub begun_write : k.state.op.kind ≡ writing_kind → begun_kind s k ≡ write k.stripe
  unfolding begun_kind
  begun_write e =
      rw (
        ne_eqb k.state.op.kind reading_kind (λ q. omega (arith, e, q)),
        ne_eqb k.state.op.kind reading_block_kind (λ q. omega (arith, e, q)),
        ne_eqb k.state.op.kind writing_block_kind (λ q. omega (arith, e, q)),
      )
      refl

  -- a read changes nothing, and gives the stripe or its block
  pub read_keeps : is_reading k.state.op.kind ≡ true → Keeps (plain s) (begun_kind s k)
  unfolding changed
  read_keeps e z = go (read_cases k.state.op.kind e)
    where
      go : (k.state.op.kind ≡ reading_kind) ⊎ (k.state.op.kind ≡ reading_block_kind) → (plain s).effect (begun_kind s k) z ≡ z
      go (inl q) = ap (λ (a : (plain s).Kind). (plain s).effect a z) (begun_read q)
      go (inr q) = ap (λ (a : (plain s).Kind). (plain s).effect a z) (begun_read_block q)

  pub read_gives : is_reading k.state.op.kind ≡ true → (what letter : ℕ) (bricks v : List ℕ)
      → read_given s (notice_of k.state.op what letter bricks) v ≡ (plain s).gives (begun_kind s k) v
  unfolding read_given given on_block seen_block
  read_gives e what letter bricks v = go (read_cases k.state.op.kind e)
    where
      go : (k.state.op.kind ≡ reading_kind) ⊎ (k.state.op.kind ≡ reading_block_kind)
          → cond (eqb k.state.op.kind reading_block_kind || eqb k.state.op.kind writing_block_kind)
          (Result.block (block_of s.size v (cond (eqb k.state.op.kind reading_block_kind || eqb k.state.op.kind writing_block_kind) k.state.op.first 0)))
          (bytes v)
          ≡ (plain s).gives (begun_kind s k) v
      go (inl q) =
          rw
          (ne_eqb k.state.op.kind reading_block_kind (λ w. omega (arith, q, w)), ne_eqb k.state.op.kind writing_block_kind (λ w. omega (arith, q, w)))
          (sym (ap (λ (a : (plain s).Kind). (plain s).gives a v) (begun_read q)))
      go (inr q) =
          rw (eq-eqb k.state.op.kind reading_block_kind q) (sym (ap (λ (a : (plain s).Kind). (plain s).gives a v) (begun_read_block q)))

  -- a write gives ok, whatever the stripe
  pub write_says : is_reading k.state.op.kind ≡ false → (v : List ℕ) → (plain s).gives (begun_kind s k) v ≡ ok
  unfolding begun_kind given is_reading
  write_says e v = go (eqb k.state.op.kind reading_kind) (eqb k.state.op.kind reading_block_kind) (eqb k.state.op.kind writing_block_kind) e
    where
      go : (a b d : Bool) → a || b ≡ false
          → (plain s).gives (cond a read (cond b (read_block k.state.op.first)
          (cond d (write_block k.state.op.first (block_of s.size k.stripe k.state.op.first)) (write k.stripe)))) v ≡ ok
      go true b d w = let z : ◌≡◌ {A = ℕ} 0 1 = cc in absurd (omega arith)
      go false true d w = let z : ◌≡◌ {A = ℕ} 0 1 = cc in absurd (omega arith)
      go false false true w = refl
      go false false false w = refl

-- it is the same while the record's kind and first, and the stripe are
pub same_begun : (s : Settings) (k k' : Buffered) → k.state.op.kind ≡ k'.state.op.kind → k.state.op.first ≡ k'.state.op.first → k.stripe ≡ k'.stripe
    → begun_kind s k ≡ begun_kind s k'
unfolding begun_kind
same_begun s k k' e f g = rw (e, f, g) refl

-- of a read, whatever the stripe
pub same_read : (s : Settings) (k k' : Buffered) → is_reading k.state.op.kind ≡ true → k.state.op.kind ≡ k'.state.op.kind
    → k.state.op.first ≡ k'.state.op.first → begun_kind s k ≡ begun_kind s k'
same_read s k k' r e f = go (read_cases k.state.op.kind r)
  where
    go : (k.state.op.kind ≡ reading_kind) ⊎ (k.state.op.kind ≡ reading_block_kind) → begun_kind s k ≡ begun_kind s k'
    go (inl q) = begun_read s k q ∙ sym (begun_read s k' (sym e ∙ q))
    go (inr q) = begun_read_block s k q ∙ ap read_block f ∙ sym (begun_read_block s k' (sym e ∙ q))

-- What a recovery stores: the effect of the operation on what was decoded.
module _ (s : Settings) (k : Buffered) (full : List ℕ) (proper : Stripe s.m s.size full) where
  stored_read : is_reading k.state.op.kind ≡ true → stored_stripe s.size k.state.op k.stripe full ≡ full
  unfolding stored_stripe
  stored_read e = go (read_cases k.state.op.kind e)
    where
      go : (k.state.op.kind ≡ reading_kind) ⊎ (k.state.op.kind ≡ reading_block_kind)
          → cond (eqb k.state.op.kind writing_block_kind) (with_block s.size full k.state.op.first (block_of s.size k.stripe k.state.op.first)) full ≡ full
      go (inl q) = rw (ne_eqb k.state.op.kind writing_block_kind (λ w. omega (arith, q, w))) refl
      go (inr q) = rw (ne_eqb k.state.op.kind writing_block_kind (λ w. omega (arith, q, w))) refl

  stored_block : k.state.op.kind ≡ writing_block_kind → stored_stripe s.size k.state.op k.stripe full
      ≡ with_block s.size full k.state.op.first (block_of s.size k.stripe k.state.op.first)
  unfolding stored_stripe
  stored_block e = rw (eq-eqb k.state.op.kind writing_block_kind e) refl

  pub stored_effect : can_recover k.state.op.kind ≡ true
      → (plain s).effect (begun_kind s k) full ≡ stored_stripe s.size k.state.op k.stripe full
  unfolding changed
  stored_effect e = go (recover_cases k.state.op.kind e)
    where
      go : (is_reading k.state.op.kind ≡ true) ⊎ (k.state.op.kind ≡ writing_block_kind)
          → (plain s).effect (begun_kind s k) full ≡ stored_stripe s.size k.state.op k.stripe full
      go (inl q) = read_keeps s k q full ∙ sym (stored_read q)
      go (inr q) = ap (λ (a : (plain s).Kind). (plain s).effect a full) (begun_write_block s k q) ∙ sym (stored_block q)

  module _ (piece : k.state.op.kind ≡ writing_block_kind → Piece s k.state.op.first (block_of s.size k.stripe k.state.op.first)) where
    pub stored_proper : can_recover k.state.op.kind ≡ true → Stripe s.m s.size (stored_stripe s.size k.state.op k.stripe full)
    stored_proper e = go (recover_cases k.state.op.kind e)
      where
        go : (is_reading k.state.op.kind ≡ true) ⊎ (k.state.op.kind ≡ writing_block_kind)
            → Stripe s.m s.size (stored_stripe s.size k.state.op k.stripe full)
        go (inl q) = subst (Stripe s.m s.size) (sym (stored_read q)) proper
        go (inr q) =
            let p = piece q in
            subst (Stripe s.m s.size) (sym (stored_block q))
            (with_block_stripe s.m s.size full k.state.op.first (block_of s.size k.stripe k.state.op.first) proper p.sized p.small p.low)

    -- the block that a block write writes is the one it began with
    stored_piece : k.state.op.kind ≡ writing_block_kind
        → block_of s.size (stored_stripe s.size k.state.op k.stripe full) k.state.op.first ≡ block_of s.size k.stripe k.state.op.first
    stored_piece q =
        let p = piece q in
        ap (λ (v : List ℕ). block_of s.size v k.state.op.first) (stored_block q)
        ∙ block_with s.size full k.state.op.first (block_of s.size k.stripe k.state.op.first) p.sized
        (block_within s.m s.size k.state.op.first full proper.length-is p.low)

    pub piece_stored : k.state.op.kind ≡ writing_block_kind
        → Piece s k.state.op.first (block_of s.size (stored_stripe s.size k.state.op k.stripe full) k.state.op.first)
    piece_stored q = subst (Piece s k.state.op.first) (sym (stored_piece q)) (piece q)

    -- so it is the same operation in the round that stores it
    pub begun_stored : can_recover k.state.op.kind ≡ true → (k' : Buffered) → k'.state.op.kind ≡ k.state.op.kind
        → k'.state.op.first ≡ k.state.op.first → k'.stripe ≡ stored_stripe s.size k.state.op k.stripe full → begun_kind s k' ≡ begun_kind s k
    begun_stored e k' kind first stripe = go (recover_cases k.state.op.kind e)
      where
        go : (is_reading k.state.op.kind ≡ true) ⊎ (k.state.op.kind ≡ writing_block_kind) → begun_kind s k' ≡ begun_kind s k
        go (inl q) = sym (same_read s k k' q (sym kind) (sym first))
        go (inr q) =
            let same : block_of s.size k'.stripe k'.state.op.first ≡ block_of s.size k.stripe k.state.op.first = rw (stripe, first) (stored_piece q) in
            begun_write_block s k' (kind ∙ q)
            ∙ rw (first, stripe) (ap (write_block k.state.op.first) (stored_piece q))
            ∙ sym (begun_write_block s k q)

module _ {s : Settings} {g : SettingsRange s} {h : Hist s} {sent : List Item} {c : ℕ} {k : Buffered} (r : Running s g h sent c k) where
  pub known_begun : Began h k.state.op.time
  known_begun = (begun_kind s k, r.begun)

  pub writes_begun : k.state.op.kind ≡ writing_kind → In (began k.state.op.time (write k.stripe)) h
  writes_begun e = subst (λ (a : (plain s).Kind). In (began k.state.op.time a) h) (begun_write s k e) r.begun
