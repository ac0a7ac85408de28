-- Laws of `specs/OrderUse`, of one block: whatever else is read and written of its stripe.
use mathlib.Core.Path.{◌≡◌, refl, sym, ap, subst, ◌∙◌}
use mathlib.Core.Logic.{◌≢◌, ◌⊎◌, inl, inr}
use mathlib.Core.Bool.{Bool, true, false}
use mathlib.Core.List.{List}
use Prim.Native.Nat.{ℕ}
use lib.Dec.{eqb}
use borrow.Author.Tests.{eqb-true, eqb-false}
use Rattle.order.specs.Claim.{Blocks, Action, read, write, read_block, write_block, Result, ok, bytes, changed, given, stripe, finished, Seen, ◌∈◌}
use Rattle.order.specs.Claim.{Before, OneOrder}
use Rattle.order.specs.OrderUse.{EndedBefore, BeganBefore, BlockGave, BlockWritten, OnlyBlockWriteOf, BlockWriteWithin}
use Rattle.order.proofs.Laws.StripeUseLaws.{read_began}
use Rattle.order.proofs.Laws.LastSetLaws.{Look, Reads, zeros_or_written, stays_away, until_another, reads_agree, written_is_read}

-- What began writes stripes that fit, and in those a block that is set is there, and the others stay as they were.
pub record BlocksApart {S B : Type 0} {blocks : Blocks S B} {z : S} (l : List (Seen (stripe blocks z))) : Type 1 where
  pub Fits : S → Type 0
  pub fresh : Fits z
  pub whole : (w : ℕ) (v : S) → Seen.began w (write v) ∈ l → Fits v
  pub stays : (w i : ℕ) (b : B) → Seen.began w (write_block i b) ∈ l → (s : S) → Fits s → Fits (blocks.set i b s)
  pub there : (w i : ℕ) (b : B) → Seen.began w (write_block i b) ∈ l → (s : S) → Fits s → blocks.at i (blocks.set i b s) ≡ b
  pub others : (w i j : ℕ) (b : B) → Seen.began w (write_block i b) ∈ l → i ≢ j → (s : S) → Fits s → blocks.at j (blocks.set i b s) ≡ blocks.at j s

module _ {S B : Type 0} {blocks : Blocks S B} {z : S} {l : List (Seen (stripe blocks z))} (apart : BlocksApart l) (j : ℕ) where
  -- each operation leaves block j, or writes what it leaves there
  leaves_or_writes : (w : ℕ) (k : Action blocks) → Seen.began w k ∈ l
      → ((s : S) → apart.Fits s → blocks.at j (changed k s) ≡ blocks.at j s)
      ⊎ ((s : S) → apart.Fits s → BlockWritten l j w (blocks.at j (changed k s)))
  unfolding changed
  leaves_or_writes w read b = inl (λ s f. refl)
  leaves_or_writes w (write v) b = inr (λ s f. BlockWritten.in_stripe b refl)
  leaves_or_writes w (read_block i) b = inl (λ s f. refl)
  leaves_or_writes w (write_block i c) b = go (eqb i j) refl
    where
      go : (a : Bool) → eqb i j ≡ a
          → ((s : S) → apart.Fits s → blocks.at j (blocks.set i c s) ≡ blocks.at j s)
          ⊎ ((s : S) → apart.Fits s → BlockWritten l j w (blocks.at j (blocks.set i c s)))
      go true e =
          let q = eqb-true i j e in
          inr (λ s f.
          subst (BlockWritten l j w) (sym (ap (λ (k : ℕ). blocks.at k (blocks.set i c s)) (sym q) ∙ apart.there w i c b s f))
          (BlockWritten.alone (subst (λ (k : ℕ). Seen.began w (write_block k c) ∈ l) q b)))
      go false e = inl (apart.others w i j c b (eqb-false i j e))

  -- and leaves a stripe that fits
  still_fits : (w : ℕ) (k : Action blocks) → Seen.began w k ∈ l → (s : S) → apart.Fits s → apart.Fits (changed k s)
  unfolding changed
  still_fits w read b s f = f
  still_fits w (write v) b s f = apart.whole w v b
  still_fits w (read_block i) b s f = f
  still_fits w (write_block i c) b s f = apart.stays w i c b s f

  -- block j is looked at
  abbrev block_j : Look l B
  block_j =
      record {
        part = blocks.at j;
        Fits = apart.Fits;
        Written = BlockWritten l j;
        fresh = apart.fresh;
        stays = still_fits;
        each = leaves_or_writes;
      }

  module _ (o : OneOrder (stripe blocks z) l) where
    reads : {t : ℕ} {a : B} → BlockGave l j t a → Reads block_j t a
    unfolding changed given
    reads {t} {a} (BlockGave.in_stripe {v} m e) =
        record {
          kind = read;
          given = bytes v;
          began = read_began o t v m;
          ended = m;
          leaves = λ s f. refl;
          tells = λ s f d. let q : v ≡ s = (let p : bytes v ≡ bytes s = d in cc) in ap (blocks.at j) (sym q) ∙ e;
        }
    reads {t} {a} (BlockGave.alone b m) =
        record {
          kind = read_block j;
          given = Result.block a;
          began = b;
          ended = m;
          leaves = λ s f. refl;
          tells = λ s f d. let p : Result.block a ≡ Result.block (blocks.at j s) = d in cc;
        }

    -- A finished read gave block j as it was at first, or as one write left it that began before that read ended.
    pub block_zeros_or_written : (t : ℕ) (a : B) → BlockGave l j t a
        → (a ≡ blocks.at j z) ⊎ ((x : ℕ) × BlockWritten l j x a × BeganBefore l x t)
    block_zeros_or_written t a m = go (reads m)
      where
        go : (r : Reads block_j t a) → (a ≡ blocks.at j z) ⊎ ((x : ℕ) × BlockWritten l j x a × BeganBefore l x t)
        go r = begin (zeros_or_written block_j o t a r)
          where
            begin : (a ≡ blocks.at j z)
                ⊎ ((x : ℕ) × (k : Action blocks) × BlockWritten l j x a × Before (Seen.began x k) (Seen.ended t (finished r.given)) l)
                → (a ≡ blocks.at j z) ⊎ ((x : ℕ) × BlockWritten l j x a × BeganBefore l x t)
            begin (inl e) = inl e
            begin (inr (x, k, w, p)) = inr (x, w, (k, finished r.given, p))

    -- A write of block j that ended before a read that gave other bytes there is in no later read, if it is the only one of its bytes.
    pub block_stays_away : (w t u : ℕ) (v a b : B) → OnlyBlockWriteOf l j w v → EndedBefore l w t → EndedBefore l t u
        → BlockGave l j t a → BlockGave l j u b → a ≢ v → b ≢ v
    block_stays_away w t u v a b only e d m n = stays_away block_j o w t u v a b only.1 e d (reads m) (reads n)

    -- A later read that gave other bytes there gave those of another write, one within the time of the two reads.
    pub block_until_another : (w t u : ℕ) (v b : B) → EndedBefore l w t → EndedBefore l t u → BlockGave l j t v → BlockGave l j u b → b ≢ v
        → (x : ℕ) × (x ≢ w) × BlockWriteWithin l j t u x b
    block_until_another w t u v b e d m n f =
        let h = until_another block_j o w t u v b e d (reads m) (reads n) f in (h.0, h.1, (h.2, h.3))

    -- Two finished reads gave the same block j if every write of it had ended before both began, by answer, abort or cut, or began after
    -- both had ended.
    pub block_reads_agree : (t u : ℕ) (a b : B) → BlockGave l j t a → BlockGave l j u b
        → ((w : ℕ) (v : B) → BlockWritten l j w v → (EndedBefore l w t × EndedBefore l w u) ⊎ (EndedBefore l t w × EndedBefore l u w))
        → a ≡ b
    block_reads_agree t u a b m n f = reads_agree block_j o t u a b (reads m) (reads n) f

    -- A finished read that began after a finished write of block j gave what that wrote there if every other write of it had ended before
    -- that write began, or began after the read ended.
    pub block_written_is_read : (w t : ℕ) (v a : B) → BlockWritten l j w v → Seen.ended w (finished ok) ∈ l → BlockGave l j t a
        → EndedBefore l w t
        → ((x : ℕ) (d : B) → BlockWritten l j x d → x ≢ w → EndedBefore l x w ⊎ EndedBefore l t x)
        → a ≡ v
    unfolding changed
    block_written_is_read w t v a (BlockWritten.in_stripe {v = c} b q) m n e f =
        written_is_read block_j o w t (write c) ok v a (λ s i. q) b m (reads n) e f
    block_written_is_read w t v a (BlockWritten.alone b) m n e f =
        written_is_read block_j o w t (write_block j v) ok v a (λ s i. apart.there w j v b s i) b m (reads n) e f
