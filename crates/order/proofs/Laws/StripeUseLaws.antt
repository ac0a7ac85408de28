-- Laws of `specs/OrderUse`, of reads and writes of whole stripes.
use mathlib.Core.Path.{◌≡◌, refl, subst}
use mathlib.Core.Logic.{◌≢◌, ◌⊎◌, inl, inr}
use mathlib.Core.List.{List}
use Prim.Native.Nat.{ℕ}
use native.Mathlib.Omega.{arith}
use Rattle.order.specs.Claim.{Blocks, Action, read, write, read_block, write_block, ok, bytes, changed, given, stripe, finished, Seen, ◌∈◌}
use Rattle.order.specs.Claim.{Before, OneOrder}
use Rattle.order.specs.OrderUse.{EndedBefore, ReadGave, OnlyWriteOf, WriteWithin, NoBlockWrites, IsWrite, of_stripe, of_block}
use Rattle.order.proofs.Laws.OrderUseLaws.{before_left, one_kind, finished_began}
use Rattle.order.proofs.Laws.LastSetLaws.{Look, Reads, zeros_or_written, stays_away, until_another, reads_agree, written_is_read}

module _ {S B : Type 0} {blocks : Blocks S B} {z : S} {l : List (Seen (stripe blocks z))} where
  -- if no write is of one block, each operation leaves the stripe, or is a write of what it leaves
  leaves_or_writes : NoBlockWrites l → (w : ℕ) (k : Action blocks) → Seen.began w k ∈ l
      → ((s : S) → Unit {0} → changed k s ≡ s) ⊎ ((s : S) → Unit {0} → Seen.began w (write (changed k s)) ∈ l)
  unfolding changed
  leaves_or_writes none w read b = inl (λ s f. refl)
  leaves_or_writes none w (write v) b = inr (λ s f. b)
  leaves_or_writes none w (read_block j) b = inl (λ s f. refl)
  leaves_or_writes none w (write_block j c) b = absurd (none w j c b)

  -- in any case it leaves the stripe, or is a write
  pub leaves_or_is_write : (w : ℕ) (k : Action blocks) → Seen.began w k ∈ l
      → ((s : S) → Unit {0} → changed k s ≡ s) ⊎ ((s : S) → Unit {0} → IsWrite l w)
  unfolding changed
  leaves_or_is_write w read b = inl (λ s f. refl)
  leaves_or_is_write w (write v) b = inr (λ s f. of_stripe b)
  leaves_or_is_write w (read_block j) b = inl (λ s f. refl)
  leaves_or_is_write w (write_block j c) b = inr (λ s f. of_block b)

  -- the whole stripe is looked at
  abbrev whole : (W : ℕ → S → Type 0)
      → ((w : ℕ) (k : Action blocks) → Seen.began w k ∈ l → ((s : S) → Unit {0} → changed k s ≡ s) ⊎ ((s : S) → Unit {0} → W w (changed k s)))
      → Look l S
  whole W each =
      record { part = λ (s : S). s; Fits = λ (s : S). Unit {0}; Written = W; fresh = tt; stays = λ w k b s f. tt; each = each }

  abbrev by_bytes : NoBlockWrites l → Look l S
  by_bytes none = whole (λ (w : ℕ) (v : S). Seen.began w (write v) ∈ l) (leaves_or_writes none)

  abbrev by_write : Look l S
  by_write = whole (λ (w : ℕ) (v : S). IsWrite l w) leaves_or_is_write

  module _ (o : OneOrder (stripe blocks z) l) where
    -- what gave bytes is a read of the stripe
    pub read_began : (t : ℕ) (a : S) → ReadGave l t a → Seen.began t read ∈ l
    unfolding given
    read_began t a m = go w.0 w.1 w.2 w.3
      where
        w : (k : Action blocks) × (v : S) × Seen.began t k ∈ l × (bytes a ≡ given k v)
        w = finished_began o t (bytes a) m

        go : (k : Action blocks) (v : S) → Seen.began t k ∈ l → bytes a ≡ given k v → Seen.began t read ∈ l
        go read v b e = b
        go (write c) v b e = absurd (let q : ◌≡◌ {A = ℕ} 0 1 = cc in omega arith)
        go (read_block j) v b e = absurd (let q : ◌≡◌ {A = ℕ} 0 1 = cc in omega arith)
        go (write_block j c) v b e = absurd (let q : ◌≡◌ {A = ℕ} 0 1 = cc in omega arith)

    reads_whole : (W : ℕ → S → Type 0)
        → (each : (w : ℕ) (k : Action blocks) → Seen.began w k ∈ l
        → ((s : S) → Unit {0} → changed k s ≡ s) ⊎ ((s : S) → Unit {0} → W w (changed k s)))
        → (t : ℕ) (a : S) → ReadGave l t a → Reads (whole W each) t a
    unfolding changed given
    reads_whole W each t a m =
        record {
          kind = read;
          given = bytes a;
          began = read_began t a m;
          ended = m;
          leaves = λ s f. refl;
          tells = λ s f e. let q : bytes a ≡ bytes s = e in cc;
        }

    module _ (none : NoBlockWrites l) where
      reads : (t : ℕ) (a : S) → ReadGave l t a → Reads (by_bytes none) t a
      reads = reads_whole _ (leaves_or_writes none)

      -- A finished read gave the zeros, or the bytes of one write that began before that read ended.
      pub whole_zeros_or_written : (t : ℕ) (a : S) → ReadGave l t a
          → (a ≡ z) ⊎ ((x : ℕ) × Before (Seen.began x (write a)) (Seen.ended t (finished (bytes a))) l)
      unfolding reads reads_whole
      whole_zeros_or_written t a m = go (zeros_or_written (by_bytes none) o t a (reads t a m))
        where
          go : (a ≡ z)
              ⊎ ((x : ℕ) × (k : Action blocks) × Seen.began x (write a) ∈ l × Before (Seen.began x k) (Seen.ended t (finished (bytes a))) l)
              → (a ≡ z) ⊎ ((x : ℕ) × Before (Seen.began x (write a)) (Seen.ended t (finished (bytes a))) l)
          go (inl e) = inl e
          go (inr (x, k, b, p)) =
              inr (
                x,
                subst (λ (j : Action blocks). Before (Seen.began x j) (Seen.ended t (finished (bytes a))) l)
                    (one_kind o x k (write a) (before_left p) b) p,
              )

      -- A write that ended before a read that gave other bytes is in no later read, if it is the only write of its bytes.
      pub whole_stays_away : (w t u : ℕ) (v a b : S) → OnlyWriteOf l w v → EndedBefore l w t → EndedBefore l t u
          → ReadGave l t a → ReadGave l u b → a ≢ v → b ≢ v
      whole_stays_away w t u v a b only e d m n = stays_away (by_bytes none) o w t u v a b only.1 e d (reads t a m) (reads u b n)

      -- A later read that gave other bytes gave those of another write, one within the time of the two reads.
      pub whole_until_another : (w t u : ℕ) (v b : S) → EndedBefore l w t → EndedBefore l t u → ReadGave l t v → ReadGave l u b → b ≢ v
          → (x : ℕ) × (x ≢ w) × WriteWithin l t u x b
      whole_until_another w t u v b e d m n f =
          let h = until_another (by_bytes none) o w t u v b e d (reads t v m) (reads u b n) f in (h.0, h.1, (h.2, h.3))

    -- Two finished reads gave the same bytes if every write, of the stripe or of one block, had ended before both began, by answer, abort
    -- or cut, or began after both had ended.
    pub whole_reads_agree : (t u : ℕ) (a b : S) → ReadGave l t a → ReadGave l u b
        → ((w : ℕ) → IsWrite l w → (EndedBefore l w t × EndedBefore l w u) ⊎ (EndedBefore l t w × EndedBefore l u w))
        → a ≡ b
    whole_reads_agree t u a b m n f =
        reads_agree by_write o t u a b (reads_whole _ leaves_or_is_write t a m) (reads_whole _ leaves_or_is_write u b n) (λ w v i. f w i)

    -- A finished read that began after a finished write gave that write's bytes if every other write, of the stripe or of one block, had
    -- ended before that write began, or began after the read ended.
    pub whole_written_is_read : (w t : ℕ) (v a : S) → Seen.began w (write v) ∈ l → Seen.ended w (finished ok) ∈ l → ReadGave l t a
        → EndedBefore l w t
        → ((x : ℕ) → IsWrite l x → x ≢ w → EndedBefore l x w ⊎ EndedBefore l t x)
        → a ≡ v
    unfolding changed
    whole_written_is_read w t v a b m n e f =
        written_is_read by_write o w t (write v) ok v a (λ s i. refl) b m (reads_whole _ leaves_or_is_write t a n) e (λ x d i. f x i)
