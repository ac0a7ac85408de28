-- Laws of `specs/Corollaries`, of one block. In the stripes of a run a block that is set is there, and the others stay as they were.
use mathlib.Core.Path.{◌≡◌, sym, ap, ◌∙◌}
use mathlib.Core.Logic.{◌⊎◌, inl, inr}
use mathlib.Core.List.{List}
use Prim.Native.Nat.{ℕ, ◌*◌, ◌-◌, ◌<◌}
use native.Mathlib.Omega.{arith}
use lib.ListN.{length, take, replicate, length-replicate}
use Rattle.settings.specs.declared.Settings.{Settings}
use Rattle.byte_lists.specs.Lists.{zeros}
use Rattle.byte_lists.proofs.Laws.ZeroLaws.{zeros_take, zeros_drop}
use Rattle.erasure.specs.Code.{block_of}
use Rattle.erasure.proofs.Laws.BlockOfLaws.{block_within, with_block_length, block_with, block_beside}
use Rattle.order.specs.Claim.{write, write_block, Seen, ◌∈◌}
use Rattle.order.specs.OrderUse.{BlockWritten, BeganBefore}
use Rattle.order.proofs.Laws.BlockUseLaws.{BlocksApart, block_zeros_or_written, block_stays_away, block_until_another, block_reads_agree}
use Rattle.order.proofs.Laws.BlockUseLaws.{block_written_is_read}
use Rattle.register.specs.Runs.{zero_stripe, Event, run}
use Rattle.register.specs.Corollaries.{BlockWriteStaysAway, BlockWriteIsThereUntilAnother, BlockReadGivesOneWrite, CutBlockWriteIsThereOrAway}
use Rattle.register.specs.Corollaries.{WhatWasStoredInABlockIsThere}
use Rattle.register.proofs.Laws.BeganLaws.{Measured, run_measured}
use Rattle.register.proofs.Laws.TheoremProof.{every_run_has_one_order}

-- a block of zeros
zero_block : (s : Settings) (j : ℕ) → j < s.m → block_of s.size (zero_stripe s) j ≡ replicate s.size 0
unfolding block_of zero_stripe zeros
zero_block s j l =
    let long : length (zero_stripe s) ≡ s.m * s.size = length-replicate (s.m * s.size) 0 in
    let w = block_within s.m s.size j (zero_stripe s) long l in
    ap (take s.size) (zeros_drop (s.m * s.size) (j * s.size) (omega (arith, w, long)))
    ∙ zeros_take (s.m * s.size - j * s.size) s.size (omega (arith, w, long))

module _ (s : Settings) (events : List Event) (k : ℕ) where
  written_block : (w i : ℕ) (b : List ℕ) → Seen.began w (write_block i b) ∈ (run s events).seen k → (i < s.m) × (length b ≡ s.size)
  unfolding Measured
  written_block w i b m = run_measured s events k w (write_block i b) m

  blocks_apart : BlocksApart ((run s events).seen k)
  unfolding zero_stripe Measured
  blocks_apart =
      record {
        Fits = λ (v : List ℕ). length v ≡ s.m * s.size;
        fresh = length-replicate (s.m * s.size) 0;
        whole = λ w v m. run_measured s events k w (write v) m;
        stays = λ w i b m v f. let e = written_block w i b m in
            with_block_length s.size v i b e.1 (block_within s.m s.size i v f e.0) ∙ f;
        there = λ w i b m v f. let e = written_block w i b m in block_with s.size v i b e.1 (block_within s.m s.size i v f e.0);
        others = λ w i j b m n v f. let e = written_block w i b m in
            block_beside s.size v i b e.1 (block_within s.m s.size i v f e.0) j (λ q. n (sym q));
      }

pub block_write_stays_away : BlockWriteStaysAway
block_write_stays_away s e events k l j w t u v a b = block_stays_away (blocks_apart s events k) j (every_run_has_one_order s e events k l) w t u v a b

pub block_write_is_there_until_another : BlockWriteIsThereUntilAnother
block_write_is_there_until_another s e events k l j w t u v b =
    block_until_another (blocks_apart s events k) j (every_run_has_one_order s e events k l) w t u v b

pub block_read_gives_one_write : BlockReadGivesOneWrite
block_read_gives_one_write s e events k l j t a low m =
    go (block_zeros_or_written (blocks_apart s events k) j (every_run_has_one_order s e events k l) t a m)
  where
    go : (a ≡ block_of s.size (zero_stripe s) j)
        ⊎ ((x : ℕ) × BlockWritten ((run s events).seen k) j x a × BeganBefore ((run s events).seen k) x t)
        → (a ≡ replicate s.size 0) ⊎ ((x : ℕ) × BlockWritten ((run s events).seen k) j x a × BeganBefore ((run s events).seen k) x t)
    go (inl q) = inl (q ∙ zero_block s j low)
    go (inr w) = inr w

pub cut_block_write_is_there_or_away : CutBlockWriteIsThereOrAway
cut_block_write_is_there_or_away s e events k l j t u a b =
    block_reads_agree (blocks_apart s events k) j (every_run_has_one_order s e events k l) t u a b

pub what_was_stored_in_a_block_is_there : WhatWasStoredInABlockIsThere
what_was_stored_in_a_block_is_there s e events k l j w t v a =
    block_written_is_read (blocks_apart s events k) j (every_run_has_one_order s e events k l) w t v a
