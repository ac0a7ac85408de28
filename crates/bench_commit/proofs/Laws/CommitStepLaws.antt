-- What the four steps of a coordinator keep, and that their refusals have numbers.
use mathlib.Core.Path.{◌≡◌, refl}
use mathlib.Core.Bool.{Bool, true, false, cond}
use mathlib.Core.List.{List, []}
use Prim.Native.Nat.{ℕ}
use native.Mathlib.Omega.{arith}
use lib.Dec.{eqb, leb}
use borrow.Author.Tests.{leb-false}
use Rattle.settings.specs.Times.{draw_refusal, draw_of, time_of, next_count, advanced}
use Rattle.settings.specs.declared.Clock.{Clock}
use Rattle.settings.specs.Times.{Draw}
use Rattle.settings.specs.Times.{Drawn, Refused}
use Rattle.message.specs.declared.Reply.{Reply}
use Rattle.coord_apply.specs.Acts.{ending, starting, round_message, first_op}
use Rattle.coord_apply.specs.Answers.{Buffered, Went, Step, refused, went, after_checks, nothing_seen, cut_seen, blocks_after, stripe_after, coded_after, sent_blocks}
use Rattle.coord_record.specs.Records.{idle_kind, no_bricks}
use Rattle.coordinator.specs.Routines.{take_step, crashed, crash_step, drawn_then, write_step, read_step}
use Rattle.bench_commit.proofs.Laws.CommitLaws.{Numbered}

-- a property of what was done, or of nothing where it was refused
abbrev pub WentSo : (Went → Type 0) → Step → Type 0
WentSo P (refused number) = Unit {0}
WentSo P (went g) = P g

pub so_checked : (P : Went → Type 0) (k : ℕ) (p : Step) → WentSo P p → WentSo P (after_checks k p)
unfolding after_checks
so_checked P k p h = go (leb k 0)
  where
    go : (b : Bool) → WentSo P (cond b p (refused k))
    go true = h
    go false = tt

pub so_drawn : (P : Went → Type 0) (d : Draw) (f : ℕ → Clock → Went) → ((t : ℕ) (c : Clock) → P (f t c)) → WentSo P (drawn_then d f)
unfolding drawn_then
so_drawn P (Drawn t c) f h = h t c
so_drawn P (Refused k) f h = tt

blocks_of_lem : (h : Buffered) (p : Step) → WentSo (λ (g : Went). g.next.blocks ≡ h.blocks) p → blocks_after h p ≡ h.blocks
unfolding blocks_after
blocks_of_lem h (refused k) e = refl
blocks_of_lem h (went g) e = e

stripe_of_lem : (h : Buffered) (p : Step) → WentSo (λ (g : Went). g.next.stripe ≡ h.stripe) p → stripe_after h p ≡ h.stripe
unfolding stripe_after
stripe_of_lem h (refused k) e = refl
stripe_of_lem h (went g) e = e

coded_of_lem : (old : List ℕ) (p : Step) → WentSo (λ (g : Went). sent_blocks g.sent old ≡ old) p → coded_after old p ≡ old
unfolding coded_after
coded_of_lem old (refused k) e = refl
coded_of_lem old (went g) e = e

-- refusals have numbers
numbered_checked : (k : ℕ) (p : Step) → Numbered p → Numbered (after_checks k p)
unfolding after_checks
numbered_checked k p h = go (leb k 0) refl
  where
    go : (b : Bool) → leb k 0 ≡ b → Numbered (cond b p (refused k))
    go true e = h
    go false e = λ z. (let l = leb-false k 0 e in absurd (omega arith))

numbered_drawn : (c : Clock) (reading : ℕ) (f : ℕ → Clock → Went) → Numbered (drawn_then (draw_of c reading) f)
unfolding drawn_then draw_of
numbered_drawn c reading f = go (leb (draw_refusal c reading) 0) refl
  where
    go : (b : Bool) → leb (draw_refusal c reading) 0 ≡ b
        → Numbered (drawn_then (cond b (Drawn (time_of (next_count c.last reading) c.coordinator) (advanced c reading)) (Refused (draw_refusal c reading))) f)
    go true e = tt
    go false e = λ z. (let l = leb-false (draw_refusal c reading) 0 e in absurd (omega arith))

module _ (n m size stripes : ℕ) (h : Buffered) where
  module _ (number reading : ℕ) (bytes : List ℕ) where
    pub write_numbered : Numbered (write_step n m size stripes h number reading bytes)
    unfolding write_step
    write_numbered = numbered_checked _ _ (numbered_drawn h.state.clock reading _)

    pub write_blocks : blocks_after h (write_step n m size stripes h number reading bytes) ≡ h.blocks
    unfolding write_step starting
    write_blocks = blocks_of_lem h _ (so_checked _ _ _ (so_drawn _ (draw_of h.state.clock reading) _ (λ t c. refl)))

    pub write_coded : (old : List ℕ) → coded_after old (write_step n m size stripes h number reading bytes) ≡ old
    unfolding write_step starting sent_blocks round_message first_op
    write_coded old = coded_of_lem old _ (so_checked _ _ _ (so_drawn _ (draw_of h.state.clock reading) _ (λ t c. refl)))

  module _ (number reading first : ℕ) where
    pub read_numbered : Numbered (read_step n m size stripes h number reading first)
    unfolding read_step
    read_numbered = numbered_checked _ _ (numbered_drawn h.state.clock reading _)

    pub read_blocks : blocks_after h (read_step n m size stripes h number reading first) ≡ h.blocks
    unfolding read_step starting
    read_blocks = blocks_of_lem h _ (so_checked _ _ _ (so_drawn _ (draw_of h.state.clock reading) _ (λ t c. refl)))

    pub read_stripe : stripe_after h (read_step n m size stripes h number reading first) ≡ h.stripe
    unfolding read_step starting
    read_stripe = stripe_of_lem h _ (so_checked _ _ _ (so_drawn _ (draw_of h.state.clock reading) _ (λ t c. refl)))

    pub read_coded : (old : List ℕ) → coded_after old (read_step n m size stripes h number reading first) ≡ old
    unfolding read_step starting sent_blocks round_message first_op
    read_coded old = coded_of_lem old _ (so_checked _ _ _ (so_drawn _ (draw_of h.state.clock reading) _ (λ t c. refl)))

  pub crash_so : (P : Went → Type 0) → P (record { next = h; sent = []; seen = nothing_seen }) → P (ending n h h.stripe [] cut_seen no_bricks) → WentSo P (crash_step n m size stripes h)
  unfolding crash_step crashed
  crash_so P a b = so_checked P _ (went (crashed n h)) (go (eqb h.state.op.kind idle_kind))
    where
      go : (t : Bool) → P (cond t (record { next = h; sent = []; seen = nothing_seen }) (ending n h h.stripe [] cut_seen no_bricks))
      go true = a
      go false = b

  pub crash_numbered : Numbered (crash_step n m size stripes h)
  unfolding crash_step
  crash_numbered = numbered_checked _ (went (crashed n h)) tt

  pub crash_blocks : blocks_after h (crash_step n m size stripes h) ≡ h.blocks
  unfolding ending
  crash_blocks = blocks_of_lem h _ (crash_so _ refl refl)

  pub crash_stripe : stripe_after h (crash_step n m size stripes h) ≡ h.stripe
  unfolding ending
  crash_stripe = stripe_of_lem h _ (crash_so _ refl refl)

  pub crash_coded : (old : List ℕ) → coded_after old (crash_step n m size stripes h) ≡ old
  unfolding ending sent_blocks
  crash_coded old = coded_of_lem old _ (crash_so _ refl refl)

  pub take_numbered : (r : Reply) (block : List ℕ) (coded : ℕ) → Numbered (take_step n m size stripes h r block coded)
  unfolding take_step
  take_numbered r block coded = numbered_checked _ _ tt
