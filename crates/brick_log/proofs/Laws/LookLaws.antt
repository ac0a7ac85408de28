-- What is found in the working log, and the plan for a message.
use mathlib.Core.Path.{◌≡◌, refl, sym, ap, ◌∙◌}
use mathlib.Core.Bool.{Bool, true, false, cond}
use mathlib.Core.List.{List}
use Prim.Native.Nat.{ℕ, zero, suc, ◌+◌, ◌-◌, ◌≤◌, ◌<◌}
use native.Mathlib.Omega.{arith}
use native.Mathlib.Nat.{zero-add}
use native.Mathlib.Numerals.{add-one}
use lib.Dec.{ltb}
use lib.ListN.{length, take, drop}
use lib.Seq.{drop-cons}
use borrow.Author.Count.{below_more}
use borrow.Author.Tests.{ltb-true, ltb-false, eq-eqb, ne_eqb}
use Rattle.image.specs.Brick.{Brick, entry_count, time_at}
use Rattle.image.specs.Opening.{working_log, blank}
use Rattle.image.proofs.Laws.HubLaws.{log_at}
use Rattle.image.specs.declared.Entry.{Entry}
use Rattle.message.specs.declared.Message.{Message}
use Rattle.brick_log.specs.BrickRules.{under, time_for}
use Rattle.brick_log.specs.declared.Known.{Known}
use Rattle.brick_log.specs.declared.Plan.TheVariants.{Answer, Remove}
use Rattle.brick_log.specs.Workers.{log_time, last_in, under_in, looked_in, cut_from, cut_for, trim_plan, plan_in}
use Rattle.brick_log.specs.Workers.{drop_plan, read_place, under_for, block_plan, plan_for, holder_for}
use Rattle.message.specs.Kinds.{order_read_kind, order_block_kind, read_kind, trim_kind, drop_kind}
use Rattle.settings.specs.Ranges.{max_capacity}
use Rattle.std.specs.List.{prefix_len}
use Rattle.std.specs.Prelude.{Some, None}

-- the last place that a test takes, turn by turn, from the newest down: it is here
pub last_found : (p : ℕ → Bool) (n i entry_count : ℕ) → n ≡ suc i → p i ≡ true → last_in p n ≡ last_in p entry_count → Some i ≡ looked_in (last_in p entry_count)
unfolding last_in looked_in
last_found p n i entry_count e h w = sym (ap (λ (k : ℕ). looked_in (last_in p k)) e ∙ rw h refl) ∙ ap looked_in w

-- the test takes the last place that it takes,
pub last_takes : (p : ℕ → Bool) (n i : ℕ) → last_in p n ≡ suc i → (i < n) × (p i ≡ true)
unfolding last_in
last_takes p zero i e = absurd (omega arith)
last_takes p (suc n) i e = go (p n) refl e (last_takes p n i)
  where
    go : (b : Bool) → p n ≡ b → cond b (suc n) (last_in p n) ≡ suc i → (last_in p n ≡ suc i → (i < n) × (p i ≡ true)) → (i < suc n) × (p i ≡ true)
    go true q w ih = let m : n ≡ i = omega arith in (omega arith, sym (ap p m) ∙ q)
    go false q w ih = let r = ih w in (omega (arith, r.0), r.1)

-- and where none is found it takes none
pub last_takes_none : (p : ℕ → Bool) (n : ℕ) → last_in p n ≡ 0 → (j : ℕ) → j < n → p j ≡ false
unfolding last_in
last_takes_none p zero e j h = absurd (omega arith)
last_takes_none p (suc n) e j h = go (p n) refl e (last_takes_none p n)
  where
    go : (b : Bool) → p n ≡ b → cond b (suc n) (last_in p n) ≡ 0 → (last_in p n ≡ 0 → (j : ℕ) → j < n → p j ≡ false) → p j ≡ false
    go true q w ih = absurd (omega arith)
    go false q w ih = below_more (λ (k : ℕ). p k ≡ false) n (ih w) q j (omega (arith, h))

-- the place that a lookup gives is one of the log
pub found_low : (p : ℕ → Bool) (n i : ℕ) → looked_in (last_in p n) ≡ Some i → i < n
unfolding looked_in
found_low p n i e = go (last_in p n) refl e
  where
    go : (m : ℕ) → last_in p n ≡ m → looked_in m ≡ Some i → i < n
    go zero q w = cc
    go (suc j) q w = let m : j ≡ i = cc in omega (arith, (last_takes p n j q).0)

-- ... is the lookup in the brick
pub under_brick : (x : Brick) (max n : ℕ) → n ≤ entry_count x → entry_count x ≤ max_capacity → under_in (working_log x) max n ≡ under x max n
unfolding last_in under
under_brick x max zero h c = refl
under_brick x max (suc i) h c =
    let e = log_at x i blank (omega arith) c in
    ap (λ (a : ℕ). cond (ltb a max) (suc i) (under_in (working_log x) max i)) (ap (λ (v : Entry). v.time) e)
    ∙ ap (λ (r : ℕ). cond (ltb (time_at x i) max) (suc i) r) (under_brick x max i (omega arith) c)

-- a Trim's cut: how many entries from place d on are under t
cut_prefix_from : (log : List Entry) (t d m : ℕ) → d + m ≤ length log
    → cut_from (log_time log) t d m ≡ d + prefix_len (λ (e : Entry). ltb e.time t) (take m (drop d log))
unfolding cut_from
cut_prefix_from log t d zero h = omega arith
cut_prefix_from log t d (suc m) h =
    rw (drop-cons log d blank (omega (arith, h)))
    (go (ltb (log_time log d) t) (cut_prefix_from log t (d + 1) m (omega (arith, h))))
  where
    go : (b : Bool) → cut_from (log_time log) t (d + 1) m ≡ d + 1 + prefix_len (λ (e : Entry). ltb e.time t) (take m (drop (d + 1) log))
        → cond b (cut_from (log_time log) t (d + 1) m) d
        ≡ d + cond b (1 + prefix_len (λ (e : Entry). ltb e.time t) (take m (drop (suc d) log))) 0
    go true e = e ∙ rw add-one (omega arith)
    go false e = omega arith

pub cut_prefix : (log : List Entry) (n t : ℕ) → n ≤ length log → cut_for log n t ≡ prefix_len (λ (e : Entry). ltb e.time t) (take (n - 1) log)
unfolding cut_for
cut_prefix log n t h = cut_prefix_from log t 0 (n - 1) (omega (arith, h)) ∙ zero-add _

-- The first of n times under t are those before place d: it is the last of them, or not under t.
pub record Cut (times : ℕ → ℕ) (n t d : ℕ) : Type 0 where
  pub low : d < n
  pub before : (i : ℕ) → i < d → times i < t
  pub here : d + 1 < n → t ≤ times d

cut_from_lem : (times : ℕ → ℕ) (n t d m : ℕ) → d + m + 1 ≡ n → ((i : ℕ) → i < d → times i < t) → Cut times n t (cut_from times t d m)
unfolding cut_from
cut_from_lem times n t d zero e b = record { low = omega arith; before = b; here = λ h. absurd (omega (arith, h)) }
cut_from_lem times n t d (suc m) e b = go (ltb (times d) t) refl (λ w. cut_from_lem times n t (d + 1) m (omega arith) (below_more (λ (i : ℕ). times i < t) d b w))
  where
    go : (v : Bool) → ltb (times d) t ≡ v → (times d < t → Cut times n t (cut_from times t (d + 1) m)) → Cut times n t (cond v (cut_from times t (d + 1) m) d)
    go true q f = f (ltb-true (times d) t q)
    go false q f = record { low = omega arith; before = b; here = λ h. ltb-false (times d) t q }

pub cut_is : (times : ℕ → ℕ) (n t : ℕ) → 1 ≤ n → Cut times n t (cut_from times t 0 (n - 1))
cut_is times n t h = cut_from_lem times n t 0 (n - 1) (omega arith) (λ i w. absurd (omega (arith, w)))

pub cut_for_lem : (log : List Entry) (n t : ℕ) → 1 ≤ n → Cut (log_time log) n t (cut_for log n t)
unfolding cut_for
cut_for_lem log n t h = cut_is (log_time log) n t h

-- the entry that a lookup gave, in the brick's own log
pub plan_brick : (x : Brick) (n : ℕ) → n ≤ entry_count x → entry_count x ≤ max_capacity
    → plan_in (working_log x) (looked_in n) ≡ Answer (holder_for x n) (time_for x n)
unfolding plan_in looked_in time_for holder_for
plan_brick x zero h c = refl
plan_brick x (suc i) h c =
    let m : suc i - 1 ≡ i = omega arith in
    rw (ne_eqb (suc i) 0 (λ q. omega (arith, q)))
    (ap (Answer (holder_for x (suc i)))
    (ap (λ (v : Entry). v.time) (log_at x i blank (omega arith) c)
    ∙ ap (λ (k : ℕ). time_at x k) (sym m)))

-- the plan by the message's kind
module _ (log : List Entry) (n : ℕ) (k : Known) (msg : Message) (brick : ℕ) where
  pub plan_trim : msg.kind ≡ trim_kind → plan_for log n k msg brick ≡ Remove (trim_plan log (cut_for log n msg.time))
  unfolding plan_for
  plan_trim e = rw (eq-eqb msg.kind trim_kind e) refl

  pub plan_drop : msg.kind ≡ drop_kind → plan_for log n k msg brick ≡ drop_plan log n msg.time
  unfolding plan_for
  plan_drop e = rw (ne_eqb msg.kind trim_kind (λ q. omega (arith, e, q)), eq-eqb msg.kind drop_kind e) refl

  pub plan_read : msg.kind ≡ read_kind → plan_for log n k msg brick ≡ Answer (read_place k msg.targets brick) k.newest
  unfolding plan_for
  plan_read e =
      rw (ne_eqb msg.kind trim_kind (λ q. omega (arith, e, q)), ne_eqb msg.kind drop_kind (λ q. omega (arith, e, q)), eq-eqb msg.kind read_kind e) refl

  pub plan_look : msg.kind ≡ order_read_kind → plan_for log n k msg brick ≡ plan_in log (looked_in (under_for log n k msg))
  unfolding plan_for
  plan_look e =
      rw (
        ne_eqb msg.kind trim_kind (λ q. omega (arith, e, q)),
        ne_eqb msg.kind drop_kind (λ q. omega (arith, e, q)),
        ne_eqb msg.kind read_kind (λ q. omega (arith, e, q)),
        eq-eqb msg.kind order_read_kind e,
      )
      refl

  pub plan_block : msg.kind ≡ order_block_kind → plan_for log n k msg brick ≡ block_plan k msg brick
  unfolding plan_for
  plan_block e =
      rw (
        ne_eqb msg.kind trim_kind (λ q. omega (arith, e, q)),
        ne_eqb msg.kind drop_kind (λ q. omega (arith, e, q)),
        ne_eqb msg.kind read_kind (λ q. omega (arith, e, q)),
        ne_eqb msg.kind order_read_kind (λ q. omega (arith, e, q)),
        eq-eqb msg.kind order_block_kind e,
      )
      refl

  pub plan_other : (msg.kind ≡ trim_kind → ⊥) → (msg.kind ≡ drop_kind → ⊥) → (msg.kind ≡ read_kind → ⊥) → (msg.kind ≡ order_read_kind → ⊥)
      → (msg.kind ≡ order_block_kind → ⊥) → plan_for log n k msg brick ≡ Answer None 0
  unfolding plan_for
  plan_other a g b c d =
      rw (
        ne_eqb msg.kind trim_kind a,
        ne_eqb msg.kind drop_kind g,
        ne_eqb msg.kind read_kind b,
        ne_eqb msg.kind order_read_kind c,
        ne_eqb msg.kind order_block_kind d,
      )
      refl

-- a Trim keeps one of the entries
pub cut_low : (log : List Entry) (n t : ℕ) → 1 ≤ n → cut_for log n t < n
cut_low log n t l = (cut_for_lem log n t l).low
