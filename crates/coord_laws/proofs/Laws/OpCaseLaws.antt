-- Where a sound operation is, and that the next round of it is sound.
use mathlib.Core.Path.{◌≡◌, refl}
use mathlib.Core.Bool.{Bool, true, false, cond, ◌&&◌, ◌||◌}
use Prim.Native.Nat.{ℕ, ◌+◌, ◌≤◌, ◌<◌}
use native.Mathlib.Omega.{arith}
use lib.Dec.{eqb, leb}
use borrow.Author.Tests.{eq-eqb, ne_eqb, le-leb, leb-true, eqb-true}
use Rattle.coord_apply.specs.Acts.{next_op}
use Rattle.coord_record.specs.Sound.{max_right, stored_right, recovery_right, opening_right, read_right, write_right, block_write_right, unset_op, op_right}
use Rattle.coord_record.specs.declared.Op.{Op}
use Rattle.byte_lists.proofs.Laws.BoolLaws.{and_left, and_right}
use Rattle.settings.specs.Times.{no_upper_end, valid_time}
use Rattle.coord_laws.specs.OpCases.{can_recover, InRead}
use Rattle.message.specs.Kinds.{last_round, read_kind, order_kind, order_read_kind, order_block_kind, write_kind, modify_kind, first_round, second_round, third_round}
use Rattle.coord_record.specs.Records.{idle_kind, writing_kind, writing_block_kind, is_reading}

pub clash : {A : Type 0} → false ≡ true → A
clash e = absurd (let z : ◌≡◌ {A = ℕ} 0 1 = cc in omega arith)

-- how kind, phase and round of a running operation go together
pub data Fit (op : Op) : Type 0 where
  reading : is_reading op.kind ≡ true → op.phase ≡ read_kind → op.round ≡ first_round → Fit op
  looking : can_recover op.kind ≡ true → op.phase ≡ order_read_kind → second_round ≤ op.round → max_right op.round op.max ≡ true → Fit op
  restoring : can_recover op.kind ≡ true → op.phase ≡ write_kind → third_round ≤ op.round → Fit op
  ordering : op.kind ≡ writing_kind → op.phase ≡ order_kind → op.round ≡ first_round → op.first ≡ 0 → Fit op
  storing : op.kind ≡ writing_kind → op.phase ≡ write_kind → op.round ≡ second_round → Fit op
  block_ordering : op.kind ≡ writing_block_kind → op.phase ≡ order_block_kind → op.round ≡ first_round → Fit op
  modifying : op.kind ≡ writing_block_kind → op.phase ≡ modify_kind → op.round ≡ second_round → Fit op

-- reads and writes of one block may recover, and no idle coordinator does
pub reading_recovers : (kind : ℕ) → is_reading kind ≡ true → can_recover kind ≡ true
unfolding can_recover
reading_recovers kind e = rw e

pub block_recovers : (kind : ℕ) → kind ≡ writing_block_kind → can_recover kind ≡ true
unfolding can_recover is_reading
block_recovers kind e = rw e

pub reading_runs : (kind : ℕ) → is_reading kind ≡ true → kind ≡ idle_kind → ⊥
unfolding is_reading
reading_runs kind e k = clash (rw k at e)

pub recovering_runs : (kind : ℕ) → can_recover kind ≡ true → kind ≡ idle_kind → ⊥
unfolding can_recover is_reading
recovering_runs kind e k = clash (rw k at e)

fit_recovery : (op : Op) → can_recover op.kind ≡ true → recovery_right op ≡ true → Fit op
unfolding recovery_right stored_right
fit_recovery op k e = go (eqb op.phase order_read_kind) refl e
  where
    go : (x : Bool) → eqb op.phase order_read_kind ≡ x
        → cond x (leb second_round op.round && leb op.round last_round && max_right op.round op.max)
        (eqb op.phase write_kind && leb third_round op.round && leb op.round last_round && eqb op.max 0) ≡ true
        → Fit op
    go true ex w =
        looking k (eqb-true op.phase order_read_kind ex) (leb-true second_round op.round (and_left _ _ (and_left _ _ w)))
        (and_right (leb second_round op.round && leb op.round last_round) _ w)
    go false ex w =
        let l = and_left _ _ (and_left _ _ w) in
        restoring k (eqb-true op.phase write_kind (and_left _ _ l)) (leb-true third_round op.round (and_right (eqb op.phase write_kind) _ l))

fit_read : (op : Op) → is_reading op.kind ≡ true → read_right op ≡ true → Fit op
unfolding read_right opening_right
fit_read op k e = go (eqb op.phase read_kind) refl e
  where
    go : (x : Bool) → eqb op.phase read_kind ≡ x → cond x (eqb op.round first_round && eqb op.max 0) (recovery_right op) ≡ true → Fit op
    go true ex w = reading k (eqb-true op.phase read_kind ex) (eqb-true op.round first_round (and_left _ _ w))
    go false ex w = fit_recovery op (reading_recovers op.kind k) w

fit_write : (op : Op) → op.kind ≡ writing_kind → write_right op ≡ true → Fit op
unfolding write_right
fit_write op k e = go (eqb op.phase order_kind) refl (and_right (eqb op.first 0 && eqb op.max 0) _ e)
  where
    first : op.first ≡ 0
    first = eqb-true op.first 0 (and_left _ _ (and_left _ _ e))

    go : (x : Bool) → eqb op.phase order_kind ≡ x → cond x (eqb op.round first_round) (eqb op.phase write_kind && eqb op.round second_round) ≡ true → Fit op
    go true ex w = ordering k (eqb-true op.phase order_kind ex) (eqb-true op.round first_round w) first
    go false ex w = storing k (eqb-true op.phase write_kind (and_left _ _ w)) (eqb-true op.round second_round (and_right (eqb op.phase write_kind) _ w))

fit_block_write : (op : Op) → op.kind ≡ writing_block_kind → block_write_right op ≡ true → Fit op
unfolding block_write_right opening_right
fit_block_write op k e = go (eqb op.phase order_block_kind) (eqb op.phase modify_kind) refl refl e
  where
    go : (x y : Bool) → eqb op.phase order_block_kind ≡ x → eqb op.phase modify_kind ≡ y
        → cond x (eqb op.round first_round && eqb op.max 0) (cond y (eqb op.round second_round && eqb op.max 0) (recovery_right op)) ≡ true
        → Fit op
    go true y ex ey w = block_ordering k (eqb-true op.phase order_block_kind ex) (eqb-true op.round first_round (and_left _ _ w))
    go false true ex ey w = modifying k (eqb-true op.phase modify_kind ey) (eqb-true op.round second_round (and_left _ _ w))
    go false false ex ey w = fit_recovery op (block_recovers op.kind k) w

pub fit : (op : Op) → op_right op ≡ true → (op.kind ≡ idle_kind → op.phase ≡ 0 → ⊥) → Fit op
unfolding op_right unset_op
fit op e n = go (eqb op.kind idle_kind) (is_reading op.kind) (eqb op.kind writing_kind) refl refl refl e
  where
    go : (a b d : Bool) → eqb op.kind idle_kind ≡ a → is_reading op.kind ≡ b → eqb op.kind writing_kind ≡ d
        → cond a (eqb op.phase 0 && eqb op.round 0 && eqb op.max 0 && eqb op.first 0 && eqb op.stripe 0)
        (cond b (read_right op) (cond d (write_right op) (eqb op.kind writing_block_kind && block_write_right op))) ≡ true
        → Fit op
    go true b d ea eb ed q = absurd (n (eqb-true op.kind idle_kind ea) (eqb-true op.phase 0 (and_left _ _ (and_left _ _ (and_left _ _ (and_left _ _ q))))))
    go false true d ea eb ed q = fit_read op eb q
    go false false true ea eb ed q = fit_write op (eqb-true op.kind writing_kind ed) q
    go false false false ea eb ed q =
        fit_block_write op (eqb-true op.kind writing_block_kind (and_left _ _ q)) (and_right (eqb op.kind writing_block_kind) _ q)

-- an operation in a phase runs
pub phase_runs : (op : Op) → op_right op ≡ true → read_kind ≤ op.phase → op.kind ≡ idle_kind → ⊥
phase_runs op e l i = go (fit op e (λ _ z. omega arith))
  where
    go : Fit op → ⊥
    go (reading k q r) = reading_runs op.kind k i
    go (looking k q r m) = recovering_runs op.kind k i
    go (restoring k q r) = recovering_runs op.kind k i
    go (ordering k q r f) = omega arith
    go (storing k q r) = omega arith
    go (block_ordering k q r) = omega arith
    go (modifying k q r) = omega arith

pub in_read : (op : Op) → op_right op ≡ true → op.phase ≡ read_kind → InRead op
in_read op e p = go (fit op e (λ _ z. omega arith))
  where
    go : Fit op → InRead op
    go (reading k q r) = record { kind-is = k; round_is = r }
    go (looking k q r m) = absurd (omega arith)
    go (restoring k q r) = absurd (omega arith)
    go (ordering k q r f) = absurd (omega arith)
    go (storing k q r) = absurd (omega arith)
    go (block_ordering k q r) = absurd (omega arith)
    go (modifying k q r) = absurd (omega arith)

-- an Order round: a write in its first round
pub record InOrder (op : Op) : Type 0 where
  pub kind-is : op.kind ≡ writing_kind
  pub round_is : op.round ≡ first_round
  pub first-is : op.first ≡ 0

pub in_order : (op : Op) → op_right op ≡ true → op.phase ≡ order_kind → InOrder op
in_order op e p = go (fit op e (λ _ z. omega arith))
  where
    go : Fit op → InOrder op
    go (reading k q r) = absurd (omega arith)
    go (looking k q r m) = absurd (omega arith)
    go (restoring k q r) = absurd (omega arith)
    go (ordering k q r f) = record { kind-is = k; round_is = r; first-is = f }
    go (storing k q r) = absurd (omega arith)
    go (block_ordering k q r) = absurd (omega arith)
    go (modifying k q r) = absurd (omega arith)

-- a round of a block write: its first, and its Modify round
pub record InBlockWrite (op : Op) (round : ℕ) : Type 0 where
  pub kind-is : op.kind ≡ writing_block_kind
  pub round_is : op.round ≡ round

pub in_block_order : (op : Op) → op_right op ≡ true → op.phase ≡ order_block_kind → InBlockWrite op first_round
in_block_order op e p = go (fit op e (λ _ z. omega arith))
  where
    go : Fit op → InBlockWrite op first_round
    go (reading k q r) = absurd (omega arith)
    go (looking k q r m) = absurd (omega arith)
    go (restoring k q r) = absurd (omega arith)
    go (ordering k q r f) = absurd (omega arith)
    go (storing k q r) = absurd (omega arith)
    go (block_ordering k q r) = record { kind-is = k; round_is = r }
    go (modifying k q r) = absurd (omega arith)

pub in_modify : (op : Op) → op_right op ≡ true → op.phase ≡ modify_kind → InBlockWrite op second_round
in_modify op e p = go (fit op e (λ _ z. omega arith))
  where
    go : Fit op → InBlockWrite op second_round
    go (reading k q r) = absurd (omega arith)
    go (looking k q r m) = absurd (omega arith)
    go (restoring k q r) = absurd (omega arith)
    go (ordering k q r f) = absurd (omega arith)
    go (storing k q r) = absurd (omega arith)
    go (block_ordering k q r) = absurd (omega arith)
    go (modifying k q r) = record { kind-is = k; round_is = r }

-- an Order-and-read round: a read or a block write, from its second round on
pub record InRecovery (op : Op) : Type 0 where
  pub kind-is : can_recover op.kind ≡ true
  pub round-low : second_round ≤ op.round

pub in_recovery : (op : Op) → op_right op ≡ true → op.phase ≡ order_read_kind → InRecovery op
in_recovery op e p = go (fit op e (λ _ z. omega arith))
  where
    go : Fit op → InRecovery op
    go (reading k q r) = absurd (omega arith)
    go (looking k q r m) = record { kind-is = k; round-low = r }
    go (restoring k q r) = absurd (omega arith)
    go (ordering k q r f) = absurd (omega arith)
    go (storing k q r) = absurd (omega arith)
    go (block_ordering k q r) = absurd (omega arith)
    go (modifying k q r) = absurd (omega arith)

-- past its own rounds, an operation that may recover is right if it is a recovery
recovery_is : (op : Op) → can_recover op.kind ≡ true → (op.phase ≡ read_kind → ⊥) → (op.phase ≡ order_block_kind → ⊥) → (op.phase ≡ modify_kind → ⊥)
    → recovery_right op ≡ true → op_right op ≡ true
unfolding can_recover op_right read_right block_write_right
recovery_is op k p o q e = go (is_reading op.kind) (eqb op.kind writing_block_kind) refl refl k
  where
    go : (r w : Bool) → is_reading op.kind ≡ r → eqb op.kind writing_block_kind ≡ w → r || w ≡ true
        → cond (eqb op.kind idle_kind) (unset_op op)
        (cond (is_reading op.kind) (cond (eqb op.phase read_kind) (opening_right op) (recovery_right op))
        (cond (eqb op.kind writing_kind) (write_right op)
        (eqb op.kind writing_block_kind
        && cond (eqb op.phase order_block_kind) (opening_right op) (cond (eqb op.phase modify_kind) (eqb op.round second_round && eqb op.max 0) (recovery_right op)))))
        ≡ true
    go true w er ew c = rw (ne_eqb op.kind idle_kind (reading_runs op.kind er), er, ne_eqb op.phase read_kind p) e
    go false true er ew c =
        let b = eqb-true op.kind writing_block_kind ew in
        rw (
          er,
          ew,
          ne_eqb op.kind idle_kind (λ i. omega arith),
          ne_eqb op.kind writing_kind (λ i. omega arith),
          ne_eqb op.phase order_block_kind o,
          ne_eqb op.phase modify_kind q,
        ) e
    go false false er ew c = clash c

-- the next round of each is right
pub first_recovery : (op : Op) → can_recover op.kind ≡ true → op.round ≡ first_round → op_right (next_op op order_read_kind no_upper_end) ≡ true
unfolding next_op recovery_right max_right
first_recovery op k r =
    recovery_is (next_op op order_read_kind no_upper_end) k (λ q. absurd (omega arith)) (λ q. absurd (omega arith)) (λ q. absurd (omega arith))
    (rw r (rw (eq-eqb no_upper_end no_upper_end refl)))

pub next_recovery : (op : Op) (max : ℕ) → InRecovery op → op.round < last_round → valid_time max ≡ true → op_right (next_op op order_read_kind max) ≡ true
unfolding next_op recovery_right max_right
next_recovery op max i l v =
    recovery_is (next_op op order_read_kind max) i.kind-is (λ q. absurd (omega arith)) (λ q. absurd (omega arith)) (λ q. absurd (omega arith))
    (rw (
      le-leb second_round (op.round + 1) (let q = i.round-low in omega arith),
      le-leb (op.round + 1) last_round (omega arith),
      ne_eqb (op.round + 1) second_round (λ q. absurd (let s = i.round-low in omega arith)),
      v,
    ))

pub write_stores : (op : Op) → InOrder op → op_right (next_op op write_kind 0) ≡ true
unfolding op_right is_reading write_right next_op
write_stores op i = rw (i.kind-is, i.round_is, i.first-is)

pub block_modifies : (op : Op) → InBlockWrite op first_round → op_right (next_op op modify_kind 0) ≡ true
unfolding op_right is_reading block_write_right next_op
block_modifies op i = rw (i.kind-is, i.round_is)

pub recovery_stores : (op : Op) → InRecovery op → op.round < last_round → op_right (next_op op write_kind 0) ≡ true
unfolding next_op recovery_right stored_right
recovery_stores op i l =
    recovery_is (next_op op write_kind 0) i.kind-is (λ q. absurd (omega arith)) (λ q. absurd (omega arith)) (λ q. absurd (omega arith))
    (rw (le-leb third_round (op.round + 1) (let q = i.round-low in omega arith), le-leb (op.round + 1) last_round (omega arith)))
