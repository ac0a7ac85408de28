-- A reply counted: the tally stays right, and what it says of each brick.
use mathlib.Core.Path.{◌≡◌, refl, sym, ap, ◌∙◌}
use mathlib.Core.Bool.{Bool, true, false, cond, not, ◌&&◌, ◌||◌}
use mathlib.Core.List.{List, [], ◌∷◌}
use mathlib.Core.Logic.{◌⊎◌, inl, inr}
use Prim.Native.Nat.{ℕ, zero, suc, ◌+◌, ◌≤◌, ◌<◌, max}
use native.Mathlib.Decide.{ℕ_discrete, dec_lt}
use native.Mathlib.Omega.{arith}
use lib.Dec.{eqb, leb, ltb}
use lib.ListN.{get_or, set, replicate, length-set}
use lib.Seq.{get_or-set_same, get_or-set_other}
use borrow.Author.Tests.{lt-ltb, eqb-true, leb-true, ltb-true, not-true}
use Rattle.byte_lists.proofs.Laws.EachLaws.{each_all, each_at}
use Rattle.coord_record.specs.CountedRules.{is_target, block_right, counted_right, entry_right, said_right, kept_right, tally_right}
use Rattle.coord_record.specs.Records.{target_count}
use Rattle.coord_record.specs.declared.Op.{Op}
use Rattle.coord_record.specs.declared.Tally.{Tally}
use Rattle.coord_tally.specs.Counting.{highest}
use Rattle.coord_decide.specs.Deciding.{answers, tallied}
use Rattle.message.specs.Flags.{member, members}
use Rattle.message.specs.Messages.{round_right, found_right, comparison_right, reply_right, reply_refusal}
use Rattle.message.specs.declared.Reply.{Reply}
use Rattle.settings.specs.Count.{count, one_if}
use Rattle.settings.proofs.Laws.CountLaws.{one_is, count_close}
use Rattle.byte_lists.proofs.Laws.BoolLaws.{and_left, and_right}
use Rattle.settings.specs.Refusal.{first_refusal, refuse_unless, bad_number, bad_message}
use Rattle.settings.specs.Times.{valid_time}
use Rattle.coord_laws.specs.Soundness.{Sized}
use Rattle.settings.specs.Ranges.{max_bricks}
use Rattle.message.specs.Kinds.{read_kind, modify_kind}
use Rattle.byte_lists.proofs.Laws.ZeroLaws.{zero_list, zeros_at as zero-entry}

-- A counted reply is of the running operation, its stripe and round, from a brick not counted before, with a block by the round's rules.
pub record Answering (n m : ℕ) (op : Op) (t : Tally) (r : Reply) : Type 0 where
  pub of-phase : r.kind ≡ op.phase
  pub of-stripe : r.stripe ≡ op.stripe
  pub of-operation : r.time ≡ op.time
  pub of-round : r.round ≡ op.round
  pub not-counted : member t.counted r.brick ≡ false
  pub block-right : block_right op.phase (is_target n (target_count m op.kind) op.first r.brick) r.yes r.held r.found ≡ true

pub answering : (n m : ℕ) (op : Op) (t : Tally) (r : Reply) → answers n m op t r ≡ true → Answering n m op t r
unfolding answers
answering n m op t r e =
    let k = eqb r.kind op.phase in
    let s = eqb r.stripe op.stripe in
    let o = eqb r.time op.time in
    let u = eqb r.round op.round in
    let c = not (member t.counted r.brick) in
    let b = block_right op.phase (is_target n (target_count m op.kind) op.first r.brick) r.yes r.held r.found in
    let five = and_left (k && s && o && u && c) b e in
    let four = and_left (k && s && o && u) c five in
    let three = and_left (k && s && o) u four in
    let two = and_left (k && s) o three in
    record {
      of-phase = eqb-true r.kind op.phase (and_left k s two);
      of-stripe = eqb-true r.stripe op.stripe (and_right k s two);
      of-operation = eqb-true r.time op.time (and_right (k && s) o three);
      of-round = eqb-true r.round op.round (and_right (k && s && o) u four);
      not-counted = not-true (member t.counted r.brick) (and_right (k && s && o && u) c five);
      block-right = and_right (k && s && o && u && c) b e;
    }

-- a reply that a brick may give
pub record ReplyParts (n : ℕ) (r : Reply) : Type 0 where
  pub brick-low : r.brick < n
  pub kind-low : read_kind ≤ r.kind
  pub kind-high : r.kind ≤ modify_kind
  pub time-valid : valid_time r.time ≡ true
  pub found_right : found_right r.found ≡ true
  pub comparison-right : comparison_right r.kind r.yes r.comparison ≡ true

right_parts : (n : ℕ) (r : Reply) → r.brick < n → reply_right r ≡ true → ReplyParts n r
unfolding reply_right
right_parts n r h e =
    let l = leb read_kind r.kind in
    let k = leb r.kind modify_kind in
    let v = valid_time r.time in
    let u = round_right r.round in
    let f = found_right r.found in
    let c = comparison_right r.kind r.yes r.comparison in
    let five = and_left (l && k && v && u && f) c e in
    let four = and_left (l && k && v && u) f five in
    let three = and_left (l && k && v) u four in
    let two = and_left (l && k) v three in
    record {
      brick-low = h;
      kind-low = leb-true read_kind r.kind (and_left l k two);
      kind-high = leb-true r.kind modify_kind (and_right l k two);
      time-valid = and_right (l && k) v three;
      found_right = and_right (l && k && v && u) f five;
      comparison-right = and_right (l && k && v && u && f) c e;
    }

pub reply_parts : (n : ℕ) (r : Reply) → reply_refusal n r ≡ 0 → ReplyParts n r
unfolding reply_refusal first_refusal
reply_parts n r e = go (ltb r.brick n) (reply_right r) refl refl e
  where
    go : (a b : Bool) → ltb r.brick n ≡ a → reply_right r ≡ b → first_refusal (refuse_unless a bad_number ∷ refuse_unless b bad_message ∷ []) ≡ 0 → ReplyParts n r
    go true true ea eb q = right_parts n r (ltb-true r.brick n ea) eb
    go true false ea eb q = absurd (omega arith)
    go false b ea eb q = absurd (omega arith)

pub tallied_sized : (t : Tally) (r : Reply) → Sized t → Sized (tallied t r)
unfolding tallied
tallied_sized t r s =
    record {
      counted-size = length-set t.counted r.brick 1 ∙ s.counted-size;
      granted-size = length-set t.granted r.brick (one_if r.yes) ∙ s.granted-size;
      held-size = length-set t.held r.brick (one_if r.held) ∙ s.held-size;
      found-size = length-set t.found r.brick r.found ∙ s.found-size;
      said-size = length-set t.said r.brick r.comparison ∙ s.said-size;
    }

-- none counted
pub zeros_at : (k b : ℕ) → get_or {A = ℕ} (replicate k 0) b 0 ≡ 0
zeros_at k b = ap (λ (l : List ℕ). get_or l b 0) (sym (zero_list k)) ∙ zero-entry k b

pub zeros_counted : (n : ℕ) → members (replicate max_bricks 0) n ≡ 0
unfolding members count member
zeros_counted zero = refl
zeros_counted (suc n) = rw (zeros_at max_bricks n) (let e = zeros_counted n in omega arith)

-- what is kept of a reply that answers is right
flag_low : (b : Bool) → leb (one_if b) 1 ≡ true
flag_low true = refl
flag_low false = refl

kept_right_lem : (n m : ℕ) (op : Op) (t : Tally) (r : Reply) → ReplyParts n r → Answering n m op t r
    → entry_right n (target_count m op.kind) op.phase op.first r.brick 1 (one_if r.yes) (one_if r.held) r.found ≡ true
unfolding entry_right counted_right
kept_right_lem n m op t r p a =
    rw (
      lt-ltb 0 op.phase (let q = a.of-phase in omega (arith, p.kind-low)),
      lt-ltb r.brick n p.brick-low,
      flag_low r.yes,
      flag_low r.held,
      p.found_right,
      one_is r.yes,
      one_is r.held,
    ) a.block-right

kept_said : (n m : ℕ) (op : Op) (t : Tally) (r : Reply) → ReplyParts n r → Answering n m op t r
    → said_right op.phase 1 (one_if r.yes) r.comparison ≡ true
unfolding said_right
kept_said n m op t r p a = rw (one_is r.yes, ← a.of-phase) p.comparison-right

-- the tally with it is right
pub tallied_right : (n m : ℕ) (op : Op) (t : Tally) (r : Reply) → n ≤ max_bricks → Sized t → tally_right n (target_count m op.kind) op.phase op.first t ≡ true
    → ReplyParts n r → Answering n m op t r
    → tally_right n (target_count m op.kind) op.phase op.first (tallied t r) ≡ true
unfolding tally_right kept_right tallied
tallied_right n m op t r few s e p a =
    each_all (kept_right n (target_count m op.kind) op.phase op.first (tallied t r)) max_bricks (λ b l. go b l (ℕ_discrete b r.brick))
  where
    old : (b : ℕ) → b < max_bricks → kept_right n (target_count m op.kind) op.phase op.first t b ≡ true
    old b l = each_at (kept_right n (target_count m op.kind) op.phase op.first t) max_bricks b e l

    go : (b : ℕ) → b < max_bricks → Dec (b ≡ r.brick) → kept_right n (target_count m op.kind) op.phase op.first (tallied t r) b ≡ true
    go b l (yes q) =
        let w : r.brick < max_bricks = omega arith in
        rw (
          q,
          get_or-set_same t.counted r.brick 1 0 (let z = s.counted-size in omega arith),
          get_or-set_same t.granted r.brick (one_if r.yes) 0 (let z = s.granted-size in omega arith),
          get_or-set_same t.held r.brick (one_if r.held) 0 (let z = s.held-size in omega arith),
          get_or-set_same t.found r.brick r.found 0 (let z = s.found-size in omega arith),
          get_or-set_same t.said r.brick r.comparison 0 (let z = s.said-size in omega arith),
          kept_right_lem n m op t r p a,
        ) (kept_said n m op t r p a)
    go b l (no q) =
        rw (
          get_or-set_other t.counted r.brick b 1 0 q,
          get_or-set_other t.granted r.brick b (one_if r.yes) 0 q,
          get_or-set_other t.held r.brick b (one_if r.held) 0 q,
          get_or-set_other t.found r.brick b r.found 0 q,
          get_or-set_other t.said r.brick b r.comparison 0 q,
        ) (old b l)

-- what is kept of one brick
pub entry_kept : (n m phase first : ℕ) (t : Tally) (b : ℕ) → b < max_bricks → tally_right n m phase first t ≡ true
    → entry_right n m phase first b (get_or t.counted b 0) (get_or t.granted b 0) (get_or t.held b 0) (get_or t.found b 0) ≡ true
unfolding tally_right kept_right
entry_kept n m phase first t b l e =
    and_left _ (said_right phase (get_or t.counted b 0) (get_or t.granted b 0) (get_or t.said b 0)) (each_at (kept_right n m phase first t) max_bricks b e l)

pub said_kept : (n m phase first : ℕ) (t : Tally) (b : ℕ) → b < max_bricks → tally_right n m phase first t ≡ true
    → said_right phase (get_or t.counted b 0) (get_or t.granted b 0) (get_or t.said b 0) ≡ true
unfolding tally_right kept_right
said_kept n m phase first t b l e =
    and_right (entry_right n m phase first b (get_or t.counted b 0) (get_or t.granted b 0) (get_or t.held b 0) (get_or t.found b 0)) _
    (each_at (kept_right n m phase first t) max_bricks b e l)

-- the highest time is 0 or that of a brick of the set
pub highest_found : (flags found : List ℕ) (n : ℕ)
    → (highest flags found n ≡ 0) ⊎ ((b : ℕ) × (b < n) × (member flags b ≡ true) × (highest flags found n ≡ get_or found b 0))
unfolding highest
highest_found flags found zero = inl refl
highest_found flags found (suc n) = go (member flags n) refl (highest_found flags found n) (dec_lt (highest flags found n) (get_or found n 0))
  where
    go : (f : Bool) → member flags n ≡ f
        → (highest flags found n ≡ 0) ⊎ ((b : ℕ) × (b < n) × (member flags b ≡ true) × (highest flags found n ≡ get_or found b 0))
        → Dec (highest flags found n < get_or found n 0)
        → (cond f (max (highest flags found n) (get_or found n 0)) (highest flags found n) ≡ 0)
        ⊎ ((b : ℕ) × (b < suc n) × (member flags b ≡ true) × (cond f (max (highest flags found n) (get_or found n 0)) (highest flags found n) ≡ get_or found b 0))
    go true e ih (yes l) = inr (n, omega arith, e, omega arith)
    go true e (inl z) (no l) = inl (omega arith)
    go true e (inr w) (no l) = inr (w.0, omega (arith, w.1), w.2, omega (arith, w.3))
    go false e (inl z) d = inl z
    go false e (inr w) d = inr (w.0, omega (arith, w.1), w.2, w.3)

-- what is kept of a brick found 0 or a valid time
entry_found : (n m phase first b counted granted held found : ℕ) → entry_right n m phase first b counted granted held found ≡ true → found_right found ≡ true
unfolding entry_right counted_right found_right
entry_found n m phase first b counted granted held found e = go (eqb counted 0) e
  where
    go : (a : Bool)
        → cond a (eqb granted 0 && eqb held 0 && eqb found 0)
        (eqb counted 1
        && (ltb 0 phase && ltb b n && leb granted 1 && leb held 1 && (eqb found 0 || valid_time found) && block_right phase (is_target n m first b) (eqb granted 1) (eqb held 1) found))
        ≡ true → eqb found 0 || valid_time found ≡ true
    go true q = rw (and_right (eqb granted 0 && eqb held 0) (eqb found 0) q)
    go false q =
        let k = block_right phase (is_target n m first b) (eqb granted 1) (eqb held 1) found in
        let f = eqb found 0 || valid_time found in
        let c = and_right (eqb counted 1) (ltb 0 phase && ltb b n && leb granted 1 && leb held 1 && f && k) q in
        and_right (ltb 0 phase && ltb b n && leb granted 1 && leb held 1) f (and_left (ltb 0 phase && ltb b n && leb granted 1 && leb held 1 && f) k c)

zero_found : found_right 0 ≡ true
unfolding found_right
zero_found = refl

found_valid : (t : ℕ) → found_right t ≡ true → (t ≡ 0 → ⊥) → valid_time t ≡ true
unfolding found_right
found_valid t e h = go (eqb t 0) refl e
  where
    go : (a : Bool) → eqb t 0 ≡ a → a || valid_time t ≡ true → valid_time t ≡ true
    go true ea q = absurd (h (eqb-true t 0 ea))
    go false ea q = q

-- and so is the highest time of any set of bricks
pub highest_right : (n m phase first : ℕ) (t : Tally) (flags : List ℕ) → n ≤ max_bricks → tally_right n m phase first t ≡ true → found_right (highest flags t.found n) ≡ true
highest_right n m phase first t flags few e = go (highest_found flags t.found n)
  where
    go : (highest flags t.found n ≡ 0) ⊎ ((b : ℕ) × (b < n) × (member flags b ≡ true) × (highest flags t.found n ≡ get_or t.found b 0))
        → found_right (highest flags t.found n) ≡ true
    go (inl z) = ap found_right z ∙ zero_found
    go (inr w) =
        let b = w.0 in
        let right = entry_kept n m phase first t b (omega (arith, w.1)) e in
        ap found_right w.3 ∙ entry_found n m phase first b (get_or t.counted b 0) (get_or t.granted b 0) (get_or t.held b 0) (get_or t.found b 0) right

pub highest_valid : (n m phase first : ℕ) (t : Tally) → n ≤ max_bricks → tally_right n m phase first t ≡ true → (highest t.held t.found n ≡ 0 → ⊥)
    → valid_time (highest t.held t.found n) ≡ true
highest_valid n m phase first t few e h = found_valid (highest t.held t.found n) (highest_right n m phase first t t.held few e) h

pub counted_more : (l : List ℕ) (b v n : ℕ) → members (set l b v) n ≤ members l n + 1
unfolding members member
counted_more l b v n =
    (count_close (λ (i : ℕ). eqb (get_or l i 0) 1) (λ (i : ℕ). eqb (get_or (set l b v) i 0) 1) b n (λ i d. ap (λ (z : ℕ). eqb z 1) (get_or-set_other l b i v 0 d))).1
