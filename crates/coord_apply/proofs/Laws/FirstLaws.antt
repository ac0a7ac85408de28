-- E6: what goes out ahead of a round: Drop of the time that a recovery round found on too few, Trim of one that all of a quorum hold.
use mathlib.Core.Path.{◌≡◌, refl, sym, ap, ap₂, ◌∙◌}
use mathlib.Core.Bool.{Bool, true, false, cond, not, ◌&&◌}
use mathlib.Core.List.{List, [], ◌∷◌}
use Prim.Native.Nat.{ℕ, ◌≤◌, ◌<◌}
use native.Mathlib.Omega.{arith}
use lib.Dec.{eqb, leb}
use borrow.Author.Tests.{eqb-true, eqb-false, leb-true, leb-false}
use Rattle.coord_apply.specs.Acts.{clear_message, clearing, all_hold, drops_first, trims_first, sending_first, next_round}
use Rattle.coord_apply.specs.Answers.{Buffered, Broadcast, Went, went, sent_count, sent_message, sent_blocks, answer_of}
use Rattle.coord_apply.specs.Workers.{open_answer, preceded_answer, ahead_answer}
use Rattle.coord_apply.specs.Answers.{Answer}
use Rattle.coord_record.specs.declared.Coordinator.{Coordinator}
use Rattle.coord_record.specs.declared.Op.{Op}
use Rattle.coord_record.specs.declared.Tally.{Tally}
use Rattle.coord_tally.specs.Counting.{at_times}
use Rattle.message.specs.Kinds.{order_read_kind, trim_kind, drop_kind}
use Rattle.message.specs.declared.Message.{Message}
use Rattle.settings.specs.Count.{count}
use Rattle.settings.specs.Ranges.{quorum}

-- a recovery round that another follows drops the time that it found; no other round drops
module _ (op : Op) (max : ℕ) where
  pub drops_either : (P : List Broadcast → Type 0) → ((op.phase ≡ order_read_kind → ⊥) → P []) → (op.phase ≡ order_read_kind → P (clearing drop_kind op max ∷ []))
      → P (drops_first op max)
  unfolding drops_first
  drops_either P none one = go (eqb op.phase order_read_kind) refl
    where
      go : (b : Bool) → eqb op.phase order_read_kind ≡ b → P (cond b (clearing drop_kind op max ∷ []) [])
      go true e = one (eqb-true op.phase order_read_kind e)
      go false e = none (eqb-false op.phase order_read_kind e)

  pub drops_first_lem : op.phase ≡ order_read_kind → drops_first op max ≡ clearing drop_kind op max ∷ []
  drops_first_lem e = drops_either (λ (l : List Broadcast). l ≡ clearing drop_kind op max ∷ []) (λ d. absurd (d e)) (λ _. refl)

  pub no_drops : (op.phase ≡ order_read_kind → ⊥) → drops_first op max ≡ []
  no_drops d = drops_either (λ (l : List Broadcast). l ≡ []) (λ _. refl) (λ e. absurd (d e))

-- "If all q replies hold the chosen time, other than 0"
pub record TrimsEarly (n m : ℕ) (t : Tally) (time : ℕ) : Type 0 where
  pub not_first : time ≡ 0 → ⊥
  pub all_hold : quorum n m ≤ count (at_times t.held t.found time) n

-- the recovery whose time all of a quorum hold trims it before its store; no other does
module _ (n m : ℕ) (op : Op) (t : Tally) (time : ℕ) where
  pub trims_either : (P : List Broadcast → Type 0) → ((TrimsEarly n m t time → ⊥) → P []) → (TrimsEarly n m t time → P (clearing trim_kind op time ∷ []))
      → P (trims_first n m op t time)
  unfolding trims_first all_hold
  trims_either P none one = go (eqb time 0) (leb (quorum n m) (count (at_times t.held t.found time) n)) refl refl
    where
      go : (z q : Bool) → eqb time 0 ≡ z → leb (quorum n m) (count (at_times t.held t.found time) n) ≡ q
          → P (cond (not z && q) (clearing trim_kind op time ∷ []) [])
      go true q ez eq = none (λ e. e.not_first (eqb-true time 0 ez))
      go false true ez eq =
          one (record { not_first = eqb-false time 0 ez; all_hold = leb-true (quorum n m) (count (at_times t.held t.found time) n) eq })
      go false false ez eq =
          none (λ e. let l = leb-false (quorum n m) (count (at_times t.held t.found time) n) eq in omega (arith, e.all_hold))

  pub trims_first_lem : TrimsEarly n m t time → trims_first n m op t time ≡ clearing trim_kind op time ∷ []
  trims_first_lem e = trims_either (λ (l : List Broadcast). l ≡ clearing trim_kind op time ∷ []) (λ d. absurd (d e)) (λ _. refl)

  pub no_trims : (TrimsEarly n m t time → ⊥) → trims_first n m op t time ≡ []
  no_trims d = trims_either (λ (l : List Broadcast). l ≡ []) (λ _. refl) (λ e. absurd (d e))

-- what goes out ahead of a round stands first in the answer, and the blocks to send are the round's
pub record Ahead (h : Buffered) (w : Went) (a : Answer) (first : List Broadcast) : Type 0 where
  pub answer : ahead_answer first a ≡ answer_of h.state (went (sending_first first w))
  pub coded-left : (old : List ℕ) → sent_blocks (sending_first first w).sent old ≡ sent_blocks w.sent old

module _ (h : Buffered) (phase max : ℕ) (bricks stripe coded : List ℕ) where
  abbrev round : Went
  round = next_round h phase max bricks stripe coded

  abbrev opening : Answer
  opening = open_answer h.state phase max 0 bricks

  none_ahead : Ahead h round opening []
  unfolding next_round open_answer ahead_answer answer_of sent_count sent_message sent_blocks sending_first
  none_ahead = record { answer = refl; coded-left = λ old. refl }

  drop_ahead : (time : ℕ) → Ahead h round opening (clearing drop_kind h.state.op time ∷ [])
  unfolding next_round open_answer ahead_answer preceded_answer answer_of sent_count sent_message sent_blocks sending_first clearing clear_message
  drop_ahead time = record { answer = refl; coded-left = λ old. refl }

  trim_ahead : (time : ℕ) → Ahead h round opening (clearing trim_kind h.state.op time ∷ [])
  unfolding next_round open_answer ahead_answer preceded_answer answer_of sent_count sent_message sent_blocks sending_first clearing clear_message
  trim_ahead time = record { answer = refl; coded-left = λ old. refl }

  pub drops_ahead : (time : ℕ) → Ahead h round opening (drops_first h.state.op time)
  drops_ahead time = drops_either h.state.op time (Ahead h round opening) (λ _. none_ahead) (λ _. drop_ahead time)

  pub trims_ahead : (n m : ℕ) (t : Tally) (time : ℕ) → Ahead h round opening (trims_first n m h.state.op t time)
  trims_ahead n m t time = trims_either n m h.state.op t time (Ahead h round opening) (λ _. none_ahead) (λ _. trim_ahead time)

-- the answer of a recovery round that is followed by another, and of any other round, by what the callees gave
module _ (op : Op) (max : ℕ) (o a : Answer) (e : a ≡ o) where
  pub drop_answered : (msg : Message) (r : Answer) → op.phase ≡ order_read_kind → msg ≡ clear_message drop_kind op max → r ≡ preceded_answer msg a
      → r ≡ ahead_answer (drops_first op max) o
  unfolding ahead_answer clearing
  drop_answered msg r p em er = er ∙ ap₂ preceded_answer em e ∙ ap (λ (l : List Broadcast). ahead_answer l o) (sym (drops_first_lem op max p))

  pub plain_answered : (op.phase ≡ order_read_kind → ⊥) → a ≡ ahead_answer (drops_first op max) o
  unfolding ahead_answer
  plain_answered p = e ∙ ap (λ (l : List Broadcast). ahead_answer l o) (sym (no_drops op max p))

-- the answer of a recovery's store: the time is on all of a quorum, is 0, or is on fewer
module _ (n m : ℕ) (op : Op) (t : Tally) (time : ℕ) (a : Answer) where
  pub trim_answered : (msg : Message) (r : Answer) → (time ≡ 0 → ⊥) → quorum n m ≤ count (at_times t.held t.found time) n
      → msg ≡ clear_message trim_kind op time → r ≡ preceded_answer msg a → r ≡ ahead_answer (trims_first n m op t time) a
  unfolding ahead_answer clearing
  trim_answered msg r z q em er =
      er ∙ ap (λ (x : Message). preceded_answer x a) em
      ∙ ap (λ (l : List Broadcast). ahead_answer l a) (sym (trims_first_lem n m op t time (record { not_first = z; all_hold = q })))

  pub zero_answered : time ≡ 0 → a ≡ ahead_answer (trims_first n m op t time) a
  unfolding ahead_answer
  zero_answered z = ap (λ (l : List Broadcast). ahead_answer l a) (sym (no_trims n m op t time (λ e. e.not_first z)))

  pub few_answered : count (at_times t.held t.found time) n < quorum n m → a ≡ ahead_answer (trims_first n m op t time) a
  unfolding ahead_answer
  few_answered l = ap (λ (x : List Broadcast). ahead_answer x a) (sym (no_trims n m op t time (λ e. omega (arith, e.all_hold))))

-- the same with the bricks named
pub found_answered : (c : Coordinator) (first : List Broadcast) (named named' : List ℕ) (phase : ℕ) (a r : Answer) → r ≡ ahead_answer first a → a ≡ open_answer c phase 0 0 named
    → named ≡ named' → r ≡ ahead_answer first (open_answer c phase 0 0 named')
found_answered c first named named' phase a r er ea en = er ∙ ap (ahead_answer first) (ea ∙ ap (open_answer c phase 0 0) en)

-- the ways of what goes out ahead of a recovery round, and of a store
pub ruleset drops = (drop_answered, plain_answered)

pub ruleset trims = (trim_answered, zero_answered, few_answered)
