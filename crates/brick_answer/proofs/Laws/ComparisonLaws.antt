-- The ways through the comparisons; a yes is that none said no, and what a no says is such as its kind allows.
use mathlib.Core.Path.{◌≡◌, refl, sym}
use mathlib.Core.Bool.{Bool, true, false, cond, not, ◌&&◌}
use Prim.Native.Nat.{ℕ}
use lib.Dec.{eqb}
use Rattle.message.specs.Kinds.{read_kind, no_comparison, newer_time, promise_ahead, full_log}
use Rattle.message.specs.Messages.{stores_entry, compares, comparison_right}
use Rattle.message.specs.declared.Message.{Message}
use Rattle.brick_answer.specs.Comparisons.{newer_says_no, promise_says_no, full_says_no, none_says_no, first_no}

-- the first that says no
module _ (capacity count newest promise : ℕ) (msg : Message) (a : Bool) (ea : a ≡ newer_says_no newest msg) where
  pub first_newer : a ≡ true → newer_time ≡ first_no capacity count newest promise msg
  unfolding first_no
  first_newer ta = sym (rw (← ea, ta) refl)

  module _ (b : Bool) (ta : a ≡ false) (eb : b ≡ promise_says_no newest promise msg) where
    pub first_promise : b ≡ true → promise_ahead ≡ first_no capacity count newest promise msg
    unfolding first_no
    first_promise tb = sym (rw (← ea, ← eb, ta, tb) refl)

    pub first_full : (d : Bool) → b ≡ false → d ≡ full_says_no capacity count msg → d ≡ true → full_log ≡ first_no capacity count newest promise msg
    unfolding first_no
    first_full d tb ed td = sym (rw (← ea, ← eb, ← ed, ta, tb, td) refl)

module _ (capacity count newest promise : ℕ) (msg : Message) where
  -- a yes names no comparison, and a no one
  pub none_first : eqb (first_no capacity count newest promise msg) no_comparison ≡ none_says_no capacity count newest promise msg
  unfolding first_no none_says_no
  none_first = go (newer_says_no newest msg) (promise_says_no newest promise msg) (full_says_no capacity count msg)
    where
      go : (a b d : Bool) → eqb (cond a newer_time (cond b promise_ahead (cond d full_log no_comparison))) no_comparison ≡ not a && not b && not d
      go true b d = refl
      go false true d = refl
      go false false true = refl
      go false false false = refl

  -- and such as its kind and answer allow: refusal 10 never meets the comparison of a brick's reply
  pub comparison_allowed : comparison_right msg.kind (none_says_no capacity count newest promise msg) (first_no capacity count newest promise msg) ≡ true
  unfolding first_no none_says_no comparison_right compares newer_says_no full_says_no
  comparison_allowed = go (eqb msg.kind read_kind) (stores_entry msg.kind) (promise_says_no newest promise msg) _ _
    where
      go : (r st p n f : Bool)
          → (let v = cond r false n in let w = st && f in
          cond (not v && not p && not w) (eqb (cond v newer_time (cond p promise_ahead (cond w full_log no_comparison))) no_comparison)
          (cond (eqb (cond v newer_time (cond p promise_ahead (cond w full_log no_comparison))) newer_time) (not r)
          (cond (eqb (cond v newer_time (cond p promise_ahead (cond w full_log no_comparison))) promise_ahead) true
          (eqb (cond v newer_time (cond p promise_ahead (cond w full_log no_comparison))) full_log && st))) ≡ true)
      go true true true n true = refl
      go true true true n false = refl
      go true true false n true = refl
      go true true false n false = refl
      go true false true n f = refl
      go true false false n f = refl
      go false true true true true = refl
      go false true true true false = refl
      go false true true false true = refl
      go false true true false false = refl
      go false true false true true = refl
      go false true false true false = refl
      go false true false false true = refl
      go false true false false false = refl
      go false false true true f = refl
      go false false true false f = refl
      go false false false true f = refl
      go false false false false f = refl
