-- The ways through the refusals of messages and replies.
use mathlib.Core.Path.{◌≡◌, refl, sym, ◌∙◌}
use mathlib.Core.Bool.{Bool, true, false, ◌&&◌, true≢false}
use mathlib.Core.List.{[], ◌∷◌}
use Prim.Native.Nat.{ℕ, ◌≤◌, ◌<◌}
use native.Mathlib.Omega.{arith}
use native.Mathlib.Decide.{ℕ_discrete}
use borrow.Author.Tests.{lt-ltb, le-leb, eq-eqb, ne_eqb}
use Rattle.message.specs.Messages.{round_right, found_right, reply_right, reply_refusal}
use Rattle.message.specs.Messages.{is_silent, comparison_right}
use Rattle.message.specs.declared.Reply.{Reply}
use Rattle.settings.specs.Refusal.{passed, bad_message, first_refusal, refuse_unless}
use Rattle.message.specs.Kinds.{read_kind, modify_kind, trim_kind, drop_kind}
use Rattle.settings.specs.Times.{valid_time}

-- a reply of a known kind: its time, round, found time and comparison are left
pub reply_rest : (r : Reply) → read_kind ≤ r.kind → r.kind ≤ modify_kind
    → reply_right r ≡ valid_time r.time && round_right r.round && found_right r.found && comparison_right r.kind r.yes r.comparison
unfolding reply_right
reply_rest r a b = rw (le-leb read_kind r.kind a, le-leb r.kind modify_kind b)

pub reply_is : (n : ℕ) (r : Reply) (v : ℕ) → r.brick < n → v ≡ refuse_unless (reply_right r) bad_message → v ≡ reply_refusal n r
unfolding reply_refusal first_refusal
reply_is n r v h e = rw (lt-ltb r.brick n h) (e ∙ go (reply_right r))
  where
    go : (b : Bool) → refuse_unless b bad_message ≡ first_refusal (refuse_unless b bad_message ∷ [])
    go true = refl
    go false = refl

pub reply_passed : (n : ℕ) (r : Reply) (v : Bool) → r.brick < n → v ≡ reply_right r → v ≡ true → passed ≡ reply_refusal n r
reply_passed n r v h e t = reply_is n r passed h (rw (← e, t))

-- Trim and Drop have no reply; every kind below them has one.
pub silent_trim : (kind : ℕ) → kind ≡ trim_kind → is_silent kind ≡ true
unfolding is_silent
silent_trim kind e = rw (eq-eqb kind trim_kind e) refl

pub silent_drop : (kind : ℕ) → kind ≡ drop_kind → is_silent kind ≡ true
unfolding is_silent
silent_drop kind e = rw (ne_eqb kind trim_kind (λ q. omega (arith, e, q)), eq-eqb kind drop_kind e) refl

pub not_silent : (kind : ℕ) → kind < trim_kind → is_silent kind ≡ false
unfolding is_silent
not_silent kind h = rw (ne_eqb kind trim_kind (λ q. omega (arith, h, q)), ne_eqb kind drop_kind (λ q. omega (arith, h, q))) refl

pub no_trim : (kind : ℕ) → is_silent kind ≡ false → kind ≡ trim_kind → ⊥
no_trim kind e q = true≢false (sym (silent_trim kind q) ∙ e)

pub no_drop : (kind : ℕ) → is_silent kind ≡ false → kind ≡ drop_kind → ⊥
no_drop kind e q = true≢false (sym (silent_drop kind q) ∙ e)

-- a claim about silent kinds is shown for the two
pub by_silent : (P : Type 0) (kind : ℕ) → is_silent kind ≡ true → (kind ≡ trim_kind → P) → (kind ≡ drop_kind → P) → P
unfolding is_silent
by_silent P kind e t d = go (ℕ_discrete kind trim_kind) (ℕ_discrete kind drop_kind)
  where
    go : Dec (kind ≡ trim_kind) → Dec (kind ≡ drop_kind) → P
    go (yes a) b = t a
    go (no a) (yes b) = d b
    go (no a) (no b) = absurd (true≢false (sym e ∙ rw (ne_eqb kind trim_kind a, ne_eqb kind drop_kind b) refl))
