-- Messages are sent to the bricks that there are; beside one that has no use for a block, zeros are sent.
use mathlib.Core.Path.{◌≡◌, refl, sym, ap, subst, ◌∙◌}
use mathlib.Core.Logic.{◌⊎◌, inl, inr}
use mathlib.Core.Bool.{Bool, true, false, cond}
use mathlib.Core.List.Memᴰ
use mathlib.Core.List.{List, [], ◌∷◌, ◌++◌}
use Prim.Native.Nat.{ℕ, ◌<◌}
use lib.Dec.{ltb}
use lib.ListN.{replicate}
use borrow.Author.Tests.{ne_eqb}
use Rattle.settings.specs.declared.Settings.{Settings}
use Rattle.message.specs.Kinds.{write_kind, modify_kind}
use Rattle.message.specs.declared.Message.{Message}
use Rattle.brick.specs.Receive.{Outcome}
use Rattle.coord_apply.specs.Answers.{Broadcast}
use Rattle.coord_apply.specs.Answers.{Answer}
use Rattle.order.specs.Claim.{◌∈◌}
use Rattle.register.specs.Runs.{Item, message, World}
use Rattle.register.specs.Runs.{Moved, unmoved, block_for, old_for, to_all, broadcasts, received}
use Rattle.register.specs.Runs.{standing}
use Rattle.register.specs.Driver.{driven, failed}
use Rattle.register.specs.CallLoop.{RoutineCalls, begin, start_write, start_read, start_write_block, start_read_block, take_reply, crash}
use Rattle.register.specs.CallLoop.{receive, receive_image, brick_goes_down, brick_comes_up, power_fails}
use Rattle.register.proofs.Laws.BrickEvent.{no_message_lem}
use Rattle.register.proofs.Laws.TurnLaws.{in_to_all}

-- a message goes to a brick below n; zeros lie beside one that is no Write or Modify, and for the old block of one that is no Modify
pub record SentRight (s : Settings) (b : ℕ) (msg : Message) (block old : List ℕ) : Type 0 where
  pub to-brick : b < s.n
  pub no_block : (msg.kind ≡ write_kind → ⊥) → (msg.kind ≡ modify_kind → ⊥) → block ≡ replicate s.size 0
  pub no_old : (msg.kind ≡ modify_kind → ⊥) → old ≡ replicate s.size 0

module _ (s : Settings) where
  abbrev pub Proper : List Item → Type 0
  Proper l = (b : ℕ) (msg : Message) (block old : List ℕ) → message b msg block old ∈ l → SentRight s b msg block old

  proper_both : (l k : List Item) → Proper l → Proper k → Proper (l ++ k)
  proper_both l k p q b msg block old m = go (Memᴰ.append_cases l m)
    where
      go : (message b msg block old ∈ l) ⊎ (message b msg block old ∈ k) → SentRight s b msg block old
      go (inl m) = p b msg block old m
      go (inr m) = q b msg block old m

  to_all_proper : (z : Broadcast) → Proper (to_all s z s.n)
  unfolding block_for old_for
  to_all_proper z b msg block old m =
      let w = in_to_all s z s.n (message b msg block old) m in
      let is : message b msg block old ≡ message w.0 z.message (block_for s z w.0) (old_for s z) = w.2 in
      let to : b ≡ w.0 = cc in
      let sent : msg ≡ z.message = cc in
      let kind = ap (λ (x : Message). x.kind) sent in
      let eb : block ≡ block_for s z w.0 = cc in
      let eo : old ≡ old_for s z = cc in
      record {
        to-brick = subst (λ (j : ℕ). j < s.n) (sym to) w.1;
        no_block = λ n k.
            eb ∙ rw (ne_eqb z.message.kind write_kind (λ h. n (kind ∙ h)), ne_eqb z.message.kind modify_kind (λ h. k (kind ∙ h))) refl;
        no_old = λ k. eo ∙ rw (ne_eqb z.message.kind modify_kind (λ h. k (kind ∙ h))) refl;
      }

  broadcasts_proper : (l : List Broadcast) → Proper (broadcasts s l)
  unfolding broadcasts
  broadcasts_proper [] = λ b msg block old m. absurd (Memᴰ.not-nil m)
  broadcasts_proper (z ∷ l) = proper_both _ _ (to_all_proper z) (broadcasts_proper l)

  driven_proper : (w : World) (c : ℕ) (a : Answer) (blocks stripe coded : List ℕ) → Proper w.sent → Proper (driven s w c a blocks stripe coded).world.sent
  unfolding driven
  driven_proper w c a blocks stripe coded p = proper_both _ _ p (broadcasts_proper _)

  received_proper : (w : World) (b : ℕ) (o : Outcome) → Proper w.sent → Proper (received s w b o).world.sent
  unfolding received
  received_proper w b o p = proper_both _ _ p (λ b' msg block old m. absurd (no_message_lem o.given o.out b' msg block old m))

  standing_proper : (w : World) (b : ℕ) (how : Bool) → Proper w.sent → Proper (standing s w b how).world.sent
  unfolding standing unmoved
  standing_proper w b how p = go (ltb b s.n) _ p
    where
      go : (t : Bool) (m : Moved s) → Proper m.world.sent → Proper (cond t m (unmoved s w)).world.sent
      go true m q = q
      go false m q = p

  pub calls_proper : (r : Moved s) → RoutineCalls s r → Proper r.world.sent
  unfolding unmoved failed
  calls_proper r (begin w h) = λ b msg block old m. absurd (Memᴰ.not-nil (subst (λ (l : List Item). message b msg block old ∈ l) h.none-sent m))
  calls_proper r (start_write q p c l number reading content small a stripe f) = driven_proper q.world c a _ _ _ (calls_proper q p)
  calls_proper r (start_read q p c l number reading first a f) = driven_proper q.world c a _ _ _ (calls_proper q p)
  calls_proper r (start_write_block q p c l number reading block content small a stripe f) = driven_proper q.world c a _ _ _ (calls_proper q p)
  calls_proper r (start_read_block q p c l number reading block a f) = driven_proper q.world c a _ _ _ (calls_proper q p)
  calls_proper r (take_reply q p x block was lent h coded a blocks' stripe' coded' f) = driven_proper q.world _ a _ _ _ (calls_proper q p)
  calls_proper r (crash q p c l a f) = driven_proper q.world c a _ _ _ (calls_proper q p)
  calls_proper r (receive q p b msg block old was up lent lent_old out h g images' out' f) = received_proper q.world b _ (calls_proper q p)
  calls_proper r (receive_image q p b msg block old was up lent lent_old out h g image' out' f) = received_proper q.world b _ (calls_proper q p)
  calls_proper r (brick_goes_down q p b) = standing_proper q.world b false (calls_proper q p)
  calls_proper r (brick_comes_up q p b) = standing_proper q.world b true (calls_proper q p)
  calls_proper r (power_fails q p c l blocks stripe f) = calls_proper q p
