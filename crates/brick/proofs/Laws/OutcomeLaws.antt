-- From the checks of a message to its outcome.
use mathlib.Core.Path.{◌≡◌, refl, sym, ap, ◌∙◌}
use mathlib.Core.Bool.{Bool, true, false, cond, ◌&&◌}
use mathlib.Core.List.{List, [], ◌∷◌}
use Prim.Native.Nat.{ℕ, zero, suc, ◌*◌, ◌<◌}
use native.Mathlib.Omega.{arith}
use lib.Dec.{ltb, eqb}
use lib.ListN.{length}
use borrow.Author.Tests.{eq-eqb, ne_eqb, eqb-true, eqb-false, lt-ltb, ltb-true}
use Rattle.byte_lists.proofs.Laws.BoolLaws.{and_left, and_right}
use Rattle.settings.specs.Ranges.{settings_refusal, stripe_refusal, data_block_refusal, SettingsRange}
use Rattle.settings.proofs.Laws.RangeLaws.{settings_passed, stripe_passed, in_range_lem}
use Rattle.settings.specs.Refusal.{first_refusal, refuse_unless}
use Rattle.settings.specs.declared.Settings.{Settings}
use Rattle.settings.proofs.Laws.RefusalLaws.{first_stop, first_pass, passed_first, passed_rest, tested}
use Rattle.message.specs.Messages.{message_refusal, names_block, message_block_refusal}
use Rattle.message.specs.declared.Message.{Message}
use Rattle.image.specs.Brick.{Brick}
use Rattle.image.specs.Image.{image_size}
use Rattle.image.specs.Parse.{Opens, Refuses, parse, open_refusal, brick_in}
use Rattle.image.specs.Opening.{opening}
use Rattle.image.proofs.Laws.HubLaws.{opening_refused}
use Rattle.brick.specs.Receive.{Beside, beside, beside_right, front_refusal, receive_refusal, Outcome, outcome_with, refused_with, accepted, outcome}
use Rattle.std.specs.Prelude.{Err}
use Rattle.settings.specs.Refusal.{number_of_refusal}
use Rattle.settings.specs.declared.Refusal.{Refusal}
use Rattle.settings.specs.declared.Refusal.TheVariants.{BadSetting, BadLength, BadNumber, BadBrickSet, BadCheck, BadRecord, BadReading, ClockSpent, Busy}
use Rattle.settings.specs.declared.Refusal.TheVariants.{BadMessage, StrayReply, BadLine, BadStripe, BadBlock, BlocksDisagree}
use Rattle.image.specs.Opening.{opening_in}
use Rattle.brick.specs.Receive.{Given}
use Rattle.brick.specs.Receive.{Refused}
use Rattle.message.specs.Kinds.{order_block_kind, modify_kind}
use Rattle.settings.specs.Refusal.{bad_length, bad_number, bad_block, passed}

-- the first refusal of a list
pub first_is : (a k : ℕ) (rest : List ℕ) → k ≡ a → (k ≡ 0 → ⊥) → first_refusal (a ∷ rest) ≡ k
first_is a k rest e h = sym (e ∙ first_stop a rest (λ z. h (e ∙ z)))

-- a refusal has a number
pub refusal_number : (r : Refusal) → number_of_refusal r ≡ 0 → ⊥
refusal_number BadSetting e = absurd (omega arith)
refusal_number BadLength e = absurd (omega arith)
refusal_number BadNumber e = absurd (omega arith)
refusal_number BadBrickSet e = absurd (omega arith)
refusal_number BadCheck e = absurd (omega arith)
refusal_number BadRecord e = absurd (omega arith)
refusal_number BadReading e = absurd (omega arith)
refusal_number ClockSpent e = absurd (omega arith)
refusal_number Busy e = absurd (omega arith)
refusal_number BadMessage e = absurd (omega arith)
refusal_number StrayReply e = absurd (omega arith)
refusal_number BadLine e = absurd (omega arith)
refusal_number BadStripe e = absurd (omega arith)
refusal_number BadBlock e = absurd (omega arith)
refusal_number BlocksDisagree e = absurd (omega arith)

-- What passes them.
pub record Fronted (s : Settings) (images brick lent : ℕ) (msg : Message) (b : Beside) : Type 0 where
  pub range : SettingsRange s
  pub lent_is : lent ≡ images * image_size s
  pub block-is : b.block ≡ s.size
  pub old-is : b.old ≡ s.size
  pub out-is : b.out ≡ s.size
  pub brick-low : brick < s.n
  pub stripe-low : msg.stripe < s.stripes
  pub block-low : names_block msg.kind ≡ true → msg.block < s.m

message_block : (m : ℕ) (msg : Message) → message_block_refusal m msg ≡ passed → names_block msg.kind ≡ true → msg.block < m
unfolding message_block_refusal data_block_refusal
message_block m msg e n =
    let d : refuse_unless (ltb msg.block m) bad_block ≡ passed = rw n at e in
    ltb-true msg.block m (tested _ _ d)

pub fronted : (s : Settings) (images brick lent : ℕ) (msg : Message) (b : Beside) (k : ℕ) → k ≡ front_refusal s images brick lent msg b → k ≡ 0
    → Fronted s images brick lent msg b
unfolding front_refusal beside_right
fronted s images brick lent msg b k e z =
    let a = sym e ∙ z in
    let c = passed_rest (settings_refusal s) _ a in
    let d = passed_rest (refuse_unless (eqb lent (images * image_size s)) bad_length) _ c in
    let f = passed_rest (refuse_unless (beside_right s b) bad_length) _ d in
    let g = passed_rest (refuse_unless (ltb brick s.n) bad_number) _ f in
    let h = passed_rest (stripe_refusal s.stripes msg.stripe) _ g in
    let v : eqb b.block s.size && eqb b.old s.size && eqb b.out s.size ≡ true =
    tested _ _ (passed_first (refuse_unless (beside_right s b) bad_length) _ d) in
    record {
      range = settings_passed s (passed_first (settings_refusal s) _ a);
      lent_is = eqb-true lent (images * image_size s) (tested _ _ (passed_first (refuse_unless (eqb lent (images * image_size s)) bad_length) _ c));
      block-is = eqb-true b.block s.size (and_left _ _ (and_left _ _ v));
      old-is = eqb-true b.old s.size (and_right (eqb b.block s.size) _ (and_left _ _ v));
      out-is = eqb-true b.out s.size (and_right (eqb b.block s.size && eqb b.old s.size) _ v);
      brick-low = ltb-true brick s.n (tested _ _ (passed_first (refuse_unless (ltb brick s.n) bad_number) _ f));
      stripe-low = stripe_passed s.stripes msg.stripe (passed_first (stripe_refusal s.stripes msg.stripe) _ g);
      block-low = message_block s.m msg (passed_first (message_block_refusal s.m msg) _ h);
    }

-- Modify names a data block
pub modify_names : (kind : ℕ) → kind ≡ modify_kind → names_block kind ≡ true
unfolding names_block
modify_names kind e = rw (ne_eqb kind order_block_kind (λ q. omega (arith, e, q)), eq-eqb kind modify_kind e) refl

block_passes : (m : ℕ) (msg : Message) → (names_block msg.kind ≡ true → msg.block < m) → message_block_refusal m msg ≡ passed
unfolding message_block_refusal data_block_refusal
block_passes m msg h = go (names_block msg.kind) refl
  where
    go : (a : Bool) → names_block msg.kind ≡ a → cond a (refuse_unless (ltb msg.block m) bad_block) passed ≡ passed
    go true q = rw (lt-ltb msg.block m (h q)) refl
    go false q = refl

-- and what satisfies this passes them
pub front_zero : (s : Settings) (images brick lent : ℕ) (msg : Message) (b : Beside) → Fronted s images brick lent msg b
    → front_refusal s images brick lent msg b ≡ passed
unfolding front_refusal settings_refusal stripe_refusal beside_right first_refusal
front_zero s images brick lent msg b f =
    rw (
      in_range_lem s f.range,
      eq-eqb lent (images * image_size s) f.lent_is,
      eq-eqb b.block s.size f.block-is,
      eq-eqb b.old s.size f.old-is,
      eq-eqb b.out s.size f.out-is,
      lt-ltb brick s.n f.brick-low,
      lt-ltb msg.stripe s.stripes f.stripe-low,
      block_passes s.m msg f.block-low,
    ) refl

-- the numbers of an opening
open_number : (s : Settings) (brick : ℕ) (l : List ℕ) (n : ℕ) → parse s brick l ≡ Refuses n → (open_refusal s brick l ≡ n) × (n ≡ 0 → ⊥)
unfolding parse
open_number s brick l n e = go (eqb (open_refusal s brick l) 0) refl e
  where
    go : (b : Bool) → eqb (open_refusal s brick l) 0 ≡ b → cond b (Opens (brick_in s l)) (Refuses (open_refusal s brick l)) ≡ Refuses n
        → (open_refusal s brick l ≡ n) × (n ≡ 0 → ⊥)
    go true q w = let z : ◌≡◌ {A = ℕ} 0 1 = cc in absurd (omega arith)
    go false q w =
        let m : open_refusal s brick l ≡ n = cc in
        (m, λ z. eqb-false (open_refusal s brick l) 0 q (m ∙ z))

open_zero : (s : Settings) (brick : ℕ) (l : List ℕ) (x : Brick) → parse s brick l ≡ Opens x → open_refusal s brick l ≡ passed
unfolding parse
open_zero s brick l x e = go (eqb (open_refusal s brick l) 0) refl e
  where
    go : (b : Bool) → eqb (open_refusal s brick l) 0 ≡ b → cond b (Opens (brick_in s l)) (Refuses (open_refusal s brick l)) ≡ Opens x → open_refusal s brick l ≡ passed
    go true q w = eqb-true (open_refusal s brick l) 0 q
    go false q w = let z : ◌≡◌ {A = ℕ} 0 1 = cc in absurd (omega arith)

-- the answer, the image and the reply's buffer of a call, by the one equation of its contract
module _ (g : Given) (image out : List ℕ) (o : Outcome) (e : outcome_with g image out ≡ o) where
  pub outcome_given : g ≡ o.given
  outcome_given = ap (λ (w : Outcome). w.given) e

  pub outcome_image : image ≡ o.image
  outcome_image = ap (λ (w : Outcome). w.image) e

  pub outcome_out : out ≡ o.out
  outcome_out = ap (λ (w : Outcome). w.out) e

-- An image that does not open is refused by its own number, whatever the message is.
image_first : (s : Settings) (brick : ℕ) (l : List ℕ) (msg : Message) (b : Beside) (n : ℕ) → front_refusal s 1 brick (length l) msg b ≡ 0
    → open_refusal s brick l ≡ suc n → receive_refusal s brick l msg b ≡ suc n
unfolding receive_refusal first_refusal
image_first s brick l msg b n f o = rw (f, o) refl

-- What passes all checks.
pub record Passes (s : Settings) (brick : ℕ) (l : List ℕ) (msg : Message) (b : Beside) : Type 0 where
  pub front : Fronted s 1 brick (length l) msg b
  pub opens : open_refusal s brick l ≡ passed
  pub message : message_refusal s.n s.m msg ≡ passed

pub passes : (s : Settings) (brick : ℕ) (l : List ℕ) (msg : Message) (b : Beside) → receive_refusal s brick l msg b ≡ passed → Passes s brick l msg b
unfolding receive_refusal
passes s brick l msg b e =
    let rest = passed_rest (front_refusal s 1 brick (length l) msg b) _ e in
    record {
      front = fronted s 1 brick (length l) msg b _ refl (passed_first _ _ e);
      opens = passed_first (open_refusal s brick l) _ rest;
      message = passed_first (message_refusal s.n s.m msg) _ (passed_rest (open_refusal s brick l) _ rest);
    }

module _ (s : Settings) (brick : ℕ) (l : List ℕ) (msg : Message) (block old out : List ℕ) where
  -- a refusal changes nothing
  ends_refused : (n : ℕ) → receive_refusal s brick l msg (beside block old out) ≡ n → (n ≡ 0 → ⊥)
      → outcome_with (Refused n) l out ≡ outcome s brick l msg block old out
  unfolding outcome refused_with
  ends_refused n e z =
      let o : outcome s brick l msg block old out ≡ refused_with n l out = rw (e, ne_eqb n 0 z) refl in
      sym o

  pub ends_early : (k : ℕ) → k ≡ front_refusal s 1 brick (length l) msg (beside block old out) → (k ≡ 0 → ⊥)
      → outcome_with (Refused k) l out ≡ outcome s brick l msg block old out
  unfolding receive_refusal
  ends_early k e z = ends_refused k (first_is (front_refusal s 1 brick (length l) msg (beside block old out)) k _ e z) z

  module _ (k : ℕ) (ek : k ≡ front_refusal s 1 brick (length l) msg (beside block old out)) (zk : k ≡ 0) where
    pub ends_unopened : (r : Refusal) → opening_in (Err r) ≡ opening (parse s brick l) → outcome_with (Refused (number_of_refusal r)) l out ≡ outcome s brick l msg block old out
    ends_unopened r e = let q = open_number s brick l (number_of_refusal r) (opening_refused (parse s brick l) r e) in ends_refused _ (go (number_of_refusal r) q.0 q.1) q.1
      where
        go : (n : ℕ) → open_refusal s brick l ≡ n → (n ≡ 0 → ⊥) → receive_refusal s brick l msg (beside block old out) ≡ n
        go zero w z = absurd (z refl)
        go (suc i) w z = image_first s brick l msg (beside block old out) i (sym ek ∙ zk) w

    module _ (x : Brick) (is : parse s brick l ≡ Opens x) (w : ℕ) (ew : w ≡ message_refusal s.n s.m msg) where
      rest : receive_refusal s brick l msg (beside block old out) ≡ first_refusal (w ∷ [])
      unfolding receive_refusal
      rest =
          first_pass (front_refusal s 1 brick (length l) msg (beside block old out)) (open_refusal s brick l ∷ message_refusal s.n s.m msg ∷ []) (sym ek ∙ zk)
          ∙ first_pass (open_refusal s brick l) (message_refusal s.n s.m msg ∷ []) (open_zero s brick l x is)
          ∙ ap (λ (j : ℕ). first_refusal (j ∷ [])) (sym ew)

      pub ends_wrong : (w ≡ 0 → ⊥) → outcome_with (Refused w) l out ≡ outcome s brick l msg block old out
      ends_wrong z = ends_refused w (rest ∙ first_is w w [] refl z) z

      pub ends_acted : w ≡ 0 → (g : Given) (image out' : List ℕ) → outcome_with g image out' ≡ accepted s brick msg block old l out (Opens x)
          → outcome_with g image out' ≡ outcome s brick l msg block old out
      unfolding outcome first_refusal
      ends_acted z g image out' e =
          let r : receive_refusal s brick l msg (beside block old out) ≡ 0 = rest ∙ first_pass w [] z in
          let o : outcome s brick l msg block old out ≡ accepted s brick msg block old l out (Opens x) = rw (r, is) refl in
          e ∙ sym o
