-- What a brick's answer tells: a refusal keeps the image, a Trim is never answered; and an answer settled, one law for each.
use mathlib.Core.Path.{◌≡◌, refl, sym, ap, subst, ◌∙◌}
use mathlib.Core.Bool.{Bool, true, false, cond, ◌||◌}
use mathlib.Core.List.{List, [], ◌++◌, append-nil}
use Prim.Native.Nat.{ℕ, ◌+◌, ◌≤◌, ◌<◌}
use native.Mathlib.Omega.{arith}
use lib.Dec.{eqb, ltb}
use lib.ListN.{length}
use borrow.Author.Tests.{ltb-true}
use Rattle.settings.specs.Refusal.{passed}
use Rattle.settings.specs.declared.Settings.{Settings}
use Rattle.message.specs.Messages.{is_silent}
use Rattle.message.specs.declared.Message.{Message}
use Rattle.message.specs.declared.Reply.{Reply}
use Rattle.image.specs.Parse.{Parsed, Opens, Refuses, parse}
use Rattle.brick.specs.Receive.{beside, outcome, accepted, given_by, refused_with, receive_refusal, front_refusal}
use Rattle.volume.specs.Rows.{row_size, image_at, with_image, in_row, row_refusal, row_outcome}
use Rattle.volume.proofs.Laws.RowLaws.{image_back}
use Rattle.brick_log.specs.BrickRules.{reply_to}
use Rattle.brick.specs.Receive.{Given}
use Rattle.brick.specs.Receive.{Answered, Silent, Refused}
use Rattle.register.specs.Runs.{reply, replied_with}
use Rattle.bench_state.specs.State.{world_of}
use Rattle.bench_state.specs.Workers.{with_sent}
use Rattle.bench_state.specs.declared.Bench.{Bench}
use Rattle.bench_sent.specs.Sent.{items_of}
use Rattle.bench_sent.specs.Workers.{Added}
use Rattle.bench_print.proofs.Laws.WrittenLaws.{written_nothing}
use Rattle.bench_rules.specs.Play.{refuses}
use Rattle.bench_rules.specs.Turning.{Lent, lent, world_in}
use Rattle.bench_rules.specs.Workers.{Turned}
use Rattle.bench_rules.specs.declared.After.{After}
use Rattle.bench_carry_message.specs.Workers.{Settled, may_send, sent_after_message, told_of}
use Rattle.bench_limits.specs.Limits.{last_message}

-- the two ways of an image's outcome: refused with every byte kept, or acted on an opened image
module _ (s : Settings) (brick : ℕ) (l : List ℕ) (msg : Message) (block old out : List ℕ) where
  -- "A refusal returns its number alone and every image .. keeps its bytes."
  image_keeps : (n : ℕ) → (outcome s brick l msg block old out).given ≡ Refused n → (outcome s brick l msg block old out).image ≡ l
  unfolding outcome accepted given_by refused_with
  image_keeps n = go (eqb (receive_refusal s brick l msg (beside block old out)) 0) (parse s brick l)
    where
      never : (t : Bool) (r : Reply) → cond t Silent (Answered r) ≡ Refused n → ⊥
      never true r e = let z : ◌≡◌ {A = ℕ} 0 1 = cc in absurd (omega arith)
      never false r e = let z : ◌≡◌ {A = ℕ} 0 1 = cc in absurd (omega arith)

      go : (t : Bool) (p : Parsed)
          → (cond t (accepted s brick msg block old l out p) (refused_with (receive_refusal s brick l msg (beside block old out)) l out)).given ≡ Refused n
          → (cond t (accepted s brick msg block old l out p) (refused_with (receive_refusal s brick l msg (beside block old out)) l out)).image ≡ l
      go true (Opens x) e = absurd (never (is_silent msg.kind) (reply_to s brick x msg) e)
      go true (Refuses k) e = refl
      go false p e = refl

  -- "Trim t: no reply"; "a Drop has no reply"
  image_silent : (r : Reply) → is_silent msg.kind ≡ true → (outcome s brick l msg block old out).given ≡ Answered r → ⊥
  unfolding outcome accepted given_by refused_with
  image_silent r q = go (eqb (receive_refusal s brick l msg (beside block old out)) 0) (parse s brick l)
    where
      never : (t : Bool) (a : Reply) → t ≡ true → cond t Silent (Answered a) ≡ Answered r → ⊥
      never true a z e = let z : ◌≡◌ {A = ℕ} 0 1 = cc in absurd (omega arith)
      never false a z e = let y : ◌≡◌ {A = ℕ} 0 1 = cc in absurd (omega arith)

      go : (t : Bool) (p : Parsed)
          → (cond t (accepted s brick msg block old l out p) (refused_with (receive_refusal s brick l msg (beside block old out)) l out)).given ≡ Answered r → ⊥
      go true (Opens x) e = never (is_silent msg.kind) (reply_to s brick x msg) q e
      go true (Refuses k) e = let z : ◌≡◌ {A = ℕ} 0 1 = cc in absurd (omega arith)
      go false p e = let z : ◌≡◌ {A = ℕ} 0 1 = cc in absurd (omega arith)

-- The two ways of a row's outcome: refused before an image is looked at, or what the image of the message's stripe makes of it.
module _ (s : Settings) (brick : ℕ) (row : List ℕ) (msg : Message) (block old out : List ℕ) where
  abbrev number : ℕ
  number = front_refusal s s.stripes brick (length row) msg (beside block old out)

  abbrev image : List ℕ
  image = image_at s msg.stripe row

  -- a refusal keeps every byte of the row
  pub refusal_keeps : (n : ℕ) → (row_outcome s brick row msg block old out).given ≡ Refused n → (row_outcome s brick row msg block old out).image ≡ row
  unfolding row_outcome row_refusal row_size in_row refused_with
  refusal_keeps n = go (eqb number passed) refl
    where
      go : (t : Bool) → eqb number passed ≡ t
          → (cond t (in_row s msg.stripe row (outcome s brick image msg block old out)) (refused_with number row out)).given ≡ Refused n
          → (cond t (in_row s msg.stripe row (outcome s brick image msg block old out)) (refused_with number row out)).image ≡ row
      go true q e = ap (λ (i : List ℕ). with_image s msg.stripe i row) (image_keeps s brick image msg block old out n e) ∙ image_back s msg.stripe row
      go false q e = refl

  -- "Trim t: no reply"; "a Drop has no reply"
  row_silent : (r : Reply) → is_silent msg.kind ≡ true → (row_outcome s brick row msg block old out).given ≡ Answered r → ⊥
  unfolding row_outcome row_refusal in_row refused_with
  row_silent r q = go (eqb number passed)
    where
      go : (t : Bool) → (cond t (in_row s msg.stripe row (outcome s brick image msg block old out)) (refused_with number row out)).given ≡ Answered r → ⊥
      go true e = image_silent s brick image msg block old out r q e
      go false e = let z : ◌≡◌ {A = ℕ} 0 1 = cc in absurd (omega arith)

  -- what may be sent stays within message 127
  pub room : (k : ℕ) (g : Given) → k ≤ last_message → may_send msg.kind k ≡ true → g ≡ (row_outcome s brick row msg block old out).given → sent_after_message k g ≤ last_message
  unfolding may_send sent_after_message
  room k (Answered r) h m e = go (is_silent msg.kind) refl m
    where
      go : (t : Bool) → is_silent msg.kind ≡ t → t || ltb k last_message ≡ true → k + 1 ≤ last_message
      go true q z = absurd (row_silent r q (sym e))
      go false q z = let w = ltb-true k last_message z in omega arith
  room k Silent h m e = h
  room k (Refused n) h m e = h

-- what the limit means for each answer
pub room_answered : (k : ℕ) (g : Given) (r : Reply) → g ≡ Answered r → sent_after_message k g ≤ last_message → k < last_message
unfolding sent_after_message
room_answered k g r e h = let q : sent_after_message k g ≡ k + 1 = ap (sent_after_message k) e in omega arith

pub room_any : (k : ℕ) (g : Given) → sent_after_message k g ≤ last_message → k ≤ last_message
unfolding sent_after_message
room_any k (Answered r) h = omega arith
room_any k Silent h = h
room_any k (Refused n) h = h

module _ (b : Bench) (block numbers bytes : List ℕ) (at : ℕ) (out : List ℕ) where
  none_more : (images kept : List ℕ) → world_in b (lent images kept numbers bytes) ≡ world_of b images kept (items_of b.settings.size numbers bytes b.sent ++ [])
  unfolding world_in
  none_more images kept = ap (world_of b images kept) (sym (append-nil (items_of b.settings.size numbers bytes b.sent)))

  -- a reply is one more item
  pub settled_answered : (g : Given) (a : Reply) (bench : Bench) (numbers' bytes' : List ℕ) → g ≡ Answered a → length block ≡ b.settings.size
      → b.sent < last_message → bench ≡ with_sent b (b.sent + 1) → Added b.sent block numbers bytes numbers' bytes' (reply a block)
      → Settled b g block numbers bytes at out (record { bench = bench; used = at }) numbers' bytes' out
  unfolding replied_with told_of with_sent world_in world_of
  settled_answered g a bench numbers' bytes' e n h eb d =
      subst (λ (v : Given). Settled b v block numbers bytes at out (record { bench = bench; used = at }) numbers' bytes' out) (sym e)
      (record {
        world_is = λ images kept. ap (λ (v : Bench). world_in v (lent images kept numbers' bytes')) eb ∙ ap (world_of b images kept) (d.items b.settings.size n);
        settings-kept = ap (λ (v : Bench). v.settings) eb;
        few = subst (λ (x : ℕ). x ≤ last_message) (sym (ap (λ (v : Bench). v.sent) eb)) (omega arith);
        text-is = sym (written_nothing at out);
        used-is = omega arith;
        short = omega arith;
        no-reply-keeps = λ q. (let z = ap length q in absurd (omega arith));
      })

  -- silence leaves all
  pub settled_silent : (g : Given) → g ≡ Silent → b.sent ≤ last_message → Settled b g block numbers bytes at out (record { bench = b; used = at }) numbers bytes out
  unfolding replied_with told_of
  settled_silent g e h =
      subst (λ (v : Given). Settled b v block numbers bytes at out (record { bench = b; used = at }) numbers bytes out) (sym e)
      (record {
        world_is = none_more;
        settings-kept = refl;
        few = h;
        text-is = sym (written_nothing at out);
        used-is = omega arith;
        short = omega arith;
        no-reply-keeps = λ q. (refl, refl, refl);
      })

  -- a refusal is printed
  pub settled_refused : (g : Given) (n : ℕ) (r : After) (out' : List ℕ) → g ≡ Refused n
      → ((l : Lent) → Turned b l at out (refuses (world_in b l) n) r l out')
      → Settled b g block numbers bytes at out r numbers bytes out'
  unfolding replied_with told_of refuses
  settled_refused g n r out' e t =
      let u = t (lent [] [] [] []) in
      subst (λ (v : Given). Settled b v block numbers bytes at out r numbers bytes out') (sym e)
      (record {
        world_is = λ images kept. (t (lent images kept numbers bytes)).world_is ∙ none_more images kept;
        settings-kept = u.settings-kept;
        few = u.few;
        text-is = u.text-is;
        used-is = u.used-is;
        short = u.short;
        no-reply-keeps = λ q. ((u.no-event-keeps refl).0, refl, refl);
      })
