-- What a brick's answer does at message 127, and the number of a message whose reply may no longer be sent.
use mathlib.Core.Path.{◌≡◌, refl, sym, ap, ◌∙◌}
use mathlib.Core.Bool.{Bool, true, false, ◌||◌, true≢false}
use mathlib.Core.List.{List, []}
use Prim.Native.Nat.{ℕ, ◌+◌, ◌-◌, ◌*◌, ◌<◌}
use native.Mathlib.Omega.{arith}
use native.Mathlib.Decide.{ℕ_discrete}
use lib.Dec.{ltb}
use lib.ListN.{length, take, drop, replicate, length-replicate}
use borrow.Author.Tests.{ne_eqb, lt-ltb}
use Rattle.settings.specs.Refusal.{passed, bad_line}
use Rattle.settings.specs.declared.Settings.{Settings}
use Rattle.settings.proofs.Laws.RefusalLaws.{first_stop, first_pass, first_alone}
use Rattle.message.specs.Messages.{is_silent, message_refusal}
use Rattle.message.specs.declared.Message.{Message}
use Rattle.message.specs.declared.Reply.{Reply}
use Rattle.image.specs.Parse.{brick_in, parse, open_refusal}
use Rattle.image.proofs.Laws.ParseLaws.{parse_opens}
use Rattle.image.proofs.Laws.ShownNumberLaws.{opening_number}
use Rattle.image.specs.Image.{image_size}
use Rattle.image.specs.Opening.{opening, answer_number}
use Rattle.image.specs.ImageAnswers.{Opening}
use Rattle.image_block.specs.Block.{block_bytes}
use Rattle.brick_log.specs.BrickRules.{reply_to}
use Rattle.brick.specs.Receive.{Beside, beside, Outcome, front_refusal, receive_refusal, refused_with, given_by, accepted, outcome}
use Rattle.brick.proofs.Laws.OutcomeLaws.{passes}
use Rattle.brick.specs.Receive.{Answered, Silent, Refused}
use Rattle.volume.specs.Rows.{row_size, row_outcome}
use Rattle.volume.proofs.Laws.RowTheoremLaws.{one_image_is_a_row_of_one}
use Rattle.image.specs.Opening.{opening_in}
use Rattle.image.specs.declared.Opened.{Opened}
use Rattle.settings.specs.Refusal.{number_of_refusal}
use Rattle.settings.specs.declared.Refusal.{Refusal}
use Rattle.std.specs.Prelude.{Ok, Err}
use Rattle.register.specs.Runs.{World, arrives}
use Rattle.bench_rules.specs.Play.{delivered, happens, refuses}
use Rattle.bench_carry_message.specs.Workers.{may_send, image_in, of_the_size, past_limit}
use Rattle.bench_limits.specs.Limits.{last_message, image_room}
use Rattle.bench_state.specs.Workers.{Fits}
use Rattle.bench_state.proofs.Laws.BenchRangeLaws.{row_of_one}

-- the ways of what a brick gave
module _ (s : Settings) (w : World) (k : ℕ) where
  pub answer_sent : (r : Reply) → length w.sent < last_message → delivered s w k (Answered r) ≡ happens s w (arrives k) []
  unfolding delivered
  answer_sent r h = rw (lt-ltb (length w.sent) last_message h) refl

  answer_past : (r : Reply) → ltb (length w.sent) last_message ≡ false → delivered s w k (Answered r) ≡ refuses w bad_line
  unfolding delivered
  answer_past r h = rw h refl

  pub silence : delivered s w k Silent ≡ happens s w (arrives k) []
  unfolding delivered
  silence = refl

  pub refusal : (n : ℕ) → delivered s w k (Refused n) ≡ refuses w n
  unfolding delivered
  refusal n = refl

-- what may not be sent would be a reply, past the limit
past_kind : (kind sent : ℕ) → may_send kind sent ≡ false → (is_silent kind ≡ false) × (ltb sent last_message ≡ false)
unfolding may_send
past_kind kind sent e = go (is_silent kind) refl e
  where
    go : (t : Bool) → is_silent kind ≡ t → t || ltb sent last_message ≡ false → (is_silent kind ≡ false) × (ltb sent last_message ≡ false)
    go true q z = absurd (true≢false z)
    go false q z = (q, z)

-- the two ways of the number
past_none : (number : ℕ) → number ≡ passed → past_limit number ≡ bad_line
unfolding past_limit
past_none number e = rw e refl

past_refused : (number : ℕ) → (number ≡ passed → ⊥) → past_limit number ≡ number
unfolding past_limit
past_refused number h = rw (ne_eqb number passed h) refl

-- the two ways of an image's outcome
module _ (s : Settings) (brick : ℕ) (l : List ℕ) (msg : Message) (block old out : List ℕ) where
  abbrev number : ℕ
  number = receive_refusal s brick l msg (beside block old out)

  answers : number ≡ passed → is_silent msg.kind ≡ false → (outcome s brick l msg block old out).given ≡ Answered (reply_to s brick (brick_in s l) msg)
  unfolding outcome accepted given_by
  answers z q = rw (z, parse_opens s brick l (passes s brick l msg (beside block old out) z).opens, q) refl

  refuses_it : (number ≡ passed → ⊥) → (outcome s brick l msg block old out).given ≡ Refused number
  unfolding outcome refused_with
  refuses_it h = rw (ne_eqb number passed h) refl

  module _ (w : World) (k : ℕ) (q : is_silent msg.kind ≡ false) (f : ltb (length w.sent) last_message ≡ false) where
    past_image : delivered s w k (outcome s brick l msg block old out).given ≡ refuses w (past_limit number)
    past_image = go (ℕ_discrete number passed)
      where
        go : Dec (number ≡ passed) → delivered s w k (outcome s brick l msg block old out).given ≡ refuses w (past_limit number)
        go (yes z) =
            ap (delivered s w k) (answers z q) ∙ answer_past s w k (reply_to s brick (brick_in s l) msg) f ∙ ap (refuses w) (sym (past_none number z))
        go (no h) = ap (delivered s w k) (refuses_it h) ∙ refusal s w k number ∙ ap (refuses w) (sym (past_refused number h))

-- a carried message whose reply may no longer be sent
pub past_the_limit : (s : Settings) (w : World) (k brick : ℕ) (row : List ℕ) (msg : Message) (block old : List ℕ) → s.stripes ≡ 1
    → length block ≡ s.size → length old ≡ s.size → may_send msg.kind (length w.sent) ≡ false
    → delivered s w k (row_outcome s brick row msg block old (replicate s.size 0)).given
    ≡ refuses w (past_limit (receive_refusal s brick row msg (of_the_size s)))
past_the_limit s w k brick row msg block old one eb eo m =
    let p = past_kind msg.kind (length w.sent) m in
    ap (λ (v : Outcome). delivered s w k v.given) (one_image_is_a_row_of_one s brick row msg block old (replicate s.size 0) one)
    ∙ past_image s brick row msg block old (replicate s.size 0) w k p.0 p.1
    ∙ ap (λ (x : Beside). refuses w (past_limit (receive_refusal s brick row msg x))) (sizes eb eo (length-replicate s.size 0))
  where
    sizes : {a b c : ℕ} → a ≡ s.size → b ≡ s.size → c ≡ s.size → ◌≡◌ {A = Beside} (record { block = a; old = b; out = c }) (of_the_size s)
    sizes x y z = λ i. record { block = x i; old = y i; out = z i }

-- the ways of the brick's own refusal
module _ (s : Settings) (brick : ℕ) (l : List ℕ) (msg : Message) (b : Beside) (k : ℕ) (ek : k ≡ front_refusal s 1 brick (length l) msg b) where
  pub refused_front : (k ≡ 0 → ⊥) → k ≡ receive_refusal s brick l msg b
  unfolding receive_refusal
  refused_front h = ek ∙ first_stop (front_refusal s 1 brick (length l) msg b) _ (λ z. h (ek ∙ z))

  module _ (zk : k ≡ 0) (j : ℕ) (ej : j ≡ open_refusal s brick l) where
    pub refused_image : (j ≡ 0 → ⊥) → j ≡ receive_refusal s brick l msg b
    unfolding receive_refusal
    refused_image h =
        ej
        ∙ first_stop (open_refusal s brick l) _ (λ z. h (ej ∙ z))
        ∙ sym (first_pass (front_refusal s 1 brick (length l) msg b) _ (sym ek ∙ zk))

    pub refused_message : j ≡ 0 → (m : ℕ) → m ≡ message_refusal s.n s.m msg → m ≡ receive_refusal s brick l msg b
    unfolding receive_refusal
    refused_message zj m em =
        em
        ∙ sym (first_alone (message_refusal s.n s.m msg))
        ∙ sym (first_pass (open_refusal s brick l) _ (sym ej ∙ zj))
        ∙ sym (first_pass (front_refusal s 1 brick (length l) msg b) _ (sym ek ∙ zk))

-- the number of an image that does not open
damaged_is : (s : Settings) (brick : ℕ) (l : List ℕ) (o : Opening) (j : ℕ) → o ≡ opening (parse s brick l) → j ≡ answer_number o.answer
    → j ≡ open_refusal s brick l
damaged_is s brick l o j eo e = e ∙ ap (λ (x : Opening). answer_number x.answer) eo ∙ opening_number s brick l

-- ... of the code's own answer, and that of one that opens
pub unopened_is : (s : Settings) (brick : ℕ) (l : List ℕ) (r : Refusal) → opening_in (Err r) ≡ opening (parse s brick l) → number_of_refusal r ≡ open_refusal s brick l
unfolding answer_number
unopened_is s brick l r e = damaged_is s brick l (opening_in (Err r)) (number_of_refusal r) e refl

pub opened_is : (s : Settings) (brick : ℕ) (l : List ℕ) (o : Opened) → opening_in (Ok o) ≡ opening (parse s brick l) → 0 ≡ open_refusal s brick l
unfolding answer_number
opened_is s brick l o e = damaged_is s brick l (opening_in (Ok o)) 0 e refl

-- the image as the code cuts it
module _ (s : Settings) (brick : ℕ) (images : List ℕ) (msg : Message) (number : ℕ) (f : Fits s)
    (e : number ≡ receive_refusal s brick (take (brick * image_room + block_bytes * (s.capacity + 1) - brick * image_room) (drop (brick * image_room) images)) msg (of_the_size s)) where
  abbrev there : ℕ
  there = receive_refusal s brick (image_in s brick images) msg (of_the_size s)

  here : number ≡ there
  unfolding image_in image_size
  here = e ∙ ap (λ (j : ℕ). receive_refusal s brick (take j (drop (brick * image_room) images)) msg (of_the_size s)) cut
    where
      cut : brick * image_room + block_bytes * (s.capacity + 1) - brick * image_room ≡ row_size s
      cut = omega (arith, row_of_one s f.small.one-stripe)

  pub past_brick : (number ≡ 0 → ⊥) → number ≡ past_limit there
  past_brick h = here ∙ sym (past_refused there (λ z. h (here ∙ z)))

  pub past_line : number ≡ 0 → bad_line ≡ past_limit there
  past_line z = sym (past_none there (sym here ∙ z))
