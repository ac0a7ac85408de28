-- Laws of `specs/FreeEntries`: what each event adds to a log.
use mathlib.Core.Path.{◌≡◌, refl, sym, ap, subst, ◌∙◌}
use mathlib.Core.Bool.{Bool, true, false, cond}
use mathlib.Core.List.Memᴰ
use mathlib.Core.List.{List, [], ◌∷◌, ◌++◌, append-nil, append_assoc}
use Prim.Native.Nat.{ℕ, zero, suc, ◌+◌, ◌-◌, ◌≤◌, ◌<◌}
use native.Mathlib.Omega.{arith}
use native.Mathlib.Decide.{ℕ_discrete}
use lib.Dec.{eqb, ltb}
use lib.ListN.{length, replicate}
use borrow.Author.Tests.{eqb-true, eqb-false, eq-eqb, ne_eqb, ltb-true, ltb-false}
use Rattle.settings.specs.Ranges.{in_range}
use Rattle.settings.specs.Refusal.{passed}
use Rattle.settings.specs.declared.Settings.{Settings}
use Rattle.byte_lists.specs.Little.{are_bytes}
use Rattle.message.specs.Kinds.{read_kind, write_kind, modify_kind, trim_kind}
use Rattle.message.specs.Messages.{is_silent, stores_entry}
use Rattle.message.proofs.Laws.MessageLaws.{by_silent, silent_trim}
use Rattle.message.specs.declared.Message.{Message}
use Rattle.image.specs.Brick.{Brick, LogEntry, Sound, entry_count, newest}
use Rattle.image.specs.Parse.{Parsed, Opens, parse}
use Rattle.image.proofs.Laws.LogPlaceLaws.{rises_next, rises_to}
use Rattle.image.proofs.Laws.ParseLaws.{opened}
use Rattle.image_write.specs.Saving.{with_promise, lowest_held}
use Rattle.image_write.proofs.Laws.ImageStepLaws.{appended_count}
use Rattle.image_write.proofs.Laws.LowestLaws.{lowest_length}
use Rattle.brick_log.specs.BrickRules.{trimmed_to, dropped, dropped_from, yes_to, reply_to, place_for, brick_after, block_after}
use Rattle.brick_log.proofs.Laws.AnsweredLaws.{after_trim, after_drop, after_read_lem, no_changes_nothing, write_appends, modify_appends, order_promises}
use Rattle.brick_log.proofs.Laws.TrimLaws.{trim_places}
use Rattle.brick.specs.Receive
use Rattle.brick.specs.Receive.{Outcome, beside, outcome, receive_refusal, refused_with, given_by, given_number}
use Rattle.brick.proofs.Laws.BrickLaws.{after_opens}
use Rattle.brick.proofs.Laws.GivenNumberLaws.{outcome_number}
use Rattle.brick.proofs.Laws.OutcomeLaws.{Passes, passes}
use Rattle.volume.specs.Rows.{image_at, in_row, row_refusal, row_outcome}
use Rattle.volume.proofs.Laws.RowTheoremLaws.{other_stripes_stay, row_refused, row_acted, acted_here}
use Rattle.coord_apply.specs.Answers.{Step, refused, went}
use Rattle.register.specs.Runs.{Item, message, reply, World, Event, start_write, start_read, start_write_block, start_read_block, arrives, crashes, goes_down, comes_up}
use Rattle.register.specs.Runs.{Moved, unmoved, put_at, coordinated, replied_with, received, arriving, arriving_at, standing, step, run, broadcasts}
use Rattle.register.specs.Entries.{HasState}
use Rattle.register.specs.FreeEntries.{store_of, stores_by, OnlyStoresAddEntries, TakesTrim, FreeEntryAfterTrim}
use Rattle.order.specs.Claim.{◌∈◌}
use Rattle.register.proofs.Laws.AcceptedLaws.{messages_accepted}
use Rattle.register.proofs.Laws.AgreeLaws.{run_more}
use Rattle.register.proofs.Laws.BrickEvent.{put_here, put_there}
use Rattle.register.proofs.Laws.NeverRefusedLaws.{images_open}

stores_both : (stripe b : ℕ) (l k : List Item) → stores_by stripe b (l ++ k) ≡ stores_by stripe b l + stores_by stripe b k
unfolding stores_by
stores_both stripe b [] k = omega arith
stores_both stripe b (i ∷ l) k = let e = stores_both stripe b l k in omega arith

same_opens : (x y : Brick) → Opens x ≡ Opens y → x ≡ y
same_opens x y e = cc

-- Trim and Drop add nothing,
dropped_fewer : (t : ℕ) (log : List LogEntry) → length (dropped t log) ≤ length log
unfolding dropped
dropped_fewer t [] = omega arith
dropped_fewer t (e ∷ log) = go (eqb e.time t) e.mark (dropped_fewer t log)
  where
    go : (a m : Bool) → length (dropped t log) ≤ length log → length (cond a (cond m log (lowest_held log)) (e ∷ dropped t log)) ≤ length (e ∷ log)
    go true true h = omega arith
    go true false h = let n = lowest_length log in omega arith
    go false m h = omega arith

drop_fewer : (x : Brick) (t : ℕ) → entry_count (dropped_from x t) ≤ entry_count x
unfolding dropped_from entry_count
drop_fewer x t = go (eqb (length x.log) 1)
  where
    go : (a : Bool) → length (cond a x.log (dropped t x.log)) ≤ length x.log
    go true = omega arith
    go false = dropped_fewer t x.log

trim_fewer : (s : Settings) (x : Brick) (t : ℕ) → Sound s x → entry_count (trimmed_to x t) ≤ entry_count x
trim_fewer s x t r = let w = trim_places s x t r in omega (arith, w.1.count)

-- and a Trim not below the newest time leaves one
trim_leaves_one : (s : Settings) (x : Brick) (t : ℕ) → Sound s x → newest x ≤ t → entry_count (trimmed_to x t) ≡ 1
unfolding newest
trim_leaves_one s x t r h = go (ltb (d + 1) (entry_count x)) refl
  where
    d : ℕ
    d = (trim_places s x t r).0

    go : (a : Bool) → ltb (d + 1) (entry_count x) ≡ a → entry_count (trimmed_to x t) ≡ 1
    go true e =
        let w = (trim_places s x t r).1 in
        let l = ltb-true (d + 1) (entry_count x) e in
        let here = w.cut.here l in
        let next = rises_next s x r d (omega (arith, l)) in
        let up = rises_to s x r (suc d) (entry_count x - 1) (omega (arith, l)) (omega (arith, l)) in
        absurd (omega (arith, here, next, up, h))
    go false e =
        let w = (trim_places s x t r).1 in
        let l = ltb-false (d + 1) (entry_count x) e in
        omega (arith, l, w.count, w.cut.low)

-- what a message adds to a log is what its reply counts
module _ (s : Settings) (b : ℕ) (x : Brick) (msg : Message) (block old out : List ℕ) where
  abbrev replies : List Item
  replies = replied_with (given_by s b x msg) out

  told : is_silent msg.kind ≡ false → stores_entry msg.kind ≡ true → yes_to s x msg ≡ true → stores_by msg.stripe b replies ≡ 1
  unfolding stores_by store_of given_by replied_with reply_to
  told e k y = rw (e, eq-eqb msg.stripe msg.stripe refl, eq-eqb b b refl, k, y) refl

  after_count : Sound s x → entry_count (brick_after s b x msg block old) ≤ entry_count x + stores_by msg.stripe b replies
  unfolding entry_count with_promise stores_entry
  after_count r = silent (is_silent msg.kind) refl
    where
      answered : is_silent msg.kind ≡ false → yes_to s x msg ≡ true → Dec (msg.kind ≡ write_kind) → Dec (msg.kind ≡ modify_kind) → Dec (msg.kind ≡ read_kind)
          → entry_count (brick_after s b x msg block old) ≤ entry_count x + stores_by msg.stripe b replies
      answered e y (yes k) m d =
          let n = ap entry_count (write_appends s b x msg block old k y) ∙ appended_count x _ in
          let t = told e (rw (eq-eqb msg.kind write_kind k) refl) y in
          omega (arith, n, t)
      answered e y (no k) (yes m) d =
          let n = ap entry_count (modify_appends s b x msg block old m y) ∙ appended_count x _ in
          let t = told e (rw (ne_eqb msg.kind write_kind k, eq-eqb msg.kind modify_kind m) refl) y in
          omega (arith, n, t)
      answered e y (no k) (no m) (yes d) = let n = ap entry_count (after_read_lem s b x msg block old d) in omega (arith, n)
      answered e y (no k) (no m) (no d) = let n = ap entry_count (order_promises s b x msg block old e k m d y) in omega (arith, n)

      said : is_silent msg.kind ≡ false → (a : Bool) → yes_to s x msg ≡ a → entry_count (brick_after s b x msg block old) ≤ entry_count x + stores_by msg.stripe b replies
      said e true y = answered e y (ℕ_discrete msg.kind write_kind) (ℕ_discrete msg.kind modify_kind) (ℕ_discrete msg.kind read_kind)
      said e false y = let n = ap entry_count (no_changes_nothing s b x msg block old e y) in omega (arith, n)

      silent : (a : Bool) → is_silent msg.kind ≡ a → entry_count (brick_after s b x msg block old) ≤ entry_count x + stores_by msg.stripe b replies
      silent true e =
          by_silent _ msg.kind e
          (λ k. let n = ap entry_count (after_trim s b x msg block old k) in let f = trim_fewer s x msg.time r in omega (arith, n, f))
          (λ k. let n = ap entry_count (after_drop s b x msg block old k) in let f = drop_fewer x msg.time in omega (arith, n, f))
      silent false e = said e (yes_to s x msg) refl

-- the image of its stripe after a message
module _ (s : Settings) (b : ℕ) (x : Brick) (msg : Message) (block old out : List ℕ) where
  own_count : (bytes : List ℕ) (y : Brick) → parse s b bytes ≡ Opens x → parse s b (outcome s b bytes msg block old out).image ≡ Opens y
      → entry_count y ≤ entry_count x + stores_by msg.stripe b (replied_with (outcome s b bytes msg block old out).given (outcome s b bytes msg block old out).out)
  unfolding outcome refused_with Receive.accepted
  own_count bytes y px = go (eqb number passed) refl
    where
      number : ℕ
      number = receive_refusal s b bytes msg (beside block old out)

      acts : Parsed → Outcome
      acts p = Receive.accepted s b msg block old bytes out p

      -- the brick after it
      after : Brick
      after = brick_after s b x msg block old

      acted : number ≡ passed → (p : Parsed) → parse s b bytes ≡ p → parse s b (acts p).image ≡ Opens y
          → entry_count y ≤ entry_count x + stores_by msg.stripe b (replied_with (acts p).given (acts p).out)
      acted z p e q =
          subst (λ (p : Parsed). entry_count y ≤ entry_count x + stores_by msg.stripe b (replied_with (acts p).given (acts p).out)) (sym px ∙ e)
          (subst (λ (v : Brick). entry_count v ≤ entry_count x + stores_by msg.stripe b (replied_with (acts (Opens x)).given (acts (Opens x)).out)) is
          (counted (block_after x (place_for b x msg) out)))
        where
          w : Passes s b bytes msg (beside block old out)
          w = passes s b bytes msg (beside block old out) z

          counted : (out' : List ℕ) → entry_count after ≤ entry_count x + stores_by msg.stripe b (replied_with (given_by s b x msg) out')
          counted out' = after_count s b x msg block old out' (opened s b bytes x px).keeps

          is : after ≡ y
          is =
              same_opens after y
              (sym (after_opens s b bytes x msg block old px w.message w.front.block-is)
              ∙ ap (λ (p : Parsed). parse s b (acts p).image) (sym px ∙ e)
              ∙ q)

      go : (a : Bool) → eqb number passed ≡ a
          → parse s b (cond a (acts (parse s b bytes)) (refused_with number bytes out)).image ≡ Opens y
          → entry_count y
          ≤ entry_count x
          + stores_by msg.stripe b
          (replied_with (cond a (acts (parse s b bytes)) (refused_with number bytes out)).given (cond a (acts (parse s b bytes)) (refused_with number bytes out)).out)
      go true e q = acted (eqb-true number passed e) (parse s b bytes) refl q
      go false e q = let n = ap entry_count (same_opens x y (sym px ∙ q)) in omega (arith, n)

  -- the row
  row_count : (row : List ℕ) (y : Brick) → parse s b (image_at s msg.stripe row) ≡ Opens x
      → parse s b (image_at s msg.stripe (row_outcome s b row msg block old out).image) ≡ Opens y
      → entry_count y ≤ entry_count x + stores_by msg.stripe b (replied_with (row_outcome s b row msg block old out).given (row_outcome s b row msg block old out).out)
  unfolding in_row refused_with
  row_count row y px py = go (eqb number passed) refl
    where
      number : ℕ
      number = row_refusal s b row msg (beside block old out)

      bytes : List ℕ
      bytes = image_at s msg.stripe row

      go : (a : Bool) → eqb number passed ≡ a
          → entry_count y ≤ entry_count x + stores_by msg.stripe b (replied_with (row_outcome s b row msg block old out).given (row_outcome s b row msg block old out).out)
      go true e =
          let z = eqb-true number passed e in
          subst (λ (o : Outcome). entry_count y ≤ entry_count x + stores_by msg.stripe b (replied_with o.given o.out)) (sym (row_acted s b row msg block old out z))
          (own_count bytes y px (ap (parse s b) (sym (acted_here s b row msg block old out z)) ∙ py))
      go false e =
          let o = row_refused s b row msg block old out (eqb-false number passed e) in
          let n = ap entry_count (same_opens x y (sym px ∙ sym (ap (λ (o : Outcome). parse s b (image_at s msg.stripe o.image)) o) ∙ py)) in
          omega (arith, n)

module _ (s : Settings) (k b : ℕ) where
  -- what an event may do to a log
  abbrev Bounded : World → World → Type 0
  Bounded w v = (x y : Brick) → HasState s w k b x → HasState s v k b y → entry_count y + stores_by k b w.sent ≤ entry_count x + stores_by k b v.sent

  kept_bounded : (w v : World) (l : List Item) → image_at s k (v.images b) ≡ image_at s k (w.images b) → v.sent ≡ w.sent ++ l → Bounded w v
  kept_bounded w v l e q x y px py =
      let n = ap entry_count (same_opens x y (sym px ∙ ap (parse s b) (sym e) ∙ py)) in
      let m = ap (stores_by k b) q ∙ stores_both k b w.sent l in
      omega (arith, n, m)

  still_bounded : (w : World) → Bounded w w
  still_bounded w = kept_bounded w w [] refl (sym (append-nil w.sent))

  coordinated_bounded : (w : World) (c : ℕ) (p : Step) → Bounded w (coordinated s w c p).world
  unfolding coordinated unmoved
  coordinated_bounded w c (refused number) = still_bounded w
  coordinated_bounded w c (went g) = kept_bounded w (coordinated s w c (went g)).world (broadcasts s g.sent) refl refl

  standing_bounded : (w : World) (c : ℕ) (how : Bool) → Bounded w (standing s w c how).world
  unfolding standing unmoved
  standing_bounded w c how = go (ltb c s.n)
    where
      stood : Moved s
      stood = record { world = record { images = w.images; up = put_at w.up c how; coordinators = w.coordinators; sent = w.sent }; seen = λ (j : ℕ). [] }

      go : (a : Bool) → Bounded w (cond a stood (unmoved s w)).world
      go true = kept_bounded w stood.world [] refl (sym (append-nil w.sent))
      go false = still_bounded w

-- a message that reaches brick c: that brick's log on its stripe, and any other
module _ (s : Settings) (w : World) (c : ℕ) (msg : Message) (block old : List ℕ) where
  abbrev o : Outcome
  o = row_outcome s c (w.images c) msg block old (replicate s.size 0)

  here_bounded : Bounded s msg.stripe c w (received s w c o).world
  unfolding received
  here_bounded x y px py =
      let n = row_count s c x msg block old (replicate s.size 0) (w.images c) y px
      (subst (λ (row : List ℕ). parse s c (image_at s msg.stripe row) ≡ Opens y) (put_here w.images c o.image) py) in
      let m = stores_both msg.stripe c w.sent (replied_with o.given o.out) in
      omega (arith, n, m)

  received_bounded : (k b : ℕ) → Bounded s k b w (received s w c o).world
  unfolding received
  received_bounded k b = go (ℕ_discrete b c) (ℕ_discrete k msg.stripe)
    where
      v : World
      v = (received s w c o).world

      go : Dec (b ≡ c) → Dec (k ≡ msg.stripe) → Bounded s k b w v
      go (yes e) (yes q) = subst (λ (j : ℕ). Bounded s j b w v) (sym q) (subst (λ (d : ℕ). Bounded s msg.stripe d w v) (sym e) here_bounded)
      go (yes e) (no q) =
          kept_bounded s k b w v (replied_with o.given o.out)
          (ap (λ (d : ℕ). image_at s k (put_at w.images c o.image d)) e
          ∙ ap (image_at s k) (put_here w.images c o.image)
          ∙ other_stripes_stay s c (w.images c) msg block old (replicate s.size 0) k q
          ∙ ap (λ (d : ℕ). image_at s k (w.images d)) (sym e)) refl
      go (no e) q = kept_bounded s k b w v (replied_with o.given o.out) (ap (image_at s k) (put_there w.images c o.image b e)) refl

module _ (s : Settings) (k b : ℕ) where
  arriving_bounded : (w : World) (i : Item) → Bounded s k b w (arriving s w i).world
  unfolding arriving unmoved
  arriving_bounded w (message c msg block old) = go (w.up c)
    where
      go : (a : Bool)
          → Bounded s k b w (cond a (received s w c (row_outcome s c (w.images c) msg block old (replicate s.size 0))) (unmoved s w)).world
      go true = received_bounded s w c msg block old k b
      go false = still_bounded s k b w
  arriving_bounded w (reply r block) = coordinated_bounded s k b w _ _

  place_bounded : (w : World) (l : List Item) (p : ℕ) → Bounded s k b w (arriving_at s w l p).world
  unfolding arriving_at unmoved
  place_bounded w [] p = still_bounded s k b w
  place_bounded w (i ∷ l) zero = arriving_bounded w i
  place_bounded w (i ∷ l) (suc p) = place_bounded w l p

  -- a start with its content
  content_bounded : (w : World) (c : ℕ) (p : Step) (a : Bool) → Bounded s k b w (cond a (coordinated s w c p) (unmoved s w)).world
  unfolding unmoved
  content_bounded w c p true = coordinated_bounded s k b w c p
  content_bounded w c p false = still_bounded s k b w

  step_bounded : (w : World) (e : Event) → Bounded s k b w (step s w e).world
  unfolding step
  step_bounded w (start_write c stripe reading content) = content_bounded w c _ (are_bytes content)
  step_bounded w (start_read c stripe reading first) = coordinated_bounded s k b w c _
  step_bounded w (start_write_block c stripe reading block content) = content_bounded w c _ (are_bytes content)
  step_bounded w (start_read_block c stripe reading block) = coordinated_bounded s k b w c _
  step_bounded w (arrives p) = place_bounded w w.sent p
  step_bounded w (crashes c left) = coordinated_bounded s k b w c _
  step_bounded w (goes_down c) = standing_bounded s k b w c false
  step_bounded w (comes_up c) = standing_bounded s k b w c true

  run_bounded : in_range s ≡ true → k < s.stripes → b < s.n → (events later : List Event) → Bounded s k b (run s events).world (run s (events ++ later)).world
  run_bounded range low l events [] =
      subst (λ (es : List Event). Bounded s k b (run s events).world (run s es).world) (sym (append-nil events)) (still_bounded s k b (run s events).world)
  run_bounded range low l events (e ∷ later) = λ x y px py.
      let between = images_open s range (events ++ e ∷ []) k b low l in
      let first : Bounded s k b (run s events).world (run s (events ++ e ∷ [])).world =
      subst (λ (m : Moved s). Bounded s k b (run s events).world m.world) (sym (run_more s events e)) (step_bounded (run s events).world e) in
      let rest = run_bounded range low l (events ++ e ∷ []) later in
      let again = append_assoc events (e ∷ []) later in
      let n = first x between.0 px between.1 in
      let m = rest between.0 y between.1 (subst (λ (es : List Event). HasState s (run s es).world k b y) (sym again) py) in
      let q = ap (λ (es : List Event). stores_by k b (run s es).world.sent) again in
      omega (arith, n, m, q)

pub only_stores_add_entries : OnlyStoresAddEntries
only_stores_add_entries s e events later stripe b low l = run_bounded s stripe b e low l events later

-- a Trim that is not refused, at its image and in its row
module _ (s : Settings) (b : ℕ) (x : Brick) (msg : Message) (block old out : List ℕ) (trims : msg.kind ≡ trim_kind) where
  own_trim : (bytes : List ℕ) → parse s b bytes ≡ Opens x → receive_refusal s b bytes msg (beside block old out) ≡ passed
      → let o = outcome s b bytes msg block old out in
      (parse s b o.image ≡ Opens (trimmed_to x msg.time)) × (replied_with o.given o.out ≡ [])
  unfolding outcome Receive.accepted given_by replied_with
  own_trim bytes px z =
      let w = passes s b bytes msg (beside block old out) z in
      let is : outcome s b bytes msg block old out ≡ Receive.accepted s b msg block old bytes out (Opens x) = rw (eq-eqb _ passed z, px) refl in (
        ap (λ (o : Outcome). parse s b o.image) is
            ∙ after_opens s b bytes x msg block old px w.message w.front.block-is
            ∙ ap Opens (after_trim s b x msg block old trims),
        ap (λ (o : Outcome). replied_with o.given o.out) is ∙ rw (silent_trim msg.kind trims) refl,
      )

  row_trim : (row : List ℕ) → parse s b (image_at s msg.stripe row) ≡ Opens x → given_number (row_outcome s b row msg block old out).given ≡ passed
      → let o = row_outcome s b row msg block old out in
      (parse s b (image_at s msg.stripe o.image) ≡ Opens (trimmed_to x msg.time)) × (replied_with o.given o.out ≡ [])
  unfolding in_row refused_with given_number
  row_trim row px z = go (eqb number passed) refl
    where
      number : ℕ
      number = row_refusal s b row msg (beside block old out)

      bytes : List ℕ
      bytes = image_at s msg.stripe row

      go : (a : Bool) → eqb number passed ≡ a
          → (parse s b (image_at s msg.stripe (row_outcome s b row msg block old out).image) ≡ Opens (trimmed_to x msg.time))
          × (replied_with (row_outcome s b row msg block old out).given (row_outcome s b row msg block old out).out ≡ [])
      go true e =
          let q = eqb-true number passed e in
          let acts = row_acted s b row msg block old out q in
          let own = own_trim bytes px
          (sym (outcome_number s b bytes msg block old out) ∙ sym (ap (λ (o : Outcome). given_number o.given) acts) ∙ z) in (
            ap (parse s b) (acted_here s b row msg block old out q) ∙ own.0,
            ap (λ (o : Outcome). replied_with o.given o.out) acts ∙ own.1,
          )
      go false e =
          let n = eqb-false number passed e in
          absurd (n (sym (ap (λ (o : Outcome). given_number o.given) (row_refused s b row msg block old out n)) ∙ z))

-- the item behind others
item_there : (s : Settings) (w : World) (earlier others : List Item) (i : Item)
    → arriving_at s w (earlier ++ i ∷ others) (length earlier) ≡ arriving s w i
unfolding arriving_at
item_there s w [] others i = refl
item_there s w (j ∷ earlier) others i = item_there s w earlier others i

module _ (s : Settings) (w : World) (k stripe b : ℕ) (t : TakesTrim s w k stripe b) where
  trimming : Outcome
  trimming = row_outcome s b (w.images b) t.msg t.block t.old (replicate s.size 0)

  trim_step : given_number trimming.given ≡ passed
      → (HasState s (step s w (arrives k)).world stripe b (trimmed_to t.state t.msg.time)) × ((step s w (arrives k)).world.sent ≡ w.sent)
  unfolding step arriving received trimming
  trim_step given =
      let there = item_there s w t.earlier t.others (message b t.msg t.block t.old) in
      let at = ap (λ (l : List Item). arriving_at s w l k) t.sent_is ∙ ap (arriving_at s w (t.earlier ++ message b t.msg t.block t.old ∷ t.others)) t.place_is ∙ there in
      let is : arriving_at s w w.sent k ≡ received s w b trimming = at ∙ rw t.is_up refl in
      let row = row_trim s b t.state t.msg t.block t.old (replicate s.size 0) t.trims (w.images b)
      (subst (λ (j : ℕ). HasState s w j b t.state) (sym t.on-stripe) t.has-state) given in (
        subst (λ (m : Moved s). HasState s m.world stripe b (trimmed_to t.state t.msg.time)) (sym is)
            (ap (λ (l : List ℕ). parse s b (image_at s stripe l)) (put_here w.images b trimming.image)
            ∙ ap (λ (j : ℕ). parse s b (image_at s j trimming.image)) (sym t.on-stripe)
            ∙ row.0),
        ap (λ (m : Moved s). m.world.sent) is ∙ ap (λ (l : List Item). w.sent ++ l) row.1 ∙ append-nil w.sent,
      )

pub free_entry_after_trim : FreeEntryAfterTrim
unfolding trimming
free_entry_after_trim s e before later k stripe b low l t few y py =
    let w = (run s before).world in
    let x = trimmed_to t.state t.msg.time in
    let one = trim_leaves_one s t.state t.msg.time (opened s b (image_at s stripe (w.images b)) t.state t.has-state).keeps t.not-below in
    let sent-there : message b t.msg t.block t.old ∈ w.sent = subst (λ (l : List Item). message b t.msg t.block t.old ∈ l) (sym t.sent_is)
    (Memᴰ.append_right t.earlier (Memᴰ.head refl)) in
    let took = trim_step s w k stripe b t (messages_accepted s e before b t.msg t.block t.old sent-there) in
    let more = run_more s before (arrives k) in
    let has = subst (λ (m : Moved s). HasState s m.world stripe b x) (sym more) took.0 in
    let again = append_assoc before (arrives k ∷ []) later in
    let sent = ap (λ (m : Moved s). stores_by stripe b m.world.sent) more ∙ ap (stores_by stripe b) took.1 in
    let n = only_stores_add_entries s e (before ++ arrives k ∷ []) later stripe b low l x y has
    (subst (λ (es : List Event). HasState s (run s es).world stripe b y) (sym again) py) in
    let q = ap (λ (es : List Event). stores_by stripe b (run s es).world.sent) again in
    omega (arith, one, sent, n, q, few)
