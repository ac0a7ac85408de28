-- From what an opened brick makes of a message to the outcome.
use mathlib.Core.Path.{◌≡◌, refl, sym, ap, ap₂, subst, ◌∙◌}
use mathlib.Core.Bool.{Bool, true, false, cond, not, ◌&&◌, true≢false}
use mathlib.Core.List.{List, []}
use Prim.Native.Nat.{ℕ, zero, suc, ◌+◌, ◌-◌, ◌*◌, ◌≤◌, ◌<◌}
use native.Mathlib.Omega.{arith}
use native.Mathlib.Decide.{ℕ_discrete}
use lib.Dec.{leb, ltb, eqb}
use lib.ListN.{length, get_or}
use borrow.Author.Tests.{eq-eqb, ne_eqb}
use Rattle.settings.specs.declared.Settings.{Settings}
use Rattle.message.specs.Flags.{member}
use Rattle.message.specs.Messages.{is_silent}
use Rattle.message.specs.declared.Message.{Message}
use Rattle.image.specs.Brick.{Brick, entry_count, time_at, means_at, newest}
use Rattle.image.specs.Image.{image_of, image_size}
use Rattle.image.specs.Parse.{Opens, parse, brick_in}
use Rattle.image.specs.Workers.{ImageOpened}
use Rattle.image.proofs.Laws.FitLaws.{held_bytes}
use Rattle.image.proofs.Laws.HolderLaws.{meant}
use Rattle.image.specs.Opening.{working_log, blank, holder_of}
use Rattle.image.specs.Workers.{Hub}
use Rattle.image.proofs.Laws.HubLaws.{log_at}
use Rattle.image.specs.declared.Entry.{Entry}
use Rattle.image.specs.declared.Head.{Head}
use Rattle.image.specs.ImageAnswers.{Opening}
use Rattle.brick_answer.specs.declared.Comparison.{Comparison}
use Rattle.brick_answer.specs.declared.Comparison.TheVariants.{NewerTime, PromiseAhead, FullLog}
use Rattle.brick_answer.specs.Comparisons.{comparison_in, not_below_promise, above_newest, first_no}
use Rattle.brick_answer.proofs.Laws.ComparisonLaws.{none_first}
use Rattle.brick_log.specs.BrickRules.{comparison_to, read_yes, order_yes, under, lookup, time_for, place_for, found_for, yes_to, reply_to, brick_after, block_after}
use Rattle.brick.specs.Receive.{outcome_with, given_by, accepted}
use Rattle.brick_log.specs.Workers.{LogReady, Ahead, RemoveReady, Removes, Takes, removed_by, known_of, trim_plan, block_plan, plan_for, plan_in, cut_for, granted, under_in, under_for, looked_in}
use Rattle.brick_log.specs.Workers.{drop_plan, read_place, gave_of, holder_for}
use Rattle.brick_log.proofs.Laws.LookLaws.{under_brick, plan_brick, plan_trim, plan_drop, plan_read, plan_look, plan_block, plan_other}
use Rattle.brick_log.proofs.Laws.AnsweredLaws.{after_trim, after_drop}
use Rattle.brick_log.proofs.Laws.RemovalLaws.{trim_removes, drop_removes}
use Rattle.message.proofs.Laws.MessageLaws.{by_silent, not_silent, no_trim, no_drop}
use Rattle.brick_log.specs.declared.Known.{Known}
use Rattle.brick_log.specs.declared.Plan.{Plan}
use Rattle.brick_log.specs.declared.Plan.TheVariants.{Answer, Remove, Nothing}
use Rattle.brick_log.specs.declared.Removal.{Removal}
use Rattle.std.specs.Prelude.{Option, Some, None, IfSome, is_some}
use Rattle.brick.specs.Receive.{Given}
use Rattle.brick.specs.Receive.{Answered, Silent}
use Rattle.image_block.specs.Block.{block_bytes}
use Rattle.message.specs.Kinds.{order_read_kind, order_block_kind, read_kind, trim_kind, no_comparison}
use Rattle.settings.specs.Ranges.{max_capacity}

-- a yes is an answer to which no comparison says no
pub said_yes : (said : Option Comparison) (b : Bool) → is_some said ≡ not b → b ≡ eqb (comparison_in said) no_comparison
said_yes None true e = refl
said_yes None false e = cc
said_yes (Some NewerTime) true e = cc
said_yes (Some PromiseAhead) true e = cc
said_yes (Some FullLog) true e = cc
said_yes (Some NewerTime) false e = refl
said_yes (Some PromiseAhead) false e = refl
said_yes (Some FullLog) false e = refl

-- an opened image, and what is known of its brick
pub ready : (s : Settings) (brick : ℕ) (l : List ℕ) (o : Opening) (h : Head) (k : Known) → Hub s brick l o h → k ≡ known_of o.log h.count h.promise
    → LogReady s brick l k
unfolding newest
ready s brick l o h k u ek =
    let e = u.saved.is_read in
    subst (LogReady s brick l) (sym ek)
    (record {
      saved = subst (λ (y : Brick). ImageOpened s brick l y) e u.saved;
      counts = u.counts ∙ ap entry_count e;
      promises = u.promises ∙ ap (λ (y : Brick). y.promise) e;
      newests =
          ap (λ (c : ℕ). (get_or o.log (c - 1) blank).time) u.counts
          ∙ ap (λ (g : List Entry). (get_or g (entry_count u.x - 1) blank).time) u.logs
          ∙ ap (λ (v : Entry). v.time) (log_at u.x (entry_count u.x - 1) blank (omega (arith, u.low, u.counts)) (omega (arith, u.most, u.counts)))
          ∙ ap (λ (y : Brick). time_at y (entry_count y - 1)) e;
      holders =
          ap₂ (λ (g : List Entry) (c : ℕ). holder_of g (c - 1)) u.logs u.counts
          ∙ ap (λ (y : Brick). holder_of (working_log y) (entry_count y - 1)) e;
      low = u.low;
      high = u.high;
      most = u.saved.range.capacity-high;
    })

-- the block of an entry, or none
holder_some : (x : Brick) (n : ℕ) → 1 ≤ n → Some (holder_of (working_log x) (n - 1)) ≡ holder_for x n
unfolding holder_for
holder_some x zero h = absurd (omega arith)
holder_some x (suc i) h = let m : suc i - 1 ≡ i = omega arith in ap (λ (j : ℕ). Some (holder_of (working_log x) j)) m

-- the lookup gives one of the entries
under_most : (x : Brick) (max n : ℕ) → under x max n ≤ n
unfolding under
under_most x max zero = omega arith
under_most x max (suc i) = go (ltb (time_at x i) max) (under_most x max i)
  where
    go : (b : Bool) → under x max i ≤ i → cond b (suc i) (under x max i) ≤ suc i
    go true h = omega arith
    go false h = omega arith

-- the entry whose block goes with the reply is one of the log
place_high : (brick : ℕ) (x : Brick) (msg : Message) → place_for brick x msg ≤ entry_count x
unfolding place_for lookup
place_high brick x msg =
    go (eqb msg.kind read_kind) (eqb msg.kind order_read_kind) (eqb msg.kind order_block_kind) (read_yes x && member msg.targets brick)
    (order_yes x msg.time) (order_yes x msg.time && eqb brick msg.block) (under x msg.max (entry_count x)) (under_most x msg.max (entry_count x))
  where
    go : (a b c d e f : Bool) (u : ℕ) → u ≤ entry_count x
        → cond a (cond d (entry_count x) 0) (cond b (cond e u 0) (cond c (cond f (entry_count x) 0) 0)) ≤ entry_count x
    go true b c true e f u h = omega arith
    go true b c false e f u h = omega arith
    go false true c d true f u h = h
    go false true c d false f u h = omega arith
    go false false true d e true u h = omega arith
    go false false true d e false u h = omega arith
    go false false false d e f u h = omega arith

module _ (s : Settings) (brick : ℕ) (l : List ℕ) (k : Known) (r : LogReady s brick l k) where
  few : entry_count (brick_in s l) ≤ max_capacity
  few = omega (arith, r.counts, r.high, r.most)

  -- the block that an entry means stands in the image,
  pub holder_high : (place : ℕ) → place ≤ entry_count (brick_in s l) → IfSome (holder_for (brick_in s l) place) (λ (h : ℕ). h ≤ k.count)
  unfolding holder_for
  holder_high zero h = tt
  holder_high (suc i) h = omega (arith, (meant s brick l (brick_in s l) r.saved i (omega arith)).high, r.counts)

  -- and is what is copied from it
  gave_is : (place : ℕ) (out : List ℕ) → place ≤ entry_count (brick_in s l)
      → gave_of l s.size (holder_for (brick_in s l) place) out ≡ block_after (brick_in s l) place out
  unfolding gave_of block_after holder_for
  gave_is zero out h = refl
  gave_is (suc i) out h =
      let n : i ≡ suc i - 1 = omega arith in
      let m = meant s brick l (brick_in s l) r.saved i (omega arith) in
      rw (ne_eqb (suc i) 0 (λ q. omega (arith, q)))
      (held_bytes l s.size (holder_of (working_log (brick_in s l)) i) r.saved.range.code.size-high ∙ m.means
      ∙ ap (means_at (brick_in s l)) n)

  -- the newest entry's block
  newest_holder : Some k.holder ≡ holder_for (brick_in s l) (entry_count (brick_in s l))
  newest_holder = ap Some r.holders ∙ holder_some (brick_in s l) (entry_count (brick_in s l)) (omega (arith, r.low, r.counts))

  -- where it is given, or none
  given_holder : (b : Bool) → cond b (Some k.holder) None ≡ holder_for (brick_in s l) (cond b (entry_count (brick_in s l)) 0)
  unfolding holder_for
  given_holder true = newest_holder
  given_holder false = refl

  module _ (msg : Message) where
    granted_is : granted k msg ≡ order_yes (brick_in s l) msg.time
    unfolding granted order_yes above_newest not_below_promise
    granted_is = ap₂ (λ (a b : ℕ). ltb a msg.time && leb b msg.time) r.newests r.promises

    -- what the message asks for
    asked : Plan
    asked = Answer (holder_for (brick_in s l) (place_for brick (brick_in s l) msg)) (found_for brick (brick_in s l) msg)

    asked_read : msg.kind ≡ read_kind → Answer (read_place k msg.targets brick) k.newest ≡ asked
    unfolding asked place_for found_for read_place read_yes not_below_promise
    asked_read e =
        rw (eq-eqb msg.kind read_kind e)
        (ap₂ Answer
        (ap₂ (λ (a b : ℕ). cond (leb a b && member msg.targets brick) (Some k.holder) None) r.promises r.newests
        ∙ given_holder (leb (brick_in s l).promise (newest (brick_in s l)) && member msg.targets brick))
        r.newests)

    module _ (log : List Entry) (el : log ≡ working_log (brick_in s l)) (n : ℕ) (en : n ≡ k.count) where
      under_is : msg.kind ≡ order_read_kind → under_for log n k msg ≡ place_for brick (brick_in s l) msg
      unfolding place_for under_for lookup
      under_is e =
          rw (ne_eqb msg.kind read_kind (λ q. omega (arith, e, q)), eq-eqb msg.kind order_read_kind e)
          (ap₂ (λ (b : Bool) (u : ℕ). cond b u 0) granted_is
          (ap₂ (λ (g : List Entry) (c : ℕ). under_in g msg.max c) el (en ∙ r.counts)
          ∙ under_brick (brick_in s l) msg.max (entry_count (brick_in s l)) (omega arith) few))

      asked_look : msg.kind ≡ order_read_kind → plan_in log (looked_in (under_for log n k msg)) ≡ asked
      unfolding asked found_for
      asked_look e =
          let u = under_is e in
          rw (ne_eqb msg.kind read_kind (λ q. omega (arith, e, q)), ne_eqb msg.kind order_block_kind (λ q. omega (arith, e, q)))
          (ap (λ (g : List Entry). plan_in g (looked_in (under_for log n k msg))) el
          ∙ plan_brick (brick_in s l) (under_for log n k msg) (omega (arith, u, place_high brick (brick_in s l) msg)) few
          ∙ ap (λ (v : ℕ). Answer (holder_for (brick_in s l) v) (time_for (brick_in s l) v)) u)

    asked_block : msg.kind ≡ order_block_kind → block_plan k msg brick ≡ asked
    unfolding asked place_for found_for block_plan
    asked_block e =
        rw (
          ne_eqb msg.kind read_kind (λ q. omega (arith, e, q)),
          ne_eqb msg.kind order_read_kind (λ q. omega (arith, e, q)),
          eq-eqb msg.kind order_block_kind e,
          ← granted_is,
        )
        (go (granted k msg) (eqb brick msg.block))
      where
        go : (a b : Bool) → cond a (Answer (cond b (Some k.holder) None) k.newest) (Answer None 0)
            ≡ Answer (holder_for (brick_in s l) (cond (a && b) (entry_count (brick_in s l)) 0)) (cond a (newest (brick_in s l)) 0)
        go true b = ap₂ Answer (given_holder b) r.newests
        go false b = ap (λ (v : Option ℕ). Answer v 0) (given_holder false)

    module _ (a : msg.kind ≡ read_kind → ⊥) (b : msg.kind ≡ order_read_kind → ⊥) (c : msg.kind ≡ order_block_kind → ⊥) where
      place_none : place_for brick (brick_in s l) msg ≡ 0
      unfolding place_for
      place_none = rw (ne_eqb msg.kind read_kind a, ne_eqb msg.kind order_read_kind b, ne_eqb msg.kind order_block_kind c) refl

      asked_none : Answer None 0 ≡ asked
      unfolding asked found_for time_for holder_for
      asked_none = rw (place_none, ne_eqb msg.kind read_kind a, ne_eqb msg.kind order_block_kind c) refl

pub ahead : (s : Settings) (brick : ℕ) (l : List ℕ) (k : Known) (log : List Entry) (n : ℕ) (msg : Message) (p : Plan) → LogReady s brick l k
    → log ≡ working_log (brick_in s l) → n ≡ k.count → p ≡ plan_for log n k msg brick → Ahead brick (brick_in s l) k msg p
unfolding asked
ahead s brick l k log n msg p r e en q =
    record {
      answers = λ speaks. q ∙ go speaks (ℕ_discrete msg.kind read_kind) (ℕ_discrete msg.kind order_read_kind) (ℕ_discrete msg.kind order_block_kind);
      trims = λ z.
          trim_removes s brick l k r msg.time p
          (q ∙ plan_trim log n k msg brick z ∙ ap₂ (λ (g : List Entry) (c : ℕ). Remove (trim_plan g (cut_for g c msg.time))) e (en ∙ r.counts));
      drops = λ z.
          drop_removes s brick l k r msg.time p
          (q ∙ plan_drop log n k msg brick z ∙ ap₂ (λ (g : List Entry) (c : ℕ). drop_plan g c msg.time) e (en ∙ r.counts));
    }
  where
    go : is_silent msg.kind ≡ false → Dec (msg.kind ≡ read_kind) → Dec (msg.kind ≡ order_read_kind) → Dec (msg.kind ≡ order_block_kind)
        → plan_for log n k msg brick ≡ asked s brick l k r msg
    go w (yes a) b c = plan_read log n k msg brick a ∙ asked_read s brick l k r msg a
    go w (no a) (yes b) c = plan_look log n k msg brick b ∙ asked_look s brick l k r msg log e n en b
    go w (no a) (no b) (yes c) = plan_block log n k msg brick c ∙ asked_block s brick l k r msg c
    go w (no a) (no b) (no c) = plan_other log n k msg brick (no_trim msg.kind w) (no_drop msg.kind w) a b c ∙ asked_none s brick l k r msg a b c

-- the ways of acting
module _ (s : Settings) (brick : ℕ) (l : List ℕ) (k : Known) (msg : Message) (p : Plan) (r : LogReady s brick l k) (h : Ahead brick (brick_in s l) k msg p) where
  -- a Trim or a Drop takes out what leaves the brick after it
  takes : (block old : List ℕ) → is_silent msg.kind ≡ true → Takes (brick_in s l) k p (brick_after s brick (brick_in s l) msg block old)
  takes block old e =
      by_silent (Takes (brick_in s l) k p (brick_after s brick (brick_in s l) msg block old)) msg.kind e
      (λ z. subst (Takes (brick_in s l) k p) (sym (after_trim s brick (brick_in s l) msg block old z)) (h.trims z))
      (λ z. subst (Takes (brick_in s l) k p) (sym (after_drop s brick (brick_in s l) msg block old z)) (h.drops z))

  -- which of the two a plan is tells whether the message is answered
  told : Plan → Bool
  told (Answer place found) = false
  told (Remove q) = true
  told Nothing = true

  silent_is : is_silent msg.kind ≡ told p
  unfolding told Takes
  silent_is = go (is_silent msg.kind) refl p refl
    where
      go : (b : Bool) → is_silent msg.kind ≡ b → (q : Plan) → p ≡ q → b ≡ told q
      go false w q e = sym (ap told (sym e ∙ h.answers w))
      go true w (Answer place found) e = absurd (subst (λ (v : Plan). Takes (brick_in s l) k v (brick_after s brick (brick_in s l) msg [] [])) e (takes [] [] w))
      go true w (Remove q) e = refl
      go true w Nothing e = refl

  module _ (block old : List ℕ) where
    removes : (q : Removal) → p ≡ Remove q → Removes (brick_in s l) k q (brick_after s brick (brick_in s l) msg block old)
    unfolding told Takes
    removes q e = subst (λ (v : Plan). Takes (brick_in s l) k v (brick_after s brick (brick_in s l) msg block old)) e (takes block old (silent_is ∙ ap told e))

    stays : p ≡ Nothing → brick_after s brick (brick_in s l) msg block old ≡ brick_in s l
    unfolding told Takes
    stays e = subst (λ (v : Plan). Takes (brick_in s l) k v (brick_after s brick (brick_in s l) msg block old)) e (takes block old (silent_is ∙ ap told e))

  pub remove_ready : (q : Removal) → p ≡ Remove q → RemoveReady (brick_in s l) k q
  remove_ready q e = (removes [] [] q e).ready

  -- a message that is answered: what goes with the reply
  module _ (place : Option ℕ) (found : ℕ) (e : p ≡ Answer place found) where
    pub speaks : is_silent msg.kind ≡ false
    unfolding told
    speaks = silent_is ∙ ap told e

    answer_is : Answer place found ≡ Answer (holder_for (brick_in s l) (place_for brick (brick_in s l) msg)) (found_for brick (brick_in s l) msg)
    answer_is = sym e ∙ h.answers speaks

    place_is : place ≡ holder_for (brick_in s l) (place_for brick (brick_in s l) msg)
    place_is = let w = answer_is in cc

    found_is : found ≡ found_for brick (brick_in s l) msg
    found_is = let w = answer_is in cc

    -- the block that goes with the reply stands in the image
    pub place_low : IfSome place (λ (i : ℕ). block_bytes * (i + 1) ≤ length l)
    unfolding image_size
    place_low = go place place_is
      where
        go : (v : Option ℕ) → v ≡ holder_for (brick_in s l) (place_for brick (brick_in s l) msg) → IfSome v (λ (i : ℕ). block_bytes * (i + 1) ≤ length l)
        go None w = tt
        go (Some i) w =
            let low : i ≤ k.count =
            subst (λ (v : Option ℕ). IfSome v (λ (j : ℕ). j ≤ k.count)) (sym w) (holder_high s brick l k r (place_for brick (brick_in s l) msg) (place_high brick (brick_in s l) msg)) in
            omega (arith, low, r.high, r.saved.long)

  -- and there is one exactly where an entry is named
  held_same : (n : ℕ) → is_some (holder_for (brick_in s l) n) ≡ not (eqb n 0)
  unfolding holder_for
  held_same zero = refl
  held_same (suc n) = sym (ap not (ne_eqb (suc n) 0 (λ q. omega (arith, q))))

  -- the comparison that the code finds is the brick's
  pub said_is : (said : ℕ) → said ≡ first_no s.capacity k.count k.newest k.promise msg → said ≡ comparison_to s (brick_in s l) msg
  unfolding comparison_to
  said_is said e = e ∙ rw (r.counts, r.newests, r.promises) refl

  module _ (block old out : List ℕ) where
    -- part by part
    acts : (g : Given) (image out' : List ℕ) → g ≡ given_by s brick (brick_in s l) msg → image ≡ image_of s brick (brick_after s brick (brick_in s l) msg block old)
        → out' ≡ block_after (brick_in s l) (place_for brick (brick_in s l) msg) out
        → outcome_with g image out' ≡ accepted s brick msg block old l out (Opens (brick_in s l))
    unfolding accepted
    acts g image out' a b c = λ i. outcome_with (a i) (b i) (c i)

    acts_silent : (image : List ℕ) → is_silent msg.kind ≡ true → image ≡ image_of s brick (brick_after s brick (brick_in s l) msg block old)
        → outcome_with Silent image out ≡ accepted s brick msg block old l out (Opens (brick_in s l))
    unfolding given_by block_after
    acts_silent image silent w =
        acts Silent image out (sym (rw silent refl)) w
        (sym (rw (place_none s brick l k r msg (spoken read_kind (omega arith)) (spoken order_read_kind (omega arith)) (spoken order_block_kind (omega arith))) refl))
      where
        spoken : (kind : ℕ) → kind < trim_kind → msg.kind ≡ kind → ⊥
        spoken kind low q = true≢false (sym silent ∙ ap is_silent q ∙ not_silent kind low)

    pub acts_removed : (q : Removal) (image : List ℕ) → p ≡ Remove q → image ≡ image_of s brick (removed_by (brick_in s l) q)
        → outcome_with Silent image out ≡ accepted s brick msg block old l out (Opens (brick_in s l))
    unfolding told
    acts_removed q image e w = acts_silent image (silent_is ∙ ap told e) (w ∙ ap (image_of s brick) (sym (removes block old q e).leaves))

    pub acts_nothing : p ≡ Nothing → outcome_with Silent l out ≡ accepted s brick msg block old l out (Opens (brick_in s l))
    unfolding told
    acts_nothing e = acts_silent l (silent_is ∙ ap told e) (r.saved.is-image ∙ ap (image_of s brick) (sym (stays block old e)))

    pub acts_reply : (place : Option ℕ) (found said : ℕ) (image out' : List ℕ) → p ≡ Answer place found → said ≡ first_no s.capacity k.count k.newest k.promise msg
        → image ≡ image_of s brick (brick_after s brick (brick_in s l) msg block old) → out' ≡ gave_of l s.size place out
        → outcome_with (Answered (record {
          kind = msg.kind;
          brick = brick;
          stripe = msg.stripe;
          time = msg.time;
          round = msg.round;
          yes = eqb said no_comparison;
          found = found;
          held = is_some place;
          comparison = said;
        })) image out'
        ≡ accepted s brick msg block old l out (Opens (brick_in s l))
    unfolding given_by reply_to yes_to comparison_to
    acts_reply place found said image out' e es ei eo =
        let high = place_high brick (brick_in s l) msg in
        let said-so = said_is said es in
        let there = place_is place found e in
        acts _ image out'
        (sym (rw (speaks place found e)
        (sym (reply (ap (λ (n : ℕ). eqb n no_comparison) said-so ∙ none_first s.capacity (entry_count (brick_in s l)) (newest (brick_in s l)) (brick_in s l).promise msg)
        (found_is place found e) (ap is_some there ∙ held_same (place_for brick (brick_in s l) msg)) said-so))))
        ei
        (eo ∙ ap (λ (v : Option ℕ). gave_of l s.size v out) there ∙ gave_is s brick l k r (place_for brick (brick_in s l) msg) out high)
      where
        answered : (yes' : Bool) (found : ℕ) (held : Bool) (comparison : ℕ) → Given
        answered yes' found held comparison =
            Answered (record {
              kind = msg.kind;
              brick = brick;
              stripe = msg.stripe;
              time = msg.time;
              round = msg.round;
              yes = yes';
              found = found;
              held = held;
              comparison = comparison;
            })

        reply : {a a' : Bool} {b b' : ℕ} {c c' : Bool} {d d' : ℕ} → a ≡ a' → b ≡ b' → c ≡ c' → d ≡ d' → answered a b c d ≡ answered a' b' c' d'
        reply ea eb ec ed = λ i. answered (ea i) (eb i) (ec i) (ed i)

pub log_is : (s : Settings) (brick : ℕ) (l : List ℕ) (o : Opening) (h : Head) → Hub s brick l o h → o.log ≡ working_log (brick_in s l)
log_is s brick l o h u = u.logs ∙ ap working_log u.saved.is_read

-- ... at the brick that the hub names
pub hub_reads : (s : Settings) (brick : ℕ) (l : List ℕ) (o : Opening) (h : Head) → Hub s brick l o h → parse s brick l ≡ Opens (brick_in s l)
hub_reads s brick l o h u = u.is ∙ ap Opens u.saved.is_read
