-- What each message does to a brick.
use mathlib.Core.Path.{◌≡◌, refl, sym, ap, subst, ◌∙◌}
use mathlib.Core.Bool.{Bool, true, false, cond, ◌&&◌, true≢false}
use mathlib.Core.List.{List}
use Prim.Native.Nat.{ℕ, zero, suc, ◌+◌, ◌-◌, ◌≤◌, ◌<◌}
use native.Mathlib.Omega.{arith}
use native.Mathlib.Decide.{ℕ_discrete, dec_lt}
use lib.Arith.{lt_of_le-ne}
use lib.Dec.{eqb, ltb}
use lib.ListN.{length}
use borrow.Author.Tests.{ltb-true, ltb-false, lt-ltb, le-ltb, leb-true, eqb-true, eq-eqb, ne_eqb}
use Rattle.byte_lists.proofs.Laws.BoolLaws.{and_left, and_right}
use Rattle.erasure.specs.Recoding.{recoded_block}
use Rattle.settings.specs.Times.{valid_time}
use Rattle.settings.specs.declared.Settings.{Settings}
use Rattle.message.specs.declared.Message.{Message}
use Rattle.image.specs.Brick.{Brick, LogEntry, entry_count, time_at, means_at, mark_at, newest, saved_time}
use Rattle.image.specs.Image.{image_of}
use Rattle.image.specs.Parse.{Parsed, Opens, parse}
use Rattle.image.proofs.Laws.ParseLaws.{opened, parse_image}
use Rattle.image.specs.Brick.{Sound}
use Rattle.image_write.specs.Saving.{with_promise, appended, block_entry, mark_entry}
use Rattle.settings.specs.Refusal.{refuse_unless}
use Rattle.message.specs.Messages.{is_silent, message_refusal, round_right, kind_right}
use Rattle.image_write.proofs.Laws.ImageStepLaws.{promised_promise, appended_promise, promised_count, promised_time, promised_means, promised_mark}
use Rattle.image_write.proofs.Laws.ImageStepLaws.{appended_count, appended_time_old, appended_means_old, appended_mark_old}
use Rattle.image_write.proofs.Laws.ImageStepLaws.{appended_time_new, appended_means_new, appended_mark_new}
use Rattle.brick_answer.specs.Comparisons.{above_newest, not_below_promise}
use Rattle.brick_log.specs.BrickRules.{order_yes, write_yes, modify_yes, ordered_if_yes, written_if_yes, modified_if_yes}
use Rattle.brick_log.specs.BrickRules.{newest_block, modified_entry, trimmed_to, dropped_from, under, lookup, brick_after}
use Rattle.image.proofs.Laws.LogPlaceLaws.{saved_valid, newest_at, rises_next, rises_to, sound_of}
use Rattle.brick_log.proofs.Laws.AnsweredLaws.{after_trim, after_drop, after_write_lem, after_modify, after_read_lem, after_order, write_free, modify_written}
use Rattle.brick_log.proofs.Laws.DropLaws.{drop_promise, drop_not_empty, dropped_sound}
use Rattle.brick_log.proofs.Laws.LogChangeLaws.{modified_sized}
use Rattle.brick_log.proofs.Laws.TrimLaws.{trim_not_empty, trim_keeps_newest, trimmed_sound}
use Rattle.brick.specs.AgainTheorem.{OpensAgain}
use Rattle.brick.specs.Receive.{Highest, beside, receive_refusal, refused_with, accepted, outcome}
use Rattle.brick.proofs.Laws.OutcomeLaws.{passes}
use Rattle.message.specs.Kinds.{read_kind, trim_kind, drop_kind, write_kind, modify_kind}
use Rattle.settings.specs.Refusal.{bad_message, passed}

-- a claim about the brick after a message is shown for each of the five changes and for none
module _ (s : Settings) (brick : ℕ) (x : Brick) (msg : Message) (block old : List ℕ) where
  by_kind : (P : Brick → Type 0) → P (trimmed_to x msg.time) → (msg.kind ≡ drop_kind → P (dropped_from x msg.time))
      → P (written_if_yes s x msg.time block) → P (modified_if_yes s brick x msg block old) → P x
      → P (ordered_if_yes x msg.time) → P (brick_after s brick x msg block old)
  unfolding is_silent
  by_kind P t g w m r o =
      go (ℕ_discrete msg.kind trim_kind) (ℕ_discrete msg.kind drop_kind) (ℕ_discrete msg.kind write_kind) (ℕ_discrete msg.kind modify_kind)
      (ℕ_discrete msg.kind read_kind)
    where
      go : Dec (msg.kind ≡ trim_kind) → Dec (msg.kind ≡ drop_kind) → Dec (msg.kind ≡ write_kind) → Dec (msg.kind ≡ modify_kind) → Dec (msg.kind ≡ read_kind)
          → P (brick_after s brick x msg block old)
      go (yes a) e b c d = subst P (sym (after_trim s brick x msg block old a)) t
      go (no a) (yes e) b c d = subst P (sym (after_drop s brick x msg block old e)) (g e)
      go (no a) (no e) (yes b) c d = subst P (sym (after_write_lem s brick x msg block old b)) w
      go (no a) (no e) (no b) (yes c) d = subst P (sym (after_modify s brick x msg block old c)) m
      go (no a) (no e) (no b) (no c) (yes d) = subst P (sym (after_read_lem s brick x msg block old d)) r
      go (no a) (no e) (no b) (no c) (no d) =
          subst P (sym (after_order s brick x msg block old (rw (ne_eqb msg.kind trim_kind a, ne_eqb msg.kind drop_kind e) refl) b c d)) o

by_yes : (b : Bool) (P : Brick → Type 0) (x y : Brick) → (b ≡ true → P x) → P y → P (cond b x y)
by_yes true P x y f g = f refl
by_yes false P x y f g = g

-- what a yes says of the time
pub order_above : (x : Brick) (t : ℕ) → order_yes x t ≡ true → newest x < t
unfolding order_yes above_newest
order_above x t e = ltb-true (newest x) t (and_left _ _ e)

pub order_not_below : (x : Brick) (t : ℕ) → order_yes x t ≡ true → x.promise ≤ t
unfolding order_yes not_below_promise
order_not_below x t e = leb-true x.promise t (and_right (above_newest (newest x) t) _ e)

pub write_ordered : (s : Settings) (x : Brick) (t : ℕ) → write_yes s x t ≡ true → order_yes x t ≡ true
unfolding write_yes
write_ordered s x t e = and_left _ _ e

-- the entry that Modify appends: brick j stores the new block, another data brick a mark, a parity brick its block recoded
module _ (s : Settings) (brick : ℕ) (x : Brick) (msg : Message) (new old : List ℕ) where
  pub modified_of_block : brick ≡ msg.block → modified_entry s brick x msg new old ≡ block_entry msg.time new
  unfolding modified_entry
  modified_of_block e = rw (eq-eqb brick msg.block e) refl

  pub modified_of_data : (brick ≡ msg.block → ⊥) → brick < s.m → modified_entry s brick x msg new old ≡ mark_entry x msg.time
  unfolding modified_entry
  modified_of_data n h = rw (ne_eqb brick msg.block n, lt-ltb brick s.m h) refl

  pub modified_of_parity : (brick ≡ msg.block → ⊥) → s.m ≤ brick
      → modified_entry s brick x msg new old
      ≡ block_entry msg.time (recoded_block s.n s.m brick msg.block (newest_block x) old new)
  unfolding modified_entry
  modified_of_parity n h = rw (ne_eqb brick msg.block n, le-ltb brick s.m h) refl

  pub modified_time : (modified_entry s brick x msg new old).time ≡ msg.time
  unfolding modified_entry block_entry mark_entry
  modified_time = go (eqb brick msg.block) (ltb brick s.m)
    where
      go : (a b : Bool)
          → (cond a (block_entry msg.time new)
          (cond b (mark_entry x msg.time) (block_entry msg.time (recoded_block s.n s.m brick msg.block (newest_block x) old new)))
          ).time
          ≡ msg.time
      go true b = refl
      go false true = refl
      go false false = refl

  -- a mark means the block before it
  pub modified_marked : (modified_entry s brick x msg new old).mark ≡ true → (modified_entry s brick x msg new old).block ≡ newest_block x
  unfolding modified_entry block_entry mark_entry newest_block
  modified_marked = go (eqb brick msg.block) (ltb brick s.m)
    where
      entry : Bool → Bool → LogEntry
      entry a b =
          cond a (block_entry msg.time new)
          (cond b (mark_entry x msg.time) (block_entry msg.time (recoded_block s.n s.m brick msg.block (newest_block x) old new)))

      go : (a b : Bool) → (entry a b).mark ≡ true → (entry a b).block ≡ means_at x (entry_count x - 1)
      go true b e = absurd (true≢false (sym e))
      go false true e = refl
      go false false e = absurd (true≢false (sym e))

module _ (s : Settings) (brick : ℕ) (x : Brick) (msg : Message) (block old : List ℕ) where
  -- The promise never falls.
  pub promise_never_falls : x.promise ≤ (brick_after s brick x msg block old).promise
  unfolding trimmed_to written_if_yes modified_if_yes ordered_if_yes with_promise appended
  promise_never_falls =
      by_kind s brick x msg block old (λ (y : Brick). x.promise ≤ y.promise) (omega arith) (λ d. omega (arith, drop_promise x msg.time))
      (by_yes (write_yes s x msg.time) (λ (y : Brick). x.promise ≤ y.promise) (appended x (block_entry msg.time block)) x (λ e. omega arith) (omega arith))
      (by_yes (modify_yes s x msg.time msg.old) (λ (y : Brick). x.promise ≤ y.promise) (appended x (modified_entry s brick x msg block old)) x
      (λ e. omega arith) (omega arith))
      (omega arith)
      (by_yes (order_yes x msg.time) (λ (y : Brick). x.promise ≤ y.promise) (with_promise x msg.time) x (λ e. order_not_below x msg.time e) (omega arith))

  -- A log never becomes empty.
  pub never_empty : 1 ≤ entry_count x → 1 ≤ entry_count (brick_after s brick x msg block old)
  unfolding written_if_yes modified_if_yes ordered_if_yes
  never_empty h =
      by_kind s brick x msg block old (λ (y : Brick). 1 ≤ entry_count y) (trim_not_empty x msg.time h) (λ d. drop_not_empty x msg.time h)
      (by_yes (write_yes s x msg.time) (λ (y : Brick). 1 ≤ entry_count y) (appended x (block_entry msg.time block)) x
      (λ e. omega (arith, appended_count x (block_entry msg.time block))) h)
      (by_yes (modify_yes s x msg.time msg.old) (λ (y : Brick). 1 ≤ entry_count y) (appended x (modified_entry s brick x msg block old)) x
      (λ e. omega (arith, appended_count x (modified_entry s brick x msg block old))) h)
      h
      (by_yes (order_yes x msg.time) (λ (y : Brick). 1 ≤ entry_count y) (with_promise x msg.time) x (λ e. omega (arith, promised_count x msg.time)) h)

pub appended_newest : (x : Brick) (e : LogEntry) → newest (appended x e) ≡ e.time
unfolding newest
appended_newest x e =
    let m : entry_count (appended x e) - 1 ≡ entry_count x = omega (arith, appended_count x e) in
    ap (λ (k : ℕ). time_at (appended x e) k) m ∙ appended_time_new x e

pub promised_newest : (x : Brick) (t : ℕ) → newest (with_promise x t) ≡ newest x
unfolding newest
promised_newest x t = promised_time x t (entry_count (with_promise x t) - 1) ∙ ap (λ (k : ℕ). time_at x (k - 1)) (promised_count x t)

block_time : (t : ℕ) (block : List ℕ) → (block_entry t block).time ≡ t
unfolding block_entry
block_time t block = refl

block_held : (t : ℕ) (block : List ℕ) → (block_entry t block).mark ≡ false
unfolding block_entry
block_held t block = refl

-- The newest time falls by a Drop alone: E6 gives up that it never does, and every other kind keeps it.
pub newest_falls_by_drop_alone : (s : Settings) (brick : ℕ) (x : Brick) (msg : Message) (block old : List ℕ) → (msg.kind ≡ drop_kind → ⊥)
    → 1 ≤ entry_count x → newest x ≤ newest (brick_after s brick x msg block old)
unfolding written_if_yes modified_if_yes ordered_if_yes
newest_falls_by_drop_alone s brick x msg block old n h =
    by_kind s brick x msg block old (λ (y : Brick). newest x ≤ newest y) (omega (arith, trim_keeps_newest x msg.time h)) (λ d. absurd (n d))
    (by_yes (write_yes s x msg.time) (λ (y : Brick). newest x ≤ newest y) (appended x (block_entry msg.time block)) x
    (λ e. above (block_entry msg.time block) (block_time msg.time block) e) (omega arith))
    (by_yes (modify_yes s x msg.time msg.old) (λ (y : Brick). newest x ≤ newest y) (appended x (modified_entry s brick x msg block old)) x
    (λ e. above (modified_entry s brick x msg block old) (modified_time s brick x msg block old) (modify_written s x msg.time msg.old e).1) (omega arith))
    (omega arith)
    (by_yes (order_yes x msg.time) (λ (y : Brick). newest x ≤ newest y) (with_promise x msg.time) x (λ e. omega (arith, promised_newest x msg.time)) (omega arith))
  where
    above : (e : LogEntry) → e.time ≡ msg.time → write_yes s x msg.time ≡ true → newest x ≤ newest (appended x e)
    above e t y = omega (arith, t, appended_newest x e, order_above x msg.time (write_ordered s x msg.time y))

under_some : (x : Brick) (max n i : ℕ) → under x max n ≡ suc i → (i < n) × (time_at x i < max) × ((j : ℕ) → i < j → j < n → max ≤ time_at x j)
unfolding under
under_some x max zero i e = absurd (omega arith)
under_some x max (suc n) i e = go (ltb (time_at x n) max) refl e (under_some x max n i)
  where
    go : (b : Bool) → ltb (time_at x n) max ≡ b → cond b (suc n) (under x max n) ≡ suc i
        → (under x max n ≡ suc i → (i < n) × (time_at x i < max) × ((j : ℕ) → i < j → j < n → max ≤ time_at x j))
        → (i < suc n) × (time_at x i < max) × ((j : ℕ) → i < j → j < suc n → max ≤ time_at x j)
    go true q w ih =
        let m : n ≡ i = omega arith in
        (omega arith, subst (λ (k : ℕ). time_at x k < max) m (ltb-true (time_at x n) max q), λ j a b. absurd (omega (arith, a, b, m)))
    go false q w ih =
        let r = ih w in
        (omega (arith, r.0), r.1, λ j a b. above j a b (ℕ_discrete j n) r)
      where
        above : (j : ℕ) → i < j → j < suc n → Dec (j ≡ n) → (i < n) × (time_at x i < max) × ((j : ℕ) → i < j → j < n → max ≤ time_at x j) → max ≤ time_at x j
        above j a b (yes z) r = subst (λ (k : ℕ). max ≤ time_at x k) (sym z) (ltb-false (time_at x n) max q)
        above j a b (no z) r = r.2 j a (lt_of_le-ne (omega arith) z)

pub lookup_highest : (s : Settings) (x : Brick) (max i : ℕ) → Sound s x → lookup x max ≡ suc i → Highest x max i
unfolding lookup
lookup_highest s x max i r e =
    let w = under_some x max (entry_count x) i e in
    record { there = w.0; below = w.1; highest = λ j h l. up j h l (dec_lt i j) w }
  where
    up : (j : ℕ) → j < entry_count x → time_at x j < max → Dec (i < j)
        → (i < entry_count x) × (time_at x i < max) × ((j : ℕ) → i < j → j < entry_count x → max ≤ time_at x j) → time_at x j ≤ time_at x i
    up j h l (yes a) w = absurd (omega (arith, l, w.2 j a h))
    up j h l (no a) w =
        rises_to s x r j i (omega arith) w.0

under_nothing : (x : Brick) (max n : ℕ) → under x max n ≡ 0 → (j : ℕ) → j < n → max ≤ time_at x j
unfolding under
under_nothing x max zero e j h = absurd (omega arith)
under_nothing x max (suc n) e j h = go (ltb (time_at x n) max) refl e (under_nothing x max n)
  where
    go : (b : Bool) → ltb (time_at x n) max ≡ b → cond b (suc n) (under x max n) ≡ 0
        → (under x max n ≡ 0 → (j : ℕ) → j < n → max ≤ time_at x j) → max ≤ time_at x j
    go true q w ih = absurd (omega arith)
    go false q w ih = pick (ℕ_discrete j n)
      where
        pick : Dec (j ≡ n) → max ≤ time_at x j
        pick (yes z) = subst (λ (k : ℕ). max ≤ time_at x k) (sym z) (ltb-false (time_at x n) max q)
        pick (no z) = ih w j (lt_of_le-ne (omega arith) z)

-- and none where every entry is at or above max
pub lookup_none : (x : Brick) (max : ℕ) → lookup x max ≡ 0 → (j : ℕ) → j < entry_count x → max ≤ time_at x j
unfolding lookup
lookup_none x max e j h = under_nothing x max (entry_count x) e j h

-- A brick that keeps to the rules keeps to them after any message that is not refused.
pub promised_sound : (s : Settings) (x : Brick) (t : ℕ) → Sound s x → saved_time t ≡ true → Sound s (with_promise x t)
promised_sound s x t r v =
    let c = promised_count x t in
    sound_of s (with_promise x t) (omega (arith, r.count_low)) (omega (arith, r.count-high)) (ap saved_time (promised_promise x t) ∙ v)
    (λ i h. ap saved_time (promised_time x t i) ∙ (r.entries i (omega (arith, h))).saved)
    (λ i h. let u = rises_next s x r i (omega (arith, h)) in omega (arith, promised_time x t i, promised_time x t (suc i)))
    (λ i h. ap length (promised_means x t i) ∙ (r.entries i (omega (arith, h))).sized)
    (λ i h m.
    let w = (r.entries i (omega (arith, h))).marked (sym (promised_mark x t i) ∙ m) in
    (w.0, promised_means x t i ∙ w.1 ∙ sym (promised_means x t (i - 1))))

-- place i of a log with one more: an old one, or the new one
pub by_place : {P : ℕ → Type 0} (n : ℕ) → ((i : ℕ) → i < n → P i) → P n → (i : ℕ) → i < n + 1 → P i
by_place {P} n old new i h = go (ℕ_discrete i n)
  where
    go : Dec (i ≡ n) → P i
    go (yes q) = subst P (sym q) new
    go (no q) = old i (lt_of_le-ne (omega arith) q)

pub appended_sound : (s : Settings) (x : Brick) (e : LogEntry) → Sound s x → entry_count x < s.capacity → newest x < e.time → saved_time e.time ≡ true
    → length e.block ≡ s.size → (e.mark ≡ true → e.block ≡ newest_block x) → Sound s (appended x e)
unfolding newest_block
appended_sound s x e r free above v size mark =
    let c = appended_count x e in
    sound_of s (appended x e) (omega arith) (omega arith) (ap saved_time (appended_promise x e) ∙ r.promise-saved)
    (λ i h. by_place {P = λ (j : ℕ). saved_time (time_at (appended x e) j) ≡ true} (entry_count x)
    (λ j l. ap saved_time (appended_time_old x e j l) ∙ (r.entries j l).saved)
    (ap saved_time (appended_time_new x e) ∙ v) i (omega (arith, h)))
    (λ i h. rise i (omega (arith, h)))
    (λ i h. by_place {P = λ (j : ℕ). length (means_at (appended x e) j) ≡ s.size} (entry_count x)
    (λ j l. ap length (appended_means_old x e j l) ∙ (r.entries j l).sized)
    (ap length (appended_means_new x e) ∙ size) i (omega (arith, h)))
    (λ i h. by_place {P = λ (j : ℕ). mark_at (appended x e) j ≡ true → (0 < j) × (means_at (appended x e) j ≡ means_at (appended x e) (j - 1))} (entry_count x)
    (λ j l m.
    let w = (r.entries j l).marked (sym (appended_mark_old x e j l) ∙ m) in
    (w.0, appended_means_old x e j l ∙ w.1 ∙ sym (appended_means_old x e (j - 1) (omega (arith, l)))))
    (λ m. (
      omega (arith, r.count_low),
      appended_means_new x e ∙ mark (sym (appended_mark_new x e) ∙ m) ∙ sym (appended_means_old x e (entry_count x - 1) (omega (arith, r.count_low))),
    )) i (omega (arith, h)))
  where
    rise : (i : ℕ) → suc i < entry_count x + 1 → time_at (appended x e) i < time_at (appended x e) (suc i)
    rise i h = go (ℕ_discrete (suc i) (entry_count x))
      where
        go : Dec (suc i ≡ entry_count x) → time_at (appended x e) i < time_at (appended x e) (suc i)
        go (yes q) =
            let old = appended_time_old x e i (omega arith) in
            let new : time_at (appended x e) (suc i) ≡ e.time = ap (time_at (appended x e)) q ∙ appended_time_new x e in
            let last = newest_at x i (omega arith) in
            omega arith
        go (no q) =
            let low : suc i < entry_count x = lt_of_le-ne (omega arith) q in
            let old = appended_time_old x e i (omega arith) in
            let next = appended_time_old x e (suc i) low in
            let up = rises_next s x r i low in
            omega arith

pub after_sound : (s : Settings) (brick : ℕ) (x : Brick) (msg : Message) (block old : List ℕ) → Sound s x → valid_time msg.time ≡ true → length block ≡ s.size
    → Sound s (brick_after s brick x msg block old)
unfolding written_if_yes modified_if_yes ordered_if_yes
after_sound s brick x msg block old r v size =
    by_kind s brick x msg block old (λ (y : Brick). Sound s y) (trimmed_sound s x msg.time r) (λ d. dropped_sound s x msg.time r)
    (by_yes (write_yes s x msg.time) (λ (y : Brick). Sound s y) (appended x (block_entry msg.time block)) x
    (λ e. stored (block_entry msg.time block) (block_time msg.time block) e (unfold block_entry in size) (λ m. absurd (true≢false (sym m ∙ block_held msg.time block)))) r)
    (by_yes (modify_yes s x msg.time msg.old) (λ (y : Brick). Sound s y) (appended x (modified_entry s brick x msg block old)) x
    (λ e. stored (modified_entry s brick x msg block old) (modified_time s brick x msg block old) (modify_written s x msg.time msg.old e).1
    (modified_sized s brick x msg block old r size) (modified_marked s brick x msg block old)) r)
    r
    (by_yes (order_yes x msg.time) (λ (y : Brick). Sound s y) (with_promise x msg.time) x (λ e. promised_sound s x msg.time r (saved_valid msg.time v)) r)
  where
    stored : (e : LogEntry) → e.time ≡ msg.time → write_yes s x msg.time ≡ true → length e.block ≡ s.size → (e.mark ≡ true → e.block ≡ newest_block x)
        → Sound s (appended x e)
    stored e t y long mark =
        appended_sound s x e r (write_free s x msg.time y) (omega (arith, t, order_above x msg.time (write_ordered s x msg.time y)))
        (ap saved_time t ∙ saved_valid msg.time v) long mark

-- a message that is not refused has a valid time
pub message_time : (n m : ℕ) (msg : Message) → message_refusal n m msg ≡ passed → valid_time msg.time ≡ true
unfolding message_refusal
message_time n m msg e = go (valid_time msg.time) refl
  where
    go : (b : Bool) → valid_time msg.time ≡ b → valid_time msg.time ≡ true
    go true q = q
    go false q = absurd (omega (arith, e, refused q))
      where
        refused : valid_time msg.time ≡ false → refuse_unless (valid_time msg.time && round_right msg.round && kind_right n m msg) bad_message ≡ bad_message
        refused w = rw w refl

-- The image of the brick after a message opens.
pub after_opens : (s : Settings) (brick : ℕ) (bytes : List ℕ) (x : Brick) (msg : Message) (block old : List ℕ) → parse s brick bytes ≡ Opens x
    → message_refusal s.n s.m msg ≡ passed → length block ≡ s.size
    → parse s brick (image_of s brick (brick_after s brick x msg block old)) ≡ Opens (brick_after s brick x msg block old)
after_opens s brick bytes x msg block old e m size =
    let o = opened s brick bytes x e in
    parse_image s brick (brick_after s brick x msg block old) o.in-range o.brick-low
    (after_sound s brick x msg block old o.keeps (message_time s.n s.m msg m) size)

-- The statement of `specs/AgainTheorem`.
pub opens_again : OpensAgain
unfolding outcome accepted refused_with
opens_again s brick bytes x msg block old out e = go (eqb number passed) refl
  where
    number : ℕ
    number = receive_refusal s brick bytes msg (beside block old out)

    left : Parsed → List ℕ
    left p = (accepted s brick msg block old bytes out p).image

    go : (b : Bool) → eqb number passed ≡ b
        → parse s brick (cond b (accepted s brick msg block old bytes out (parse s brick bytes)) (refused_with number bytes out)).image
        ≡ Opens (cond b (brick_after s brick x msg block old) x)
    go true q =
        let p = passes s brick bytes msg (beside block old out) (eqb-true number passed q) in
        ap (λ (v : Parsed). parse s brick (left v)) e ∙ after_opens s brick bytes x msg block old e p.message p.front.block-is
    go false q = e
