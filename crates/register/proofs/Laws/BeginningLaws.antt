-- Laws of `specs/Beginnings`.
use mathlib.Core.Path.{◌≡◌, refl, sym, ap, ap₂, subst, ◌∙◌}
use mathlib.Core.Bool.{Bool, true, false, cond}
use mathlib.Core.List.Memᴰ
use mathlib.Core.List.{List, [], ◌∷◌, ◌++◌}
use mathlib.Core.Logic.{◌⊎◌, inl, inr}
use Prim.Native.Nat.{ℕ}
use native.Mathlib.Omega.{arith}
use lib.Dec.{eqb, leb}
use borrow.Author.Tests.{ne_eqb, leb-false}
use Rattle.settings.specs.Refusal.{passed, bad_line}
use Rattle.settings.specs.Times.{time_of, next_count, draw_refusal, advanced, draw_of}
use Rattle.settings.proofs.Laws.TimeLaws.{gave}
use Rattle.settings.specs.declared.Clock.{Clock}
use Rattle.settings.specs.Times.{Drawn, Refused}
use Rattle.settings.specs.declared.Settings.{Settings}
use Rattle.byte_lists.specs.Little.{are_bytes}
use Rattle.image.proofs.Laws.ParseLaws.{range_of}
use Rattle.message.specs.Kinds.{read_kind, order_kind, order_block_kind, block_targets}
use Rattle.erasure.specs.Code.{with_block}
use Rattle.erasure.proofs.Laws.BlockOfLaws.{block_within, block_with}
use Rattle.coord_record.specs.Records.{reading_kind, writing_kind, reading_block_kind, writing_block_kind, no_bricks}
use Rattle.coord_tally.specs.Counting.{target_flags}
use Rattle.coord_apply.specs.Acts.{first_op, starting}
use Rattle.coord_apply.specs.Answers.{Went, Step, refused, went, after_checks, answer_of}
use Rattle.coordinator.specs.Routines.{drawn_then, write_step, read_step, write_block_step, read_block_step}
use Rattle.coord_laws.proofs.Laws.SoundnessLaws.{passes, drawn_went}
use Rattle.order.specs.Claim.{Plain, read, write, read_block, write_block, Ending, Seen, ◌∈◌, Before, here, later}
use Rattle.order.specs.Facts.{Fact, History, End, ended, shows, seen}
use Rattle.order.specs.Places.{Suf, whole, above}
use Rattle.order.specs.Quorums.{Quorums}
use Rattle.order.specs.Valid.{Valid}
use Rattle.order.proofs.Laws.FactLaws.{ok_at}
use Rattle.order.proofs.Laws.PlaceLaws.{suf_cons, suf_length}
use Rattle.order.proofs.Laws.SeenLaws.{seen_began, seen_ended, seen_before}
use Rattle.register.specs.Runs.{plain, World, unmoved, on_stripe, begun_kind, seen_of, coordinated, step}
use Rattle.register.specs.RefusedEvents.{routine_number, event_number}
use Rattle.register.specs.Beginnings.{time_drawn, BeginsAsHandedIn, DrawsItsOwnTimes, EndsAfterItsBeginning, EndsOnce}
use Rattle.register.proofs.Laws.BegunLaws.{begun_read, begun_write, begun_read_block, begun_write_block}
use Rattle.register.proofs.Laws.Invariant.{view}
use Rattle.register.proofs.Laws.NeverRefusedLaws.{run_known}
use Rattle.register.proofs.Laws.StartEvent.{block_content_fits}
use Rattle.register.proofs.Laws.StripeViewLaws.{shown_none}
use Rattle.register.proofs.Laws.TheoremProof.{run_holds}

-- a start that is refused is so by a number
drawn_refused : (clock : Clock) (reading : ℕ) (f : ℕ → Clock → Went) (number : ℕ) → drawn_then (draw_of clock reading) f ≡ refused number → number ≡ passed → ⊥
unfolding drawn_then draw_of
drawn_refused clock reading f number = go (leb (draw_refusal clock reading) passed) refl
  where
    go : (a : Bool) → leb (draw_refusal clock reading) passed ≡ a
        → drawn_then
        (cond a (Drawn (time_of (next_count clock.last reading) clock.coordinator) (advanced clock reading)) (Refused (draw_refusal clock reading))) f
        ≡ refused number
        → number ≡ passed → ⊥
    go true l e z = let y : ◌≡◌ {A = ℕ} 0 1 = cc in omega arith
    go false l e z = let y : draw_refusal clock reading ≡ number = cc in omega (arith, leb-false (draw_refusal clock reading) passed l, y, z)

start_refused : (k : ℕ) (clock : Clock) (reading : ℕ) (f : ℕ → Clock → Went) (number : ℕ)
    → after_checks k (drawn_then (draw_of clock reading) f) ≡ refused number → number ≡ passed → ⊥
unfolding after_checks
start_refused k clock reading f number = go (leb k 0) refl
  where
    go : (a : Bool) → leb k 0 ≡ a → cond a (drawn_then (draw_of clock reading) f) (refused k) ≡ refused number → number ≡ passed → ⊥
    go true l e z = drawn_refused clock reading f number e z
    go false l e z = let y : k ≡ number = cc in omega (arith, leb-false k 0 l, y, z)

module _ (s : Settings) (w : World) (c stripe reading : ℕ) where
  -- this alone is seen of a routine's step, unless it is refused
  Shows : Seen (plain s) → Step → Type 0
  Shows what p = (k : ℕ) → (coordinated s w c p).seen k ≡ on_stripe stripe (cond (eqb (routine_number w c p) passed) (what ∷ []) []) k

  shows_step : (what : Seen (plain s)) (p : Step) → ((number : ℕ) → p ≡ refused number → number ≡ passed → ⊥)
      → ((g : Went) → p ≡ went g → (g.seen.stripe ≡ stripe) × (seen_of s g.seen g.next ≡ what ∷ []))
      → Shows what p
  unfolding Shows coordinated answer_of unmoved
  shows_step what (refused number) n f k = rw (ne_eqb number passed (n number refl)) (sym (shown_none stripe k))
  shows_step what (went g) n f k =
      let e = f g refl in ap₂ (λ (j : ℕ) (l : List (Seen (plain s))). on_stripe j l k) e.0 e.1

  module _ (kind phase first : ℕ) (bytes targets : List ℕ) where
    -- the operation that starts with a time
    abbrev begins : ℕ → Clock → Went
    begins time clock = starting (w.coordinators c) clock (first_op kind phase stripe time first) bytes targets

    begins_seen : (t : ℕ) (next : Clock) (x : (plain s).Kind) → begun_kind s (begins t next).next ≡ x
        → ((begins t next).seen.stripe ≡ stripe) × (seen_of s (begins t next).seen (begins t next).next ≡ Seen.began t x ∷ [])
    unfolding starting first_op seen_of
    begins_seen t next x e = (refl, ap (λ (y : (plain s).Kind). Seen.began t y ∷ []) e)

    shows_start : (x : (plain s).Kind) (number : ℕ)
        → ((g : Went) → after_checks number (drawn_then (draw_of (w.coordinators c).state.clock reading) begins) ≡ went g
        → (t : ℕ) (next : Clock) → begun_kind s (begins t next).next ≡ x)
        → Shows (Seen.began (time_drawn w c reading) x) (after_checks number (drawn_then (draw_of (w.coordinators c).state.clock reading) begins))
    shows_start x number h =
        shows_step (Seen.began (time_drawn w c reading) x) _ (start_refused number (w.coordinators c).state.clock reading begins)
        (λ g e.
        let clock = (w.coordinators c).state.clock in
        let d = drawn_went (draw_of clock reading) begins g (passes number (drawn_then (draw_of clock reading) begins) g e).1 in
        let a = gave clock reading d.0 d.1 d.2 in
        let drawn : d.0 ≡ time_drawn w c reading = a.time ∙ ap (λ (last : ℕ). time_of last clock.coordinator) a.count in
        subst (λ (v : Went). (v.seen.stripe ≡ stripe) × (seen_of s v.seen v.next ≡ Seen.began (time_drawn w c reading) x ∷ [])) d.3
        (subst (λ (t : ℕ). ((begins d.0 d.1).seen.stripe ≡ stripe) × (seen_of s (begins d.0 d.1).seen (begins d.0 d.1).next ≡ Seen.began t x ∷ [])) drawn
        (begins_seen d.0 d.1 x (h g e d.0 d.1))))

  write_shows : (content : List ℕ)
      → Shows (Seen.began (time_drawn w c reading) (write content)) (write_step s.n s.m s.size s.stripes (w.coordinators c) stripe reading content)
  unfolding write_step
  write_shows content =
      shows_start writing_kind order_kind 0 content no_bricks (write content) _ (λ g e t next. unfold starting first_op in begun_write s _ refl)

  read_shows : (first : ℕ)
      → Shows (Seen.began (time_drawn w c reading) read) (read_step s.n s.m s.size s.stripes (w.coordinators c) stripe reading first)
  unfolding read_step
  read_shows first =
      shows_start reading_kind read_kind first (w.coordinators c).stripe (target_flags s.n s.m first) read _
      (λ g e t next. unfold starting first_op in begun_read s _ refl)

  write_block_shows : (block : ℕ) (content : List ℕ)
      → Shows (Seen.began (time_drawn w c reading) (write_block block content))
      (write_block_step s.n s.m s.size s.stripes (w.coordinators c) stripe reading block content)
  unfolding write_block_step starting first_op
  write_block_shows block content =
      shows_start writing_block_kind order_block_kind block (with_block s.size (w.coordinators c).stripe block content) no_bricks (write_block block content) _
      (λ g e t next.
      let h = w.coordinators c in
      let q = block_content_fits s h stripe reading block content g e in
      begun_write_block s (begins writing_block_kind order_block_kind block (with_block s.size h.stripe block content) no_bricks t next).next refl
      ∙ ap (write_block block) (block_with s.size h.stripe block content q.0 (block_within s.m s.size block h.stripe q.1 q.2)))

  read_block_shows : (block : ℕ)
      → Shows (Seen.began (time_drawn w c reading) (read_block block)) (read_block_step s.n s.m s.size s.stripes (w.coordinators c) stripe reading block)
  unfolding read_block_step starting first_op
  read_block_shows block =
      shows_start reading_block_kind read_kind block (w.coordinators c).stripe (target_flags s.n block_targets block) (read_block block) _
      (λ g e t next. begun_read_block s _ refl)

  -- a start with its content: what is no list of bytes is refused
  content_shows : (what : Seen (plain s)) (p : Step) → Shows what p → (a : Bool) (k : ℕ)
      → (cond a (coordinated s w c p) (unmoved s w)).seen k ≡ on_stripe stripe (cond (eqb (cond a (routine_number w c p) bad_line) passed) (what ∷ []) []) k
  unfolding Shows unmoved
  content_shows what p h true k = h k
  content_shows what p h false k = sym (shown_none stripe k)

pub begins_as_handed_in : BeginsAsHandedIn
unfolding step event_number Shows
begins_as_handed_in s w c stripe reading = (
  λ content. content_shows s w c stripe reading _ _ (write_shows s w c stripe reading content) (are_bytes content),
  λ first. read_shows s w c stripe reading first,
  λ block content. content_shows s w c stripe reading _ _ (write_block_shows s w c stripe reading block content) (are_bytes content),
  λ block. read_block_shows s w c stripe reading block,
)

pub draws_its_own_times : DrawsItsOwnTimes
unfolding time_of
draws_its_own_times s e events c reading l = let n = (run_known s e events c l).number in omega (arith, n, l)

-- one after another in a list, and in a longer one
module _ {A : Type 0} {a b : A} where
  before_across : (l m : List A) → a ∈ l → b ∈ m → Before a b (l ++ m)
  before_across [] m i j = absurd (Memᴰ.not-nil i)
  before_across (x ∷ l) m i j = go (Memᴰ.cases_cons i) (before_across l m)
    where
      go : (a ≡ x) ⊎ (a ∈ l) → (a ∈ l → b ∈ m → Before a b (l ++ m)) → Before a b (x ∷ (l ++ m))
      go (inl e) ih = here e (Memᴰ.append_right l j)
      go (inr n) ih = later (ih n j)

  before_left : {l : List A} (m : List A) → Before a b l → Before a b (l ++ m)
  before_left m (here e i) = here e (Memᴰ.append_left m i)
  before_left m (later q) = later (before_left m q)

module _ {P : Plain} where
  -- what a fact shows comes after what is seen before it
  seen_across : {f : Fact P} {b h : History P} {x y : Seen P} → Suf (f ∷ b) h → x ∈ seen b → y ∈ shows f → Before x y (seen h)
  unfolding seen
  seen_across {f} {b} whole i j = before_across (seen b) (shows f) i j
  seen_across (above {f = g} z) i j = before_left (shows g) (seen_across z i j)

  -- a fact that shows an end is that end
  shows_end : (f : Fact P) {t : ℕ} {r : Ending P} → Seen.ended t r ∈ shows f → (e : End P) × (f ≡ ended t e)
  unfolding seen
  shows_end f {t} {r} i = let w = seen_ended (f ∷ []) i in (w.0, go w.0 (suf_cons w.1.1))
    where
      go : (e : End P) → {b : History P} → (◌≡◌ {A = History P} (ended t e ∷ b) (f ∷ [])) ⊎ Suf (ended t e ∷ b) [] → f ≡ ended t e
      go e (inl q) = cc
      go e (inr z) = let l = suf_length z in absurd (omega (arith, l))

  module _ {S : Quorums} (h : History P) (v : Valid S h) where
    end_after : (t : ℕ) (r : Ending P) → Seen.ended t r ∈ seen h → (k : P.Kind) × Before (Seen.began t k) (Seen.ended t r) (seen h)
    unfolding shows
    end_after t r i =
        let w = seen_ended h i in
        let b = (ok_at w.1.1 v).known in
        (b.0, seen_across w.1.1 (seen_began b.1) (Memᴰ.head (ap (Seen.ended t) (sym w.2))))

    end_once : (t : ℕ) (r r' : Ending P) → Before (Seen.ended t r) (Seen.ended t r') (seen h) → ⊥
    end_once t r r' q =
        let w = seen_before h q in
        let e = shows_end w.0 w.3 in
        let o = ok_at (subst (λ (f : Fact P). Suf (f ∷ w.1) h) e.1 w.2) v in
        let d = seen_ended w.1 w.4 in
        o.running (d.0, d.1)

pub ends_after_its_beginning : EndsAfterItsBeginning
unfolding view
ends_after_its_beginning s e events stripe low t r i =
    let w = run_holds s (range_of s e) stripe low events in
    let m = end_after w.0 w.1.valid t r (subst (λ (l : List (Seen (plain s))). Seen.ended t r ∈ l) (sym w.1.seen-is) i) in
    (m.0, subst (Before (Seen.began t m.0) (Seen.ended t r)) w.1.seen-is m.1)

pub ends_once : EndsOnce
unfolding view
ends_once s e events stripe low t r r' q =
    let w = run_holds s (range_of s e) stripe low events in
    end_once w.0 w.1.valid t r r' (subst (Before (Seen.ended t r) (Seen.ended t r')) (sym w.1.seen-is) q)
