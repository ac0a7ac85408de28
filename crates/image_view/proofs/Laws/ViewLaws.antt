-- The entry at a place, from bytes; the view of an image gives the entries of its brick.
use mathlib.Core.Path.{◌≡◌, refl, sym, ap, ap₂, ◌∙◌}
use mathlib.Core.Bool.{Bool, true, false, cond}
use mathlib.Core.List.{List}
use Prim.Native.Nat.{ℕ, ◌+◌, ◌/◌, ◌≤◌, ◌<◌}
use native.Mathlib.Omega.{arith}
use denote.Ref.{Bor}
use lib.Dec.{leb}
use lib.ListN.{length}
use borrow.Author.Tests.{le-leb, lt-leb, leb-false}
use Rattle.settings.specs.declared.Settings.{Settings}
use Rattle.image.specs.Brick.{Brick, entry_count, time_at, mark_at}
use Rattle.image.specs.Image.{image_size}
use Rattle.image.specs.Parse.{Parsed, Opens, Refuses, parse, image_block_at, count_in, time_in, mark_in}
use Rattle.image.proofs.Laws.ParseLaws.{count_in_lem, opened}
use Rattle.image.proofs.Laws.FieldTestLaws.{time_in_lem, mark_in_lem}
use Rattle.std.specs.Prelude.{Err}
use Rattle.settings.specs.Refusal.{number_of_refusal}
use Rattle.settings.specs.declared.Refusal.{Refusal}
use Rattle.image.specs.Opening.{opening, opening_in, holding_for}
use Rattle.image.specs.Workers.{Hub, ImageOpened}
use Rattle.image.proofs.Laws.HubLaws.{opening_refused}
use Rattle.image.specs.ImageAnswers.{Opening}
use Rattle.image.specs.declared.Head.{Head}
use Rattle.image.specs.declared.Holding.{Holding}
use Rattle.image.specs.declared.Holding.TheVariants.{Held, Same}
use Rattle.image_view.specs.View.{count_of, found_of, found_at, found_by, found_in, view_of}
use Rattle.image_view.specs.ViewCount.{Counted, Entries}
use Rattle.image_view.specs.View.{At, Refused}
use Rattle.image_block.specs.Block.{block_bytes}
use Rattle.settings.specs.Refusal.{bad_length, bad_number}

module _ (l : List ℕ) (n place : ℕ) where
  pub at_short : length l / block_bytes ≤ n → Refused bad_length ≡ found_at l n place
  unfolding found_at
  at_short h = rw (le-leb (length l / block_bytes) n h) refl

  pub at_past : n < length l / block_bytes → n ≤ place → Refused bad_number ≡ found_at l n place
  unfolding found_at
  at_past h k = rw (lt-leb (length l / block_bytes) n h, le-leb n place k) refl

  -- and the entry, by the block that stands there
  module _ (t : List ℕ) (time : ℕ) (mark : Bool) (h : n < length l / block_bytes) (k : place < n) (is_Block : t ≡ image_block_at l (place + 1))
      (is-time : time ≡ time_in t) (is-mark : mark ≡ mark_in t) where
    pub at_there : (holding : Holding) → holding ≡ holding_for mark place → At (record { time = time; holding = holding }) ≡ found_at l n place
    unfolding found_at
    at_there holding e =
        rw (lt-leb (length l / block_bytes) n h, lt-leb n place k)
        (ap₂ (λ (x : ℕ) (g : Holding). At (record { time = x; holding = g })) (is-time ∙ ap time_in is_Block)
        (e ∙ ap (λ (m : Bool). holding_for m place) (is-mark ∙ ap mark_in is_Block)))

pub same_of : (mark : Bool) (place : ℕ) → mark ≡ true → Same ≡ holding_for mark place
unfolding holding_for
same_of mark place e = rw e refl

pub held_of : (mark : Bool) (place : ℕ) → mark ≡ false → Held (place + 1) ≡ holding_for mark place
unfolding holding_for
held_of mark place e = rw e refl

-- what opening gave
pub counted_refused : (p : Parsed) (r : Refusal) → opening_in (Err r) ≡ opening p → Counted.Refused (number_of_refusal r) ≡ count_of p
unfolding count_of
counted_refused p r e = sym (ap count_of (opening_refused p r e))

pub counted_there : (s : Settings) (brick : ℕ) (l : List ℕ) (o : Opening) (h : Head) → Hub s brick l o h → Entries h.count ≡ count_of (parse s brick l)
unfolding count_of
counted_there s brick l o h u = ap Entries u.counts ∙ sym (ap count_of u.is)

-- The entries of a view are those of the brick that its image holds.
pub view_entry : (s : Settings) (brick : ℕ) (image : Bor (List ℕ)) (place : ℕ) → found_in (view_of s brick image) place ≡ found_of (parse s brick image.now) place
unfolding found_by count_of found_at found_of image_size
view_entry s brick image place = go (parse s brick l) refl
  where
    l : List ℕ
    l = image.now

    within : (x : Brick) → ImageOpened s brick l x → leb (length l / block_bytes) (entry_count x) ≡ false
    within x u = lt-leb (length l / block_bytes) (entry_count x) (omega (arith, u.long, u.keeps.count-high))

    there : (x : Brick) → ImageOpened s brick l x → (b : Bool) → leb (entry_count x) place ≡ b
        → cond (leb (length l / block_bytes) (entry_count x)) (Refused bad_length)
        (cond (leb (entry_count x) place) (Refused bad_number) (At (record { time = time_in (image_block_at l (place + 1)); holding = holding_for (mark_in (image_block_at l (place + 1))) place })))
        ≡ cond (leb (entry_count x) place) (Refused bad_number) (At (record { time = time_at x place; holding = holding_for (mark_at x place) place }))
    there x u true q = rw (within x u, q) refl
    there x u false q =
        let low : place < count_in (image_block_at l 0) = omega (arith, leb-false (entry_count x) place q, ap entry_count u.is_read, count_in_lem s l) in
        let t : time_at x place ≡ time_in (image_block_at l (place + 1)) = ap (λ (y : Brick). time_at y place) u.is_read ∙ time_in_lem s l place low in
        let m : mark_at x place ≡ mark_in (image_block_at l (place + 1)) = ap (λ (y : Brick). mark_at y place) u.is_read ∙ mark_in_lem s l place low in
        rw (within x u, q) (ap₂ (λ (k : ℕ) (b : Bool). At (record { time = k; holding = holding_for b place })) (sym t) (sym m))

    go : (p : Parsed) → parse s brick l ≡ p → found_by l (count_of p) place ≡ found_of p place
    go (Opens x) e = there x (opened s brick l x e) (leb (entry_count x) place) refl
    go (Refuses number) e = refl
