-- What is known of an image that opened: its brick, and the working log by place.
use mathlib.Core.Path.{◌≡◌, refl, sym, ap, ◌∙◌}
use mathlib.Core.List.{List, [], ◌∷◌, ◌++◌}
use Prim.Native.Nat.{ℕ, zero, suc, ◌-◌, ◌≤◌, ◌<◌}
use native.Mathlib.Omega.{arith}
use native.Mathlib.Decide.{ℕ_discrete}
use lib.Arith.{lt_of_le-ne}
use lib.ListN.{length, get_or, get_or-append, length-append}
use lib.Seq.{get_or_at}
use borrow.Author.Tests.{lt-ltb}
use Rattle.settings.specs.declared.Settings.{Settings}
use Rattle.image.specs.Brick.{Brick, entry_count, time_at, mark_at, newest}
use Rattle.image.specs.Parse.{Parsed, Opens, Refuses, parse}
use Rattle.image.proofs.Laws.ParseLaws.{opened}
use Rattle.std.specs.Prelude.{Err}
use Rattle.settings.specs.Refusal.{number_of_refusal}
use Rattle.settings.specs.declared.Refusal.{Refusal}
use Rattle.image.specs.Opening.{opening_in, shown_in}
use Rattle.image.specs.Opening.{row_of, holding_for, entry_for, entry_of, working_log, opening, answer_number, panel_of}
use Rattle.image.specs.declared.Entry.{Entry}
use Rattle.image.specs.declared.Head.{Head}
use Rattle.image.specs.ImageAnswers.{Opening}
use Rattle.image.specs.ImageAnswers.{Opened, Refused}
use Rattle.image.specs.PanelAnswer.{Shown}
use Rattle.image.specs.PanelAnswer.{Values}
use Rattle.image.specs.Workers.{Hub}
use Rattle.settings.specs.Ranges.{max_capacity}

pub row_length : (f : ℕ → Entry) (k : ℕ) → length (row_of f k) ≡ k
unfolding row_of
row_length f zero = refl
row_length f (suc k) = let a = length-append (row_of f k) (f k ∷ []) in let ih = row_length f k in omega arith

row_at : (f : ℕ → Entry) (n i : ℕ) (d : Entry) → i < n → get_or (row_of f n) i d ≡ f i
unfolding row_of
row_at f zero i d h = absurd (omega arith)
row_at f (suc n) i d h = go (ℕ_discrete i n) (row_at f n i d)
  where
    go : Dec (i ≡ n) → (i < n → get_or (row_of f n) i d ≡ f i) → get_or (row_of f n ++ f n ∷ []) i d ≡ f i
    go (yes q) ih = ap (λ (k : ℕ). get_or (row_of f n ++ f n ∷ []) k d) q ∙ get_or_at (row_of f n) (f n) [] d n (row_length f n) ∙ ap f (sym q)
    go (no q) ih =
        let low : i < n = lt_of_le-ne (omega arith) q in
        get_or-append (row_of f n) (f n ∷ []) d i (omega (arith, row_length f n)) ∙ ih low

-- entry i of the working log
pub log_at : (x : Brick) (i : ℕ) (d : Entry) → i < entry_count x → entry_count x ≤ max_capacity → get_or (working_log x) i d ≡ record { time = time_at x i; holding = holding_for (mark_at x i) i }
unfolding working_log entry_of entry_for
log_at x i d h c = row_at (entry_of x) max_capacity i d (omega arith) ∙ rw (lt-ltb i (entry_count x) h) refl

pub hub : (s : Settings) (brick : ℕ) (l : List ℕ) (o : Opening) (h : Head) → o ≡ opening (parse s brick l) → o.answer ≡ Opened h → Hub s brick l o h
unfolding opening
hub s brick l o h e f = go (parse s brick l) refl e
  where
    go : (p : Parsed) → parse s brick l ≡ p → o ≡ opening p → Hub s brick l o h
    go (Opens y) ep q =
        let v = opened s brick l y ep in
        let c : h.count ≡ entry_count y = cc in
        record {
          x = y;
          is = ep;
          saved = v;
          counts = c;
          promises = cc;
          logs = ap (λ (z : Opening). z.log) q;
          low = omega (arith, v.keeps.count_low);
          high = omega (arith, v.keeps.count-high);
          most = omega (arith, v.keeps.count-high, v.range.capacity-high);
        }
    go (Refuses k) ep q = let z : ◌≡◌ {A = ℕ} 0 1 = cc in absurd (omega arith)

pub turned : (p : Parsed) (o : Opening) (k n : ℕ) → o ≡ opening p → o.answer ≡ Refused k → n ≡ answer_number o.answer → p ≡ Refuses n
unfolding opening answer_number
turned (Opens y) o k n e f g = let z : ◌≡◌ {A = ℕ} 0 1 = cc in absurd (omega arith)
turned (Refuses j) o k n e f g =
    let r : o.answer ≡ Refused j = ap (λ (z : Opening). z.answer) e in
    ap Refuses (sym (g ∙ ap answer_number r))

-- the same of the code's own answer
pub opening_refused : (p : Parsed) (r : Refusal) → opening_in (Err r) ≡ opening p → p ≡ Refuses (number_of_refusal r)
unfolding answer_number
opening_refused p r e = turned p (opening_in (Err r)) (number_of_refusal r) (number_of_refusal r) e refl refl

-- the panel of a refused image
pub panel_refused : (p : Parsed) (r : Refusal) → opening_in (Err r) ≡ opening p → shown_in (Err r) ≡ panel_of p
unfolding panel_of
panel_refused p r e = sym (ap panel_of (opening_refused p r e))

pub show_values : (s : Settings) (brick : ℕ) (l : List ℕ) (o : Opening) (h : Head) (d : Entry) → Hub s brick l o h
    → Values (record { promise = h.promise; newest = (get_or o.log (h.count - 1) d).time }) ≡ panel_of (parse s brick l)
unfolding panel_of newest
show_values s brick l o h d u =
    let w : (get_or o.log (h.count - 1) d).time ≡ time_at u.x (entry_count u.x - 1) =
    ap (λ (k : ℕ). (get_or o.log (k - 1) d).time) u.counts
    ∙ ap (λ (g : List Entry). (get_or g (entry_count u.x - 1) d).time) u.logs
    ∙ ap (λ (v : Entry). v.time) (log_at u.x (entry_count u.x - 1) d (omega (arith, u.low, u.counts)) (omega (arith, u.most, u.counts))) in
    let m = u.promises in
    let q : ◌≡◌ {A = Shown} (Values (record { promise = h.promise; newest = (get_or o.log (h.count - 1) d).time }))
    (Values (record { promise = u.x.promise; newest = time_at u.x (entry_count u.x - 1) }))
    = λ i. Values (record { promise = m i; newest = w i }) in
    q ∙ sym (ap panel_of u.is)
