-- What a script prints is its run, and the numbers of its refused parts.
use mathlib.Core.Path.{◌≡◌, refl, sym, ap, subst, ◌∙◌}
use mathlib.Core.Logic.{◌⊎◌, inl, inr}
use mathlib.Core.Bool.{Bool, true, false, cond}
use mathlib.Core.List.Memᴰ
use mathlib.Core.List.{List, [], ◌∷◌, ◌++◌, append-nil, append_assoc}
use Prim.Native.Nat.{ℕ, ◌≤◌}
use native.Mathlib.Omega.{arith}
use lib.Dec.{eqb}
use lib.ListN.{length}
use borrow.Author.Tests.{eqb-true, eq-eqb}
use Rattle.settings.specs.Ranges.{SettingsRange}
use Rattle.settings.proofs.Laws.RangeLaws.{settings_passed}
use Rattle.settings.specs.Refusal.{bad_setting, bad_line}
use Rattle.settings.specs.declared.Settings.{Settings}
use Rattle.order.specs.Claim.{Ending, Seen, began, ended, Before, here, later, ◌∈◌}
use Rattle.order.specs.Facts.{Fact, seen}
use Rattle.order.specs.Places.{In}
use Rattle.order.proofs.Laws.SeenLaws.{seen_began}
use Rattle.order.proofs.Laws.OneOrderTheorem.{one_order}
use Rattle.register.proofs.Laws.CorollaryLaws.{one_thing_seen}
use Rattle.register.proofs.Laws.Invariant.{Hist, Running, view, Inv}
use Rattle.register.proofs.Laws.StripeViewLaws.{viewed_here}
use Rattle.register.proofs.Laws.BegunLaws.{begun_read, begun_write}
use Rattle.register.specs.RunLetters.{letter_at}
use Rattle.register.specs.Runs.{plain, World, Event, Moved, unmoved, fresh_set, begun_kind, step, next_moved, run_from, run}
use Rattle.register.proofs.Laws.TheoremProof.{step_goes, run_holds}
use Rattle.bench_parse.specs.Lines.{Line, set_line, write_line, read_line, carry_line, crash_line, down_line, up_line, no_line, reads}
use Rattle.bench_state.specs.State.{bench_range}
use Rattle.bench_rules.specs.Play.{Played, refuses, passes, happens, and_then, plays, Stage, waiting, playing, waits, begins, one_stripe, first, Turn, turn}
use Rattle.bench_order.specs.Told.{told_end}
use Rattle.bench_order.proofs.Laws.ToldLaws.{told}
use Rattle.bench_order.proofs.Laws.Parts.{Ran, Does, refusing, passing, happening, Parts, none, one, both}
use Rattle.bench_order.proofs.Laws.ScriptPartLaws.{every_line_by_parts}
use Rattle.bench_order.proofs.Laws.WholeStripeLaws.{WholeStripes, fresh_whole, parts_whole}
use Rattle.bench_lines.specs.Cutting.{lines}
use Rattle.bench_order.specs.Script.{stays, follows, plays_lines, script}
use Rattle.bench_order.specs.ScriptTheorem.{StandsFor}
use Rattle.bench_order.proofs.Laws.ScriptRunLaws.{WholeAt, lines_stand, one_stripe_lem, bench_in_range}
use Rattle.bench_order.specs.Report.{kind_of, kind_in, reported, Part, parts_of, parts_in, plays_part, Reports, nothing, refusal, event, silence}
use Rattle.bench_order.specs.ReportTheorem.{Prints, no_more_lines, no_set, set, EveryScriptPrintsItsRun}
use Rattle.settings.specs.Times.{coordinator_of}
use Rattle.coord_record.specs.Records.{reading_kind, writing_kind, idle_kind}
use Rattle.coord_apply.specs.Answers.{Buffered}
use Rattle.bench_limits.specs.Limits.{bench_stripes, bench_stripe}

-- the kind that an operation began with, if it began one time only
kind_here : (s : Settings) (x : Seen (plain s)) (l : List (Seen (plain s))) (t : ℕ) (k : (plain s).Kind) → began t k ≡ x → kind_in s (x ∷ l) t ≡ kind_of k
unfolding kind_in
kind_here s x l t k e = sym (ap (λ (y : Seen (plain s)). kind_in s (y ∷ l) t) e) ∙ rw (eq-eqb t t refl) refl

kind_found : (s : Settings) (l : List (Seen (plain s))) (t : ℕ) (k : (plain s).Kind)
    → ((k' : (plain s).Kind) → Before {A = Seen (plain s)} (began t k') (began t k) l → ⊥) → ◌∈◌ {A = Seen (plain s)} (began t k) l → kind_in s l t ≡ kind_of k
kind_found s [] t k n m = absurd (Memᴰ.not-nil m)
kind_found s (began u a ∷ l) t k n m = go (Memᴰ.cases_cons m) (kind_found s l t k (λ k' b. n k' (later b)))
  where
    skip : (b : Bool) → eqb u t ≡ b → ◌∈◌ {A = Seen (plain s)} (began t k) l → (◌∈◌ {A = Seen (plain s)} (began t k) l → kind_in s l t ≡ kind_of k)
        → cond b (kind_of a) (kind_in s l t) ≡ kind_of k
    skip true e p ih = absurd (n a (here (ap {B = Seen (plain s)} (λ (v : ℕ). began v a) (sym (eqb-true u t e))) p))
    skip false e p ih = ih p

    go : (◌≡◌ {A = Seen (plain s)} (began t k) (began u a)) ⊎ (◌∈◌ {A = Seen (plain s)} (began t k) l) → (◌∈◌ {A = Seen (plain s)} (began t k) l → kind_in s l t ≡ kind_of k)
        → kind_in s (began u a ∷ l) t ≡ kind_of k
    go (inl e) ih = kind_here s (began u a) l t k e
    go (inr p) ih = unfold kind_in in skip (eqb u t) refl p ih
kind_found s (ended u how ∷ l) t k n m = go (Memᴰ.cases_cons m) (kind_found s l t k (λ k' b. n k' (later b)))
  where
    go : (◌≡◌ {A = Seen (plain s)} (began t k) (ended u how)) ⊎ (◌∈◌ {A = Seen (plain s)} (began t k) l) → (◌∈◌ {A = Seen (plain s)} (began t k) l → kind_in s l t ≡ kind_of k)
        → kind_in s (ended u how ∷ l) t ≡ kind_of k
    go (inl e) ih = kind_here s (ended u how) l t k e
    go (inr p) ih = unfold kind_in in ih p

-- what the bench tells at an event is what the run reports there, if the operation that ends has c in its time and began with this kind
told_is_reported : (s : Settings) (before l : List (Seen (plain s))) (c kind letter : ℕ) → length l ≤ 1
    → ((time : ℕ) (how : Ending (plain s)) → l ≡ ended time how ∷ [] → (c ≡ coordinator_of time) × (kind ≡ kind_in s before time))
    → told s c kind letter l ≡ reported s before letter l
unfolding told reported
told_is_reported s before [] c kind letter h f = refl
told_is_reported s before (began time action ∷ []) c kind letter h f = refl
told_is_reported s before (ended time how ∷ []) c kind letter h f =
    let q = f time how refl in
    ap (λ (v : ℕ). told_end s v kind time letter how ++ []) q.0 ∙ ap (λ (v : ℕ). told_end s (coordinator_of time) v time letter how ++ []) q.1
told_is_reported s before (x ∷ y ∷ l) c kind letter h f = absurd (omega (arith, h))

module _ (s : Settings) (g : SettingsRange s) where
  -- in a run, the operation that runs at coordinator c has c in its time, and its kind from its beginning
  ran_own : (r : Moved s) (h : Hist s) → Inv s g bench_stripe h r → (c kind time : ℕ) → Ran (r.world.coordinators c).state.op kind time
      → (c ≡ coordinator_of time) × (kind ≡ kind_in s (r.seen bench_stripe) time)
  unfolding kind_of view
  ran_own r h i c kind time a = (sym own ∙ ap (λ (v : ℕ). coordinator_of v) a.time-is, go a.known)
    where
      not-idle : (kind ≡ reading_kind) ⊎ (kind ≡ writing_kind) → (r.world.coordinators c).state.op.kind ≡ idle_kind → ⊥
      not-idle (inl e) q = omega (arith, a.kind-is, e, q)
      not-idle (inr e) q = omega (arith, a.kind-is, e, q)

      runs : Running s g h (view bench_stripe r).sent c (r.world.coordinators c)
      runs =
          let n = not-idle a.known in
          subst (λ (x : Buffered). (x.state.op.kind ≡ idle_kind → ⊥) → Running s g h (view bench_stripe r).sent c x)
          (viewed_here bench_stripe (r.world.coordinators c) n a.stripe-is) (i.coordinators c).runs n

      own : coordinator_of (r.world.coordinators c).state.op.time ≡ c
      own = runs.own

      found : (k : (plain s).Kind) → In (Fact.began (r.world.coordinators c).state.op.time k) h → kind_in s (r.seen bench_stripe) time ≡ kind_of k
      found k m =
          subst (λ (v : ℕ). kind_in s (r.seen bench_stripe) v ≡ kind_of k) a.time-is
          (subst (λ (l : List (Seen (plain s))). kind_in s l (r.world.coordinators c).state.op.time ≡ kind_of k) i.seen-is
          (kind_found s (seen h) (r.world.coordinators c).state.op.time k (λ k' b. (one_order i.valid).named _ k' k b) (seen_began m)))

      began-so : kind_in s (r.seen bench_stripe) time ≡ kind_of (begun_kind s (r.world.coordinators c))
      began-so = found (begun_kind s (r.world.coordinators c)) runs.begun

      go : (kind ≡ reading_kind) ⊎ (kind ≡ writing_kind) → kind ≡ kind_in s (r.seen bench_stripe) time
      go (inl e) = e ∙ sym (began-so ∙ ap kind_of (begun_read s (r.world.coordinators c) (a.kind-is ∙ e)))
      go (inr e) = e ∙ sym (began-so ∙ ap kind_of (begun_write s (r.world.coordinators c) (a.kind-is ∙ e)))

  abbrev Held-by : Moved s → Type 0
  Held-by r = (h : Hist s) × Inv s g bench_stripe h r

  -- a report from here on, whatever was seen before in the run
  abbrev From : World → List Part → List Event → List ℕ → Type 0
  From w parts events text =
      (before : ℕ → List (Seen (plain s))) → Held-by (record { world = w; seen = before }) → Reports s (record { world = w; seen = before }) parts events text

  does_report : (w : World) (part : Part) (p : Played) → plays_part s w part ≡ p → Does s w p → (parts : List Part) (events : List Event) (text : List ℕ)
      → From p.world parts events text → From w (part ∷ parts) (p.events ++ events) (p.printed ++ text)
  unfolding refuses passes happens next_moved
  does_report w part p q (refusing number) parts events text f before i = refusal number q (f before i)
  does_report w part p q passing parts events text f before i = silence q (f before i)
  does_report w part p q (happening e c kind b h o _) parts events text f before i =
      let r : Moved s = record { world = w; seen = before } in
      let n = step_goes s g bench_stripe i.0 r i.1 e in
      let z =
      told_is_reported s (before bench_stripe) ((step s w e).seen bench_stripe) c kind (letter_at s w e) (one_thing_seen s w e bench_stripe)
      (λ time how d. ran_own r i.0 i.1 c kind time (o time how d))
      in
      subst (λ (v : List ℕ). Reports s r (part ∷ parts) (e ∷ events) (v ++ text)) (sym z)
      (event e (q ∙ ap (happens s w e) z) (f (λ (k : ℕ). before k ++ (step s w e).seen k) (n.0, n.2)))

  parts_report : (w : World) (ps : List Part) (p : Played) → Parts s w ps p → (parts : List Part) (events : List Event) (text : List ℕ)
      → From p.world parts events text → From w (ps ++ parts) (p.events ++ events) (p.printed ++ text)
  unfolding passes and_then
  parts_report w ps p (none _) parts events text f = f
  parts_report w ps p (one _ part d) parts events text f = does_report w part p refl d parts events text f
  parts_report w ps p (both _ xs ys q r a b) parts events text f =
      rw (append_assoc xs ys parts, append_assoc q.events r.events events, append_assoc q.printed r.printed text)
      (parts_report w xs q a (ys ++ parts) (r.events ++ events) (r.printed ++ text) (parts_report q.world ys r b parts events text f))

  lines_report : s.stripes ≡ bench_stripes → (w : World) → WholeStripes w → (events : List Event) (ls : List (List ℕ))
      → From w (parts_in ls) (plays_lines (playing s w events) ls).events (plays_lines (playing s w events) ls).printed
  unfolding plays_lines stays follows turn parts_in
  lines_report z w h events [] = λ before i. nothing
  lines_report z w h events (l ∷ ls) =
      let d = every_line_by_parts s w z h (reads l) in
      parts_report w (parts_of (reads l)) (plays s w (reads l)) d (parts_in ls) _ _
      (lines_report z (plays s w (reads l)).world (parts_whole s w (parts_of (reads l)) (plays s w (reads l)) d h) (events ++ (plays s w (reads l)).events) ls)

-- the stage after some lines on a set
stage_after : (s : Settings) (w : World) (events : List Event) (ls : List (List ℕ))
    → (v : World) × ((plays_lines (playing s w events) ls).stage ≡ playing s v (events ++ (plays_lines (playing s w events) ls).events))
unfolding plays_lines stays follows turn
stage_after s w events [] = (w, ap (playing s w) (sym (append-nil events)))
stage_after s w events (l ∷ ls) =
    let p = plays s w (reads l) in
    let z = stage_after s p.world (events ++ p.events) ls in
    (z.0, z.1 ∙ ap (playing s z.0) (append_assoc events p.events _))

-- the lines after an accepted `set`
set_prints : (l : List ℕ) (ls : List (List ℕ)) (s : Settings) → reads l ≡ set_line s.n s.m s.size s.capacity → bench_range s ≡ true
    → Prints (l ∷ ls) (plays_lines (playing s (fresh_set s) []) ls).stage (plays_lines (playing s (fresh_set s) []) ls).printed
unfolding StandsFor WholeAt run run_from unmoved
set_prints l ls s e b =
    let g = settings_passed s (bench_in_range s b) in
    let es = (plays_lines (playing s (fresh_set s) []) ls).events in
    let z = stage_after s (fresh_set s) [] ls in
    let h = subst StandsFor z.1 (lines_stand (playing s (fresh_set s) []) ls (one_stripe_lem s b, fresh_whole s) (b, refl)) in
    subst (λ (v : Stage). Prints (l ∷ ls) v (plays_lines (playing s (fresh_set s) []) ls).printed)
    (ap (λ (v : World). playing s v es) (sym h.1) ∙ sym z.1)
    (set s e b (lines_report s g (one_stripe_lem s b) (fresh_set s) (fresh_whole s) [] ls (λ (k : ℕ). []) (run_holds s g bench_stripe g.stripes-low [])))

-- the turn of an accepted `set`
abbrev fresh_turn : Settings → Turn
fresh_turn s = record { stage = playing s (fresh_set s) []; events = []; printed = [] }

lines_print : (ls : List (List ℕ)) → Prints ls (plays_lines waiting ls).stage (plays_lines waiting ls).printed
unfolding plays_lines stays follows turn first waits begins
lines_print [] = no_more_lines
lines_print (l ∷ ls) = go (reads l) refl (lines_print ls)
  where
    within : (n m size capacity : ℕ) (b : Bool) → bench_range (one_stripe n m size capacity) ≡ b → reads l ≡ set_line n m size capacity
        → Prints ls (plays_lines waiting ls).stage (plays_lines waiting ls).printed
        → Prints (l ∷ ls) (plays_lines (cond b (fresh_turn (one_stripe n m size capacity)) (waits bad_setting)).stage ls).stage
        ((cond b (fresh_turn (one_stripe n m size capacity)) (waits bad_setting)).printed
        ++ (plays_lines (cond b (fresh_turn (one_stripe n m size capacity)) (waits bad_setting)).stage ls).printed)
    within n m size capacity true b e ih = set_prints l ls (one_stripe n m size capacity) e b
    within n m size capacity false b e ih =
        no_set bad_setting (ap first e ∙ ap (λ (t : Bool). cond t (fresh_turn (one_stripe n m size capacity)) (waits bad_setting)) b) ih

    go : (line : Line) → reads l ≡ line → Prints ls (plays_lines waiting ls).stage (plays_lines waiting ls).printed
        → Prints (l ∷ ls) (plays_lines (first line).stage ls).stage ((first line).printed ++ (plays_lines (first line).stage ls).printed)
    go (set_line n m size capacity) e ih = within n m size capacity (bench_range _) refl e ih
    go (write_line c clock digits) e ih = no_set bad_line (ap first e) ih
    go (read_line c clock brick) e ih = no_set bad_line (ap first e) ih
    go (carry_line messages) e ih = no_set bad_line (ap first e) ih
    go (crash_line c) e ih = no_set bad_line (ap first e) ih
    go (down_line b) e ih = no_set bad_line (ap first e) ih
    go (up_line b) e ih = no_set bad_line (ap first e) ih
    go no_line e ih = no_set bad_line (ap first e) ih

pub every_script_prints_its_run : EveryScriptPrintsItsRun
unfolding script
every_script_prints_its_run input = lines_print (lines input)
