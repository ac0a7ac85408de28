-- The ways through what a record and buffers are refused with, and a whole call.
use mathlib.Core.Path.{◌≡◌, refl, sym, ap, subst, ◌∙◌}
use mathlib.Core.Bool.{Bool, true, false, cond, ◌&&◌, ◌||◌}
use mathlib.Core.List.{List, [], ◌∷◌}
use Prim.Native.Nat.{ℕ, ◌≤◌, ◌<◌}
use native.Mathlib.Omega.{arith}
use lib.Dec.{eqb, leb}
use lib.ListN.{length}
use borrow.Author.Tests.{eq-eqb, ne_eqb, le-leb, lt-leb, leb-true, eqb-true}
use Rattle.byte_lists.proofs.Laws.BoolLaws.{and_left, and_right}
use Rattle.settings.specs.Refusal.{refuse_unless, first_refusal, bad_length, bad_record, bad_setting}
use Rattle.settings.specs.declared.Settings.{Settings}
use Rattle.settings.specs.declared.Refusal.{Refusal}
use Rattle.settings.specs.declared.Refusal.TheVariants.{BadSetting, BadLength, BadNumber, BadBrickSet, BadCheck, BadRecord, BadReading}
use Rattle.settings.specs.declared.Refusal.TheVariants.{ClockSpent, Busy, BadMessage, StrayReply, BadLine, BadStripe, BadBlock, BlocksDisagree}
use Rattle.settings.specs.Refusal.{number_of_refusal, refusal_in}
use Rattle.std.specs.Prelude.{Result, Ok, Err, is_ok}
use Rattle.bench_parse.specs.Lines.{reads}
use Rattle.bench_rules.specs.Play.{Stage, waiting, playing, events_of, turn, plays}
use Rattle.bench_rules.specs.Turning.{Lent, lent, world_in}
use Rattle.bench_rules.specs.Workers.{BenchReady, Lined}
use Rattle.bench_rules.specs.declared.After.{After}
use Rattle.bench_print.proofs.Laws.WrittenLaws.{written_nothing}
use Rattle.bench_state.proofs.Laws.BenchRangeLaws.{bench_fits}
use Rattle.bench_state.specs.State.{bench_range}
use Rattle.bench_state.specs.Workers.{bench_refusal, fresh_bench}
use Rattle.bench_state.specs.declared.Bench.{Bench}
use Rattle.bench_player.specs.Lining.{stage_of, lent_lengths_right, bench_refused, refusal_of, heard, Called}
use Rattle.register.specs.Runs.{Event}
use Rattle.bench_player.specs.Workers.{Staged, First}
use Rattle.bench_player.proofs.Laws.PlayerTurnLaws.{lined_staged}
use Rattle.bench_limits.specs.Limits.{last_message, kept_length, images_length, numbers_length, bytes_length, text_length}

-- settings of no set, or within the limits
pub right_none : (s : Settings) → s.n ≡ 0 → true ≡ (eqb s.n 0 || bench_range s)
right_none s e = rw (eq-eqb s.n 0 e) refl

pub has_number : (r : Refusal) → number_of_refusal r ≡ 0 → ⊥
has_number BadSetting e = absurd (omega arith)
has_number BadLength e = absurd (omega arith)
has_number BadNumber e = absurd (omega arith)
has_number BadBrickSet e = absurd (omega arith)
has_number BadCheck e = absurd (omega arith)
has_number BadRecord e = absurd (omega arith)
has_number BadReading e = absurd (omega arith)
has_number ClockSpent e = absurd (omega arith)
has_number Busy e = absurd (omega arith)
has_number BadMessage e = absurd (omega arith)
has_number StrayReply e = absurd (omega arith)
has_number BadLine e = absurd (omega arith)
has_number BadStripe e = absurd (omega arith)
has_number BadBlock e = absurd (omega arith)
has_number BlocksDisagree e = absurd (omega arith)

pub right_some : {A : Type 0} (s : Settings) (r : Result A Refusal) → (s.n ≡ 0 → ⊥) → refusal_in r ≡ bench_refusal s → is_ok r ≡ (eqb s.n 0 || bench_range s)
unfolding bench_refusal
right_some s (Ok a) h e = rw (ne_eqb s.n 0 h) (go (bench_range s) e)
  where
    go : (x : Bool) → 0 ≡ refuse_unless x bad_setting → true ≡ x
    go true q = refl
    go false q = absurd (omega arith)
right_some s (Err f) h e = rw (ne_eqb s.n 0 h) (go (bench_range s) e)
  where
    go : (x : Bool) → number_of_refusal f ≡ refuse_unless x bad_setting → false ≡ x
    go true q = absurd (has_number f q)
    go false q = refl

module _ (images kept numbers bytes out : ℕ) where
  pub lengths_all : images ≡ images_length → kept ≡ kept_length → numbers ≡ numbers_length → bytes ≡ bytes_length → out ≡ text_length → true ≡ lent_lengths_right images kept numbers bytes out
  unfolding lent_lengths_right
  lengths_all a b c d e = rw (eq-eqb images images_length a, eq-eqb kept kept_length b, eq-eqb numbers numbers_length c, eq-eqb bytes bytes_length d, eq-eqb out text_length e) refl

  module _ (b : Bench) where
    pub refused_settings : (x : Bool) → x ≡ (eqb b.settings.n 0 || bench_range b.settings) → x ≡ false → bad_setting ≡ bench_refused b images kept numbers bytes out
    unfolding bench_refused first_refusal
    refused_settings x e h = rw (sym e ∙ h) refl

    pub refused_lengths : (x y : Bool) → x ≡ (eqb b.settings.n 0 || bench_range b.settings) → x ≡ true → y ≡ lent_lengths_right images kept numbers bytes out → y ≡ false
        → bad_length ≡ bench_refused b images kept numbers bytes out
    unfolding bench_refused first_refusal
    refused_lengths x y e h f g = rw (sym e ∙ h, sym f ∙ g) refl

    pub refused_many : (x y : Bool) → x ≡ (eqb b.settings.n 0 || bench_range b.settings) → x ≡ true → y ≡ lent_lengths_right images kept numbers bytes out → y ≡ true
        → last_message < b.sent → bad_record ≡ bench_refused b images kept numbers bytes out
    unfolding bench_refused first_refusal
    refused_many x y e h f g l = rw (sym e ∙ h, sym f ∙ g, lt-leb b.sent last_message l) refl

    pub refused_not : (x y : Bool) → x ≡ (eqb b.settings.n 0 || bench_range b.settings) → x ≡ true → y ≡ lent_lengths_right images kept numbers bytes out → y ≡ true
        → b.sent ≤ last_message → 0 ≡ bench_refused b images kept numbers bytes out
    unfolding bench_refused first_refusal
    refused_not x y e h f g l = rw (sym e ∙ h, sym f ∙ g, le-leb b.sent last_message l) refl

    -- what is not refused
    pub record Accepted : Type 0 where
      pub right : eqb b.settings.n 0 || bench_range b.settings ≡ true
      pub images-long : images ≡ images_length
      pub kept-long : kept ≡ kept_length
      pub numbers-long : numbers ≡ numbers_length
      pub bytes-long : bytes ≡ bytes_length
      pub out-long : out ≡ text_length
      pub few : b.sent ≤ last_message

    pub accepted : (k : ℕ) → k ≡ bench_refused b images kept numbers bytes out → k ≡ 0 → Accepted
    unfolding bench_refused first_refusal lent_lengths_right
    accepted k e z =
        go (eqb b.settings.n 0 || bench_range b.settings) (eqb images images_length && eqb kept kept_length && eqb numbers numbers_length && eqb bytes bytes_length && eqb out text_length)
        (leb b.sent last_message) refl refl refl
        (sym e ∙ z)
      where
        go : (x y w : Bool) → eqb b.settings.n 0 || bench_range b.settings ≡ x
            → eqb images images_length && eqb kept kept_length && eqb numbers numbers_length && eqb bytes bytes_length && eqb out text_length ≡ y → leb b.sent last_message ≡ w
            → ◌≡◌ {A = ℕ} (first_refusal (refuse_unless x bad_setting ∷ refuse_unless y bad_length ∷ refuse_unless w bad_record ∷ [])) 0 → Accepted
        go false y w ex ey ew q = absurd (omega arith)
        go true false w ex ey ew q = absurd (omega arith)
        go true true false ex ey ew q = absurd (omega arith)
        go true true true ex ey ew q =
            let four = and_left (eqb images images_length && eqb kept kept_length && eqb numbers numbers_length && eqb bytes bytes_length) _ ey in
            let three = and_left (eqb images images_length && eqb kept kept_length && eqb numbers numbers_length) _ four in
            let two = and_left (eqb images images_length && eqb kept kept_length) _ three in
            record {
              right = ex;
              images-long = eqb-true images images_length (and_left (eqb images images_length) _ two);
              kept-long = eqb-true kept kept_length (and_right (eqb images images_length) _ two);
              numbers-long = eqb-true numbers numbers_length (and_right (eqb images images_length && eqb kept kept_length) _ three);
              bytes-long = eqb-true bytes bytes_length (and_right (eqb images images_length && eqb kept kept_length && eqb numbers numbers_length) _ four);
              out-long = eqb-true out text_length (and_right (eqb images images_length && eqb kept kept_length && eqb numbers numbers_length && eqb bytes bytes_length) _ ey);
              few = leb-true b.sent last_message ew;
            }

-- settings of a set are within the limits
pub set_range : (s : Settings) → eqb s.n 0 || bench_range s ≡ true → (s.n ≡ 0 → ⊥) → bench_range s ≡ true
set_range s e h = go (ne_eqb s.n 0 h) e
  where
    go : {x : Bool} → x ≡ false → x || bench_range s ≡ true → bench_range s ≡ true
    go q d = subst (λ (y : Bool). y || bench_range s ≡ true) q d

-- a stage has its own events, or none
stage_own : (b : Bench) (l : Lent) (events : List Event) → stage_of b l (events_of (stage_of b l events)) ≡ stage_of b l events
unfolding stage_of events_of
stage_own b l events = go (eqb b.settings.n 0)
  where
    go : (x : Bool) → cond x waiting (playing b.settings (world_in b l) (events_of (cond x waiting (playing b.settings (world_in b l) events))))
        ≡ cond x waiting (playing b.settings (world_in b l) events)
    go true = refl
    go false = refl

module _ (b : Bench) (l : Lent) (line out : List ℕ) where
  pub called_refused : (k : ℕ) → k ≡ refusal_of b l out → (k ≡ 0 → ⊥) → Called b l line out (record { refusal = k; bench = b; used = 0 }) l out
  unfolding heard
  called_refused k e h =
      record {
        refusal_is = e;
        plays-on = λ events.
            rw (ne_eqb k 0 h)
            (record {
              stage_is = stage_own b l events;
              text-is = sym (written_nothing 0 out);
              used-is = refl;
              within = omega arith;
            });
        unmoved-keeps = λ events q. (refl, refl);
        refused-keeps = λ q. (refl, refl, refl);
        accepted-again = λ q. absurd (h q);
      }

  -- from the stage that the record has
  called_staged : (r : After) (l' : Lent) (out' : List ℕ) → refusal_of b l out ≡ 0
      → ((events : List Event) → Staged b l (stage_of b l events) (turn (stage_of b l events) (reads line)) out r l' out')
      → length l'.images ≡ length l.images → length l'.kept ≡ length l.kept → length l'.numbers ≡ length l.numbers
      → length l'.bytes ≡ length l.bytes → length out' ≡ length out
      → Called b l line out (record { refusal = 0; bench = r.bench; used = r.used }) l' out'
  unfolding heard
  called_staged r l' out' z t ei ek en eb eo =
      let a = accepted (length l.images) (length l.kept) (length l.numbers) (length l.bytes) (length out) b (refusal_of b l out) refl z in
      record {
        refusal_is = sym z;
        plays-on = λ events.
            record {
              stage_is = (t events).stage_is;
              text-is = (t events).text-is;
              used-is = (t events).used-is;
              within = (let w = (t events).within in let o = a.out-long in omega arith);
            };
        unmoved-keeps = λ events q. (t events).unmoved-keeps q;
        refused-keeps = λ q. absurd (q refl);
        accepted-again = λ q.
            sym
            (refused_not (length l'.images) (length l'.kept) (length l'.numbers) (length l'.bytes) (length out') r.bench
            true true (sym (t []).right) refl
            (lengths_all (length l'.images) (length l'.kept) (length l'.numbers) (length l'.bytes) (length out')
            (ei ∙ a.images-long) (ek ∙ a.kept-long) (en ∙ a.numbers-long) (eb ∙ a.bytes-long) (eo ∙ a.out-long))
            refl (t []).few);
      }

  pub called_first : (k : ℕ) (r : After) (images' kept' out' : List ℕ) → k ≡ refusal_of b l out → k ≡ 0 → b.settings.n ≡ 0
      → First b l.images l.kept (reads line) out r images' kept' out'
      → length images' ≡ length l.images → length kept' ≡ length l.kept → length out' ≡ length out
      → Called b l line out (record { refusal = 0; bench = r.bench; used = r.used }) (lent images' kept' l.numbers l.bytes) out'
  unfolding stage_of turn
  called_first k r images' kept' out' e z n f ei ek eo =
      called_staged r (lent images' kept' l.numbers l.bytes) out' (sym e ∙ z)
      (λ events.
      subst (λ (x : Stage). Staged b l x (turn x (reads line)) out r (lent images' kept' l.numbers l.bytes) out')
      (sym (ap (λ (x : Bool). cond x waiting (playing b.settings (world_in b l) events)) (eq-eqb b.settings.n 0 n)))
      (f.staged l.numbers l.bytes))
      ei ek refl refl eo

  pub called_next : (k : ℕ) (r : After) (l' : Lent) (out' : List ℕ) → k ≡ refusal_of b l out → k ≡ 0 → (b.settings.n ≡ 0 → ⊥)
      → Lined b l out (plays b.settings (world_in b l) (reads line)) r l' out'
      → length l'.images ≡ length l.images → length l'.kept ≡ length l.kept → length l'.numbers ≡ length l.numbers
      → length l'.bytes ≡ length l.bytes → length out' ≡ length out
      → Called b l line out (record { refusal = 0; bench = r.bench; used = r.used }) l' out'
  unfolding stage_of
  called_next k r l' out' e z n d ei ek en eb eo =
      let a = accepted (length l.images) (length l.kept) (length l.numbers) (length l.bytes) (length out) b k e z in
      let q = set_range b.settings a.right n in
      called_staged r l' out' (sym e ∙ z)
      (λ events.
      subst (λ (x : Stage). Staged b l x (turn x (reads line)) out r l' out')
      (sym (ap (λ (x : Bool). cond x waiting (playing b.settings (world_in b l) events)) (ne_eqb b.settings.n 0 n)))
      (lined_staged b l l' out out' r (reads line) events (bench_fits b.settings q) q d))
      ei ek en eb eo

-- a set that is played is ready
pub accepted_ready : (b : Bench) (l : Lent) (out k : ℕ) → k ≡ bench_refused b (length l.images) (length l.kept) (length l.numbers) (length l.bytes) out
    → k ≡ 0
    → (b.settings.n ≡ 0 → ⊥) → BenchReady b l
accepted_ready b l out k e z n =
    let a = accepted (length l.images) (length l.kept) (length l.numbers) (length l.bytes) out b k e z in
    record {
      fits = bench_fits b.settings (set_range b.settings a.right n);
      few = a.few;
      images-long = a.images-long;
      kept-long = a.kept-long;
      numbers-long = a.numbers-long;
      bytes-long = a.bytes-long;
    }

-- before the first line
pub none_waits : (b : Bench) (s : Settings) (l : Lent) (events : List Event) → b ≡ fresh_bench s → s.n ≡ 0 → stage_of b l events ≡ waiting
unfolding stage_of fresh_bench
none_waits b s l events e z =
    ap (λ (x : Bench). cond (eqb x.settings.n 0) waiting (playing x.settings (world_in x l) events)) e ∙ rw (eq-eqb s.n 0 z) refl

pub none_accepted : (b : Bench) (s : Settings) → b ≡ fresh_bench s → s.n ≡ 0 → bench_refused b images_length kept_length numbers_length bytes_length text_length ≡ 0
unfolding bench_refused first_refusal lent_lengths_right fresh_bench
none_accepted b s e z = ap (λ (x : Bench). bench_refused x images_length kept_length numbers_length bytes_length text_length) e ∙ rw (eq-eqb s.n 0 z) refl
