-- Every script is a run, keeps its events, and has one order, on one stripe.
use mathlib.Core.Path.{◌≡◌, refl, sym, ap, subst, ◌∙◌}
use mathlib.Core.Bool.{Bool, true, false, cond}
use mathlib.Core.List.{List, [], ◌∷◌, ◌++◌, append-nil, append_assoc}
use Prim.Native.Nat.{ℕ}
use native.Mathlib.Omega.{arith}
use Rattle.settings.specs.Ranges.{settings_refusal}
use Rattle.settings.specs.Refusal.{refuse_unless, bad_setting}
use Rattle.settings.specs.declared.Settings.{Settings}
use Rattle.order.specs.Claim.{Seen}
use Rattle.register.specs.Runs.{plain, World, Event, Moved, unmoved, fresh_set, next_moved, run_from, run}
use Rattle.register.proofs.Laws.AgreeLaws.{run_from_both}
use Rattle.register.proofs.Laws.TheoremProof.{every_run_has_one_order}
use Rattle.bench_parse.specs.Lines.{Line, set_line, write_line, read_line, carry_line, crash_line, down_line, up_line, no_line, reads}
use Rattle.bench_state.proofs.Laws.BenchRangeLaws.{bench_fits}
use Rattle.bench_state.specs.State.{bench_range}
use Rattle.bench_rules.specs.Play.{Played, refuses, passes, happens, and_then, plays, Stage, waiting, playing, events_of, waits, begins, one_stripe, first, turn}
use Rattle.bench_limits.specs.Limits.{bench_stripes, bench_stripe}
use Rattle.bench_order.specs.Report.{Part, parts_of}
use Rattle.bench_lines.specs.Cutting.{lines}
use Rattle.bench_order.specs.Script.{stays, follows, plays_lines, script}
use Rattle.bench_order.proofs.Laws.Parts.{Does, refusing, passing, happening, Parts, none, one, both}
use Rattle.bench_order.proofs.Laws.ScriptPartLaws.{every_line_by_parts}
use Rattle.bench_order.proofs.Laws.WholeStripeLaws.{WholeStripes, fresh_whole, parts_whole, whole_both, parts_start}
use Rattle.bench_order.specs.ScriptTheorem.{StandsFor, on_whole_stripes, EveryScriptIsARun, EveryScriptKeepsItsEvents, EveryScriptHasOneOrder, EveryScriptKeepsToOneStripe}
use Rattle.bench_order.specs.ScriptTheorem.{EveryScriptKeepsToWholeStripes}

-- what the parts of a line leave is what their events leave, whatever was seen before
does_runs : (s : Settings) (w : World) (p : Played) → Does s w p → (seen : ℕ → List (Seen (plain s)))
    → (run_from s (record { world = w; seen = seen }) p.events).world ≡ p.world
unfolding refuses passes happens run_from next_moved
does_runs s w p (refusing number) seen = refl
does_runs s w p passing seen = refl
does_runs s w p (happening e c kind b f o z) seen = refl

parts_run : (s : Settings) (w : World) (ps : List Part) (p : Played) → Parts s w ps p → (seen : ℕ → List (Seen (plain s)))
    → (run_from s (record { world = w; seen = seen }) p.events).world ≡ p.world
unfolding passes and_then run_from
parts_run s w ps p (none _) seen = refl
parts_run s w ps p (one _ part d) seen = does_runs s w p d seen
parts_run s w ps p (both _ xs ys q r a b) seen =
    let m = run_from s (record { world = w; seen = seen }) q.events in
    ap (λ (v : Moved s). v.world) (run_from_both s (record { world = w; seen = seen }) q.events r.events)
    ∙ ap (λ (v : World). (run_from s (record { world = v; seen = m.seen }) r.events).world) (parts_run s w xs q a seen)
    ∙ parts_run s q.world ys r b m.seen

pub plays_runs : (s : Settings) (w : World) → s.stripes ≡ bench_stripes → WholeStripes w → (line : Line) (seen : ℕ → List (Seen (plain s)))
    → (run_from s (record { world = w; seen = seen }) (plays s w line).events).world ≡ (plays s w line).world
plays_runs s w z h line seen = parts_run s w (parts_of line) (plays s w line) (every_line_by_parts s w z h line) seen

-- the events of a line show nothing but on the bench's stripe
does_apart : (s : Settings) (w : World) (p : Played) → Does s w p → (seen : ℕ → List (Seen (plain s))) (k : ℕ) → (k ≡ bench_stripe → ⊥)
    → (run_from s (record { world = w; seen = seen }) p.events).seen k ≡ seen k
unfolding refuses passes happens run_from next_moved
does_apart s w p (refusing number) seen k n = refl
does_apart s w p passing seen k n = refl
does_apart s w p (happening e c kind b f o z) seen k n = ap (λ (l : List (Seen (plain s))). seen k ++ l) (z k n) ∙ append-nil (seen k)

parts_apart : (s : Settings) (w : World) (ps : List Part) (p : Played) → Parts s w ps p → (seen : ℕ → List (Seen (plain s))) (k : ℕ) → (k ≡ bench_stripe → ⊥)
    → (run_from s (record { world = w; seen = seen }) p.events).seen k ≡ seen k
unfolding passes and_then run_from
parts_apart s w ps p (none _) seen k n = refl
parts_apart s w ps p (one _ part d) seen k n = does_apart s w p d seen k n
parts_apart s w ps p (both _ xs ys q r a b) seen k n =
    let m = run_from s (record { world = w; seen = seen }) q.events in
    ap (λ (v : Moved s). v.seen k) (run_from_both s (record { world = w; seen = seen }) q.events r.events)
    ∙ ap (λ (v : World). (run_from s (record { world = v; seen = m.seen }) r.events).seen k) (parts_run s w xs q a seen)
    ∙ parts_apart s q.world ys r b m.seen k n
    ∙ parts_apart s w xs q a seen k n

-- a set that begins
begins_stands : (s : Settings) → StandsFor (begins s).stage
unfolding begins waits StandsFor run unmoved run_from
begins_stands s = go (bench_range s) refl
  where
    go : (b : Bool) → bench_range s ≡ b
        → StandsFor (cond b (record { stage = playing s (fresh_set s) []; events = []; printed = [] }) (waits bad_setting)).stage
    go true e = (e, refl)
    go false e = tt

first_stands : (line : Line) → StandsFor (first line).stage
unfolding first waits StandsFor
first_stands (set_line n m size capacity) = begins_stands (one_stripe n m size capacity)
first_stands (write_line c clock digits) = tt
first_stands (read_line c clock brick) = tt
first_stands (carry_line messages) = tt
first_stands (crash_line c) = tt
first_stands (down_line b) = tt
first_stands (up_line b) = tt
first_stands no_line = tt

-- settings within the bench's limits have one stripe
pub one_stripe_lem : (s : Settings) → bench_range s ≡ true → s.stripes ≡ bench_stripes
one_stripe_lem s e = (bench_fits s e).small.one-stripe

-- a set, if there is one, has one stripe, and no coordinator runs an operation on one block
unfoldable pub WholeAt : Stage → Type 0
WholeAt waiting = Unit {0}
WholeAt (playing s w events) = (s.stripes ≡ bench_stripes) × WholeStripes w

begins_whole : (s : Settings) → WholeAt (begins s).stage
unfolding begins waits WholeAt
begins_whole s = go (bench_range s) refl
  where
    go : (b : Bool) → bench_range s ≡ b → WholeAt (cond b (record { stage = playing s (fresh_set s) []; events = []; printed = [] }) (waits bad_setting)).stage
    go true e = (one_stripe_lem s e, fresh_whole s)
    go false e = tt

pub turn_whole : (stage : Stage) (line : Line) → WholeAt stage → WholeAt (turn stage line).stage
unfolding turn first waits WholeAt
turn_whole waiting (set_line n m size capacity) h = begins_whole (one_stripe n m size capacity)
turn_whole waiting (write_line c clock digits) h = tt
turn_whole waiting (read_line c clock brick) h = tt
turn_whole waiting (carry_line messages) h = tt
turn_whole waiting (crash_line c) h = tt
turn_whole waiting (down_line b) h = tt
turn_whole waiting (up_line b) h = tt
turn_whole waiting no_line h = tt
turn_whole (playing s w events) line (z, h) = (z, parts_whole s w (parts_of line) (plays s w line) (every_line_by_parts s w z h line) h)

-- one line
pub turn_stands : (stage : Stage) (line : Line) → WholeAt stage → StandsFor stage → StandsFor (turn stage line).stage
unfolding turn StandsFor WholeAt run
turn_stands waiting line a h = first_stands line
turn_stands (playing s w events) line a (b, e) = (
  b,
  sym (plays_runs s w a.0 a.1 line (run s events).seen)
      ∙ ap (λ (v : World). (run_from s (record { world = v; seen = (run s events).seen }) (plays s w line).events).world) e
      ∙ ap (λ (v : Moved s). v.world) (sym (run_from_both s (unmoved s (fresh_set s)) events (plays s w line).events)),
)

-- all lines
pub lines_stand : (stage : Stage) (ls : List (List ℕ)) → WholeAt stage → StandsFor stage → StandsFor (plays_lines stage ls).stage
unfolding plays_lines stays follows
lines_stand stage [] a h = h
lines_stand stage (l ∷ ls) a h = lines_stand (turn stage (reads l)).stage ls (turn_whole stage (reads l) a) (turn_stands stage (reads l) a h)

pub every_script_is_a_run : EveryScriptIsARun
unfolding script StandsFor WholeAt
every_script_is_a_run input = lines_stand waiting (lines input) tt tt

-- a line adds its events to those of the stage
begins_keeps : (s : Settings) → events_of (begins s).stage ≡ (begins s).events
unfolding begins waits events_of
begins_keeps s = go (bench_range s)
  where
    go : (b : Bool) → events_of (cond b (record { stage = playing s (fresh_set s) []; events = []; printed = [] }) (waits bad_setting)).stage
        ≡ (cond b (record { stage = playing s (fresh_set s) []; events = []; printed = [] }) (waits bad_setting)).events
    go true = refl
    go false = refl

first_keeps : (line : Line) → events_of (first line).stage ≡ (first line).events
unfolding first waits events_of
first_keeps (set_line n m size capacity) = begins_keeps (one_stripe n m size capacity)
first_keeps (write_line c clock digits) = refl
first_keeps (read_line c clock brick) = refl
first_keeps (carry_line messages) = refl
first_keeps (crash_line c) = refl
first_keeps (down_line b) = refl
first_keeps (up_line b) = refl
first_keeps no_line = refl

turn_keeps : (stage : Stage) (line : Line) → events_of (turn stage line).stage ≡ events_of stage ++ (turn stage line).events
unfolding turn events_of
turn_keeps waiting line = first_keeps line
turn_keeps (playing s w events) line = refl

lines_keep : (stage : Stage) (ls : List (List ℕ)) → events_of (plays_lines stage ls).stage ≡ events_of stage ++ (plays_lines stage ls).events
unfolding plays_lines stays follows
lines_keep stage [] = sym (append-nil (events_of stage))
lines_keep stage (l ∷ ls) =
    let t = turn stage (reads l) in
    let u = plays_lines (turn stage (reads l)).stage ls in
    lines_keep t.stage ls ∙ ap (λ (es : List Event). es ++ u.events) (turn_keeps stage (reads l))
    ∙ append_assoc (events_of stage) t.events u.events

pub every_script_keeps_its_events : EveryScriptKeepsItsEvents
unfolding script events_of
every_script_keeps_its_events input = lines_keep waiting (lines input)

-- settings within the bench's limits are in range
pub bench_in_range : (s : Settings) → bench_range s ≡ true → settings_refusal s ≡ 0
unfolding settings_refusal
bench_in_range s e = ap (λ (b : Bool). refuse_unless b bad_setting) (bench_fits s e).in-range

stands_range : (stage : Stage) (s : Settings) (w : World) (events : List Event) → StandsFor stage → stage ≡ playing s w events → bench_range s ≡ true
unfolding StandsFor
stands_range waiting s w events h e = absurd (let z : ◌≡◌ {A = ℕ} 0 1 = cc in omega arith)
stands_range (playing t v fs) s w events h e = let z : t ≡ s = cc in subst (λ (x : Settings). bench_range x ≡ true) z h.0

pub every_script_has_one_order : EveryScriptHasOneOrder
every_script_has_one_order input s w events e =
    let f = bench_fits s (stands_range _ s w events (every_script_is_a_run input) e) in
    every_run_has_one_order s f.in-range events bench_stripe f.range.stripes-low

-- nothing is seen on another stripe
unfoldable ShowsApart : Stage → Type 0
ShowsApart waiting = Unit {0}
ShowsApart (playing s w events) = (stripe : ℕ) → (stripe ≡ bench_stripe → ⊥) → (run s events).seen stripe ≡ []

begins_apart : (s : Settings) → ShowsApart (begins s).stage
unfolding begins waits ShowsApart run unmoved run_from
begins_apart s = go (bench_range s)
  where
    go : (b : Bool) → ShowsApart (cond b (record { stage = playing s (fresh_set s) []; events = []; printed = [] }) (waits bad_setting)).stage
    go true = λ stripe n. refl
    go false = tt

turn_apart : (stage : Stage) (line : Line) → WholeAt stage → StandsFor stage → ShowsApart stage → ShowsApart (turn stage line).stage
unfolding turn first waits StandsFor WholeAt ShowsApart run
turn_apart waiting (set_line n m size capacity) i h a = begins_apart (one_stripe n m size capacity)
turn_apart waiting (write_line c clock digits) i h a = tt
turn_apart waiting (read_line c clock brick) i h a = tt
turn_apart waiting (carry_line messages) i h a = tt
turn_apart waiting (crash_line c) i h a = tt
turn_apart waiting (down_line b) i h a = tt
turn_apart waiting (up_line b) i h a = tt
turn_apart waiting no_line i h a = tt
turn_apart (playing s w events) line i (b, e) a = λ stripe n. (
    ap (λ (v : Moved s). v.seen stripe) (run_from_both s (unmoved s (fresh_set s)) events (plays s w line).events)
    ∙ ap (λ (v : World). (run_from s (record { world = v; seen = (run s events).seen }) (plays s w line).events).seen stripe) (sym e)
    ∙ parts_apart s w (parts_of line) (plays s w line) (every_line_by_parts s w i.0 i.1 line) (run s events).seen stripe n
    ∙ a stripe n
    )

lines_apart : (stage : Stage) (ls : List (List ℕ)) → WholeAt stage → StandsFor stage → ShowsApart stage → ShowsApart (plays_lines stage ls).stage
unfolding plays_lines stays follows
lines_apart stage [] i h a = a
lines_apart stage (l ∷ ls) i h a =
    lines_apart (turn stage (reads l)).stage ls (turn_whole stage (reads l) i) (turn_stands stage (reads l) i h) (turn_apart stage (reads l) i h a)

pub every_script_keeps_to_one_stripe : EveryScriptKeepsToOneStripe
unfolding script StandsFor WholeAt ShowsApart
every_script_keeps_to_one_stripe input s w events e = subst ShowsApart e (lines_apart waiting (lines input) tt tt tt)

-- no event of a line starts an operation on one block
begins_start : (s : Settings) → on_whole_stripes (begins s).events ≡ true
unfolding begins waits on_whole_stripes
begins_start s = go (bench_range s)
  where
    go : (b : Bool) → on_whole_stripes (cond b (record { stage = playing s (fresh_set s) []; events = []; printed = [] }) (waits bad_setting)).events ≡ true
    go true = refl
    go false = refl

turn_starts : (stage : Stage) (line : Line) → WholeAt stage → on_whole_stripes (turn stage line).events ≡ true
unfolding turn first waits WholeAt on_whole_stripes
turn_starts waiting (set_line n m size capacity) h = begins_start (one_stripe n m size capacity)
turn_starts waiting (write_line c clock digits) h = refl
turn_starts waiting (read_line c clock brick) h = refl
turn_starts waiting (carry_line messages) h = refl
turn_starts waiting (crash_line c) h = refl
turn_starts waiting (down_line b) h = refl
turn_starts waiting (up_line b) h = refl
turn_starts waiting no_line h = refl
turn_starts (playing s w events) line h = parts_start s w (parts_of line) (plays s w line) (every_line_by_parts s w h.0 h.1 line)

lines_start : (stage : Stage) (ls : List (List ℕ)) → WholeAt stage → on_whole_stripes (plays_lines stage ls).events ≡ true
unfolding plays_lines stays follows on_whole_stripes
lines_start stage [] h = refl
lines_start stage (l ∷ ls) h =
    whole_both (turn stage (reads l)).events _ (turn_starts stage (reads l) h) (lines_start (turn stage (reads l)).stage ls (turn_whole stage (reads l) h))

pub every_script_keeps_to_whole_stripes : EveryScriptKeepsToWholeStripes
unfolding script WholeAt
every_script_keeps_to_whole_stripes input = lines_start waiting (lines input) tt
