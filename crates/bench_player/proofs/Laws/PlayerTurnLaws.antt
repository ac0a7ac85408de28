-- A line by what it says, while no set is accepted and after one.
use mathlib.Core.Path.{◌≡◌, refl, sym, ap, subst, ◌∙◌}
use mathlib.Core.Bool.{Bool, true, false, cond}
use mathlib.Core.List.{List, [], ◌∷◌, ◌++◌}
use Prim.Native.Nat.{ℕ}
use native.Mathlib.Omega.{arith}
use lib.ListN.{length, length-append}
use borrow.Author.Tests.{eq-eqb, ne_eqb}
use Rattle.settings.specs.Refusal.{refuse_unless, bad_line, bad_setting}
use Rattle.settings.specs.declared.Settings.{Settings}
use Rattle.bench_parse.specs.declared.Line as code
use Rattle.bench_parse.specs.declared.Line.TheVariants.{Set, Write, Read, Carry, Crash, Down, Up, Unread}
use Rattle.bench_parse.specs.Workers.{line_of, LineSound}
use Rattle.bench_parse.proofs.Laws.CallerLaws.{said_write, said_read, said_carry, said_crash, said_down, said_up, said_nothing}
use Rattle.bench_parse.specs.Lines.{reads, Line, set_line, write_line, read_line, carry_line, crash_line, down_line, up_line, no_line}
use Rattle.bench_rules.specs.Play.{Played, refuses, writes, starts, crashes_at, switches, carried_all, plays, waiting, playing, events_of, Turn, waits, begins, one_stripe, first, turn}
use Rattle.bench_rules.specs.Turning.{Lent, lent, world_in}
use Rattle.bench_rules.specs.Workers.{Turned, Lined}
use Rattle.bench_rules.proofs.Laws.TurningLaws.{turned_lined}
use Rattle.bench_rules.specs.declared.After.{After}
use Rattle.bench_print.proofs.Laws.WrittenLaws.{written_nothing}
use Rattle.bench_sent.specs.Sent.{items_of}
use Rattle.bench_state.specs.Workers.{Fits}
use Rattle.bench_state.proofs.Laws.BenchRangeLaws.{bench_fits}
use Rattle.bench_state.specs.State.{bench_range, world_of}
use Rattle.bench_state.specs.Workers.{bench_refusal, fresh_bench}
use Rattle.bench_state.specs.declared.Bench.{Bench}
use Rattle.register.specs.Runs.{World, Event, goes_down, comes_up, fresh_set}
use Rattle.bench_player.specs.Lining.{stage_of}
use Rattle.bench_player.specs.Workers.{Staged, First}

-- a line after an accepted set, by what it says
module _ (b : Bench) (l l' : Lent) (out out' : List ℕ) (r : After) (said : Line) where
  abbrev Done : Type 0
  Done = Lined b l out (plays b.settings (world_in b l) said) r l' out'

  by : (p : Played) → plays b.settings (world_in b l) said ≡ p → Lined b l out p r l' out' → Done
  by p e d = subst (λ (x : Played). Lined b l out x r l' out') (sym e) d

  pub line_set : (n m size capacity : ℕ) → said ≡ set_line n m size capacity → Turned b l 0 out (refuses (world_in b l) bad_line) r l' out' → Done
  unfolding plays
  line_set n m size capacity e t = by _ (ap (plays b.settings (world_in b l)) e) (turned_lined b l l' out out' _ r t)

  pub line_nothing : said ≡ no_line → Turned b l 0 out (refuses (world_in b l) bad_line) r l' out' → Done
  unfolding plays
  line_nothing e t = by _ (ap (plays b.settings (world_in b l)) e) (turned_lined b l l' out out' _ r t)

  pub line_write : (c clock : ℕ) (digits : List ℕ) → said ≡ write_line c clock digits → Turned b l 0 out (writes b.settings (world_in b l) c clock digits) r l' out' → Done
  unfolding plays
  line_write c clock digits e t = by _ (ap (plays b.settings (world_in b l)) e) (turned_lined b l l' out out' _ r t)

  pub line_read : (c clock brick : ℕ) → said ≡ read_line c clock brick → Turned b l 0 out (starts b.settings (world_in b l) c clock brick) r l' out' → Done
  unfolding plays
  line_read c clock brick e t = by _ (ap (plays b.settings (world_in b l)) e) (turned_lined b l l' out out' _ r t)

  pub line_carry : (ks : List ℕ) → said ≡ carry_line ks → Lined b l out (carried_all b.settings (world_in b l) ks) r l' out' → Done
  unfolding plays
  line_carry ks e d = by _ (ap (plays b.settings (world_in b l)) e) d

  pub line_crash : (c : ℕ) → said ≡ crash_line c → Turned b l 0 out (crashes_at b.settings (world_in b l) c) r l' out' → Done
  unfolding plays
  line_crash c e t = by _ (ap (plays b.settings (world_in b l)) e) (turned_lined b l l' out out' _ r t)

  pub line_down : (brick : ℕ) → said ≡ down_line brick → Lined b l out (switches b.settings (world_in b l) brick (goes_down brick)) r l' out' → Done
  unfolding plays
  line_down brick e d = by _ (ap (plays b.settings (world_in b l)) e) d

  pub line_up : (brick : ℕ) → said ≡ up_line brick → Lined b l out (switches b.settings (world_in b l) brick (comes_up brick)) r l' out' → Done
  unfolding plays
  line_up brick e d = by _ (ap (plays b.settings (world_in b l)) e) d

-- a line while no set is accepted
module _ (b : Bench) (out out' : List ℕ) (r : After) (none : b.settings.n ≡ 0) where
  waits_so : (number : ℕ) (said : Line) (images kept : List ℕ) → first said ≡ waits number
      → ((l : Lent) → Turned b l 0 out (refuses (world_in b l) number) r l out') → First b images kept said out r images kept out'
  unfolding waits refuses stage_of events_of
  waits_so number said images kept e t =
      record {
        staged = λ numbers bytes.
            (let d = turned_lined b (lent images kept numbers bytes) (lent images kept numbers bytes) out out' _ r (t (lent images kept numbers bytes)) in
            let zero-n = ap (λ (s : Settings). s.n) d.settings-kept ∙ none in
            subst (λ (x : Turn). Staged b (lent images kept numbers bytes) waiting x out r (lent images kept numbers bytes) out') (sym e)
            (record {
              stage_is = rw (eq-eqb r.bench.settings.n 0 zero-n) refl;
              few = d.few;
              right = rw (eq-eqb r.bench.settings.n 0 zero-n) refl;
              text-is = d.text-is;
              used-is = d.used-is;
              within = d.within;
              unmoved-keeps = λ q. d.no-event-keeps refl;
            }));
      }

  module _ (said : Line) (images kept : List ℕ) (t : (l : Lent) → Turned b l 0 out (refuses (world_in b l) bad_line) r l out') where
    pub first_write : (c clock : ℕ) (digits : List ℕ) → said ≡ write_line c clock digits → First b images kept said out r images kept out'
    unfolding first
    first_write c clock digits e = waits_so bad_line said images kept (ap first e) t

    pub first_read : (c clock brick : ℕ) → said ≡ read_line c clock brick → First b images kept said out r images kept out'
    unfolding first
    first_read c clock brick e = waits_so bad_line said images kept (ap first e) t

    pub first_carry : (ks : List ℕ) → said ≡ carry_line ks → First b images kept said out r images kept out'
    unfolding first
    first_carry ks e = waits_so bad_line said images kept (ap first e) t

    pub first_crash : (c : ℕ) → said ≡ crash_line c → First b images kept said out r images kept out'
    unfolding first
    first_crash c e = waits_so bad_line said images kept (ap first e) t

    pub first_down : (c : ℕ) → said ≡ down_line c → First b images kept said out r images kept out'
    unfolding first
    first_down c e = waits_so bad_line said images kept (ap first e) t

    pub first_up : (c : ℕ) → said ≡ up_line c → First b images kept said out r images kept out'
    unfolding first
    first_up c e = waits_so bad_line said images kept (ap first e) t

    pub first_nothing : said ≡ no_line → First b images kept said out r images kept out'
    unfolding first
    first_nothing e = waits_so bad_line said images kept (ap first e) t

  -- what is no set, by its cases
  pub first_other : (images kept : List ℕ) → ((l : Lent) → Turned b l 0 out (refuses (world_in b l) bad_line) r l out') → (read : code.Line) (line : List ℕ)
      → line_of read line ≡ reads line → LineSound read line → ((n m size capacity : ℕ) → read ≡ Set n m size capacity → ⊥) → First b images kept (reads line) out r images kept out'
  first_other images kept t (Set n m size capacity) line e s h = absurd (h n m size capacity refl)
  first_other images kept t (Write c clock at) line e s h = first_write (reads line) images kept t _ _ _ (said_write (Write c clock at) line e c clock at refl)
  first_other images kept t (Read c clock brick) line e s h = first_read (reads line) images kept t _ _ _ (said_read (Read c clock brick) line e c clock brick refl)
  first_other images kept t (Carry at) line e s h = first_carry (reads line) images kept t _ (said_carry (Carry at) line e at refl s)
  first_other images kept t (Crash c) line e s h = first_crash (reads line) images kept t _ (said_crash (Crash c) line e c refl)
  first_other images kept t (Down brick) line e s h = first_down (reads line) images kept t _ (said_down (Down brick) line e brick refl)
  first_other images kept t (Up brick) line e s h = first_up (reads line) images kept t _ (said_up (Up brick) line e brick refl)
  first_other images kept t Unread line e s h = first_nothing (reads line) images kept t (said_nothing Unread line e refl)

  -- settings past the limits
  pub first_bad : (n m size capacity bad : ℕ) (said : Line) (images kept : List ℕ) → said ≡ set_line n m size capacity
      → bad ≡ bench_refusal (one_stripe n m size capacity) → (bad ≡ 0 → ⊥)
      → ((l : Lent) → Turned b l 0 out (refuses (world_in b l) bad) r l out') → First b images kept said out r images kept out'
  unfolding first begins bench_refusal
  first_bad n m size capacity bad said images kept e eb h t =
      waits_so bad_setting said images kept (ap first e ∙ go (bench_range (one_stripe n m size capacity)) eb)
      (λ l. subst (λ (k : ℕ). Turned b l 0 out (refuses (world_in b l) k) r l out') (is_bad (bench_range (one_stripe n m size capacity)) eb) (t l))
    where
      is_bad : (x : Bool) → bad ≡ refuse_unless x bad_setting → bad ≡ bad_setting
      is_bad true q = absurd (h q)
      is_bad false q = q

      go : (x : Bool) → bad ≡ refuse_unless x bad_setting
          → cond x (record { stage = playing (one_stripe n m size capacity) (fresh_set (one_stripe n m size capacity)) []; events = []; printed = [] }) (waits bad_setting)
          ≡ waits bad_setting
      go true q = absurd (h q)
      go false q = refl

-- a set that begins
module _ (n m size capacity : ℕ) where
  abbrev s : Settings
  s = one_stripe n m size capacity

  pub first_set : (b : Bench) (images₀ kept₀ : List ℕ) (bad : ℕ) (out : List ℕ) (bench : Bench) (said : Line) (images kept : List ℕ)
      → said ≡ set_line n m size capacity → bad ≡ bench_refusal s → bad ≡ 0 → bench ≡ fresh_bench s → world_of bench images kept [] ≡ fresh_set s
      → First b images₀ kept₀ said out (record { bench = bench; used = 0 }) images kept out
  unfolding first begins bench_refusal stage_of events_of world_in fresh_bench items_of
  first_set b images₀ kept₀ bad out bench said images kept e eb z ef ew =
      record {
        staged = λ numbers bytes.
            subst (λ (x : Turn). Staged b (lent images₀ kept₀ numbers bytes) waiting x out (record { bench = bench; used = 0 }) (lent images kept numbers bytes) out)
            (sym (ap first e ∙ begun (bench_range s) refl eb))
            (subst (λ (x : Bench). Staged b (lent images₀ kept₀ numbers bytes) waiting fresh-turn out (record { bench = x; used = 0 }) (lent images kept numbers bytes) out) (sym ef)
            (record {
              stage_is = rw (ne_eqb s.n 0 (λ q. absurd (omega (arith, in-limits.range.code.n-low))))
                  (ap (λ (w : World). playing s w []) (ap (λ (x : Bench). world_of x images kept []) (sym ef) ∙ ew));
              few = omega arith;
              right = rw (limits, ne_eqb s.n 0 (λ q. absurd (omega (arith, in-limits.range.code.n-low)))) refl;
              text-is = sym (written_nothing 0 out);
              used-is = refl;
              within = omega arith;
              unmoved-keeps = λ q. (let y : ◌≡◌ {A = ℕ} 0 1 = cc in absurd (omega arith));
            }));
      }
    where
      fresh-turn : Turn
      fresh-turn = record { stage = playing s (fresh_set s) []; events = []; printed = [] }

      tested : (x : Bool) → bad ≡ refuse_unless x bad_setting → x ≡ true
      tested true q = refl
      tested false q = absurd (omega arith)

      limits : bench_range s ≡ true
      limits = tested (bench_range s) eb

      in-limits : Fits s
      in-limits = bench_fits s limits

      begun : (x : Bool) → bench_range s ≡ x → bad ≡ refuse_unless x bad_setting → cond x fresh-turn (waits bad_setting) ≡ fresh-turn
      begun true q d = refl
      begun false q d = absurd (omega arith)

-- a list of events that adds nothing is none
none_more : (xs ys : List Event) → xs ++ ys ≡ xs → ys ≡ []
none_more xs [] q = refl
none_more xs (y ∷ ys) q = let n = length-append xs (y ∷ ys) in let z = ap length q in absurd (omega arith)

-- a line of a set is a turn of its stage
pub lined_staged : (b : Bench) (l l' : Lent) (out out' : List ℕ) (r : After) (said : Line) (events : List Event) → Fits b.settings
    → bench_range b.settings ≡ true → Lined b l out (plays b.settings (world_in b l) said) r l' out'
    → Staged b l (playing b.settings (world_in b l) events) (turn (playing b.settings (world_in b l) events) said) out r l' out'
unfolding turn stage_of events_of
lined_staged b l l' out out' r said events fits q d =
    let all = events ++ (plays b.settings (world_in b l) said).events in
    let n = ap (λ (s : Settings). s.n) d.settings-kept in
    let some : r.bench.settings.n ≡ 0 → ⊥ = λ z. absurd (omega (arith, n, z, fits.range.code.n-low)) in
    record {
      stage_is = rw (ne_eqb r.bench.settings.n 0 some)
          (ap (λ (s : Settings). playing s (world_in r.bench l') all) d.settings-kept ∙ ap (λ (w : World). playing b.settings w all) d.world_is);
      few = d.few;
      right = rw (ne_eqb r.bench.settings.n 0 some) (ap bench_range d.settings-kept ∙ q);
      text-is = d.text-is;
      used-is = d.used-is;
      within = d.within;
      unmoved-keeps = λ z. d.no-event-keeps (none_more events _ (ap events_of z));
    }
