-- A carried number, and the numbers of a line one after the other, with what the callees gave as variables.
use mathlib.Core.Path.{◌≡◌, refl, sym, ap, ap₂, subst, ◌∙◌}
use mathlib.Core.List.{List, [], ◌∷◌, ◌++◌, append-nil, append_assoc}
use Prim.Native.Nat.{ℕ, zero, suc, ◌+◌, ◌-◌, ◌≤◌, ◌<◌}
use native.Mathlib.Omega.{arith}
use native.Mathlib.Decide.{dec_lt}
use native.Mathlib.Nat.{not-suc-le-zero}
use lib.ListN.{length, length-append}
use Rattle.settings.specs.declared.Settings.{Settings}
use Rattle.bench_commit.specs.Workers.{Seats}
use Rattle.bench_parse.proofs.Laws.CallerLaws.{rest_first, rest_next, rest_splits, rest_none}
use Rattle.bench_parse.specs.Lines.{longest, numbers_of}
use Rattle.bench_parse.specs.Workers.{words_from, CarryFrom, NumberAt}
use Rattle.bench_parse.specs.declared.Number.{Number}
use Rattle.bench_rules.specs.Play.{Played, refuses, passes, carries, carries_at, carried, and_then, carried_all}
use Rattle.bench_rules.specs.Turning.{Lent, world_in}
use Rattle.bench_rules.specs.Workers.{BenchReady, Turned, Lined}
use Rattle.bench_rules.specs.declared.After.{After}
use Rattle.bench_print.specs.Printing.{printed_into}
use Rattle.bench_print.proofs.Laws.WrittenLaws.{written_nothing, written_both}
use Rattle.bench_sent.proofs.Laws.SentItemLaws.{items_length}
use Rattle.bench_sent.specs.Sent.{items_of, item_at}
use Rattle.bench_state.specs.Workers.{Fits}
use Rattle.bench_state.specs.State.{world_of}
use Rattle.bench_state.specs.declared.Bench.{Bench}
use Rattle.register.specs.Runs.{Item, World, Event}
use Rattle.bench_carry.specs.Workers.{Carrying}
use Rattle.bench_limits.specs.Limits.{line_room, text_length}
use Rattle.settings.specs.Refusal.{bad_line}

-- the item at a place is the one in its row
carries_append : (s : Settings) (w : World) (k : ℕ) (l : List Item) (i : Item) (j : ℕ) → j < length l → carries_at s w k (l ++ i ∷ []) j ≡ carries_at s w k l j
unfolding carries_at
carries_append s w k [] i j h = absurd (not-suc-le-zero h)
carries_append s w k (x ∷ l) i zero h = refl
carries_append s w k (x ∷ l) i (suc j) h = carries_append s w k l i j (omega arith)

carries_last : (s : Settings) (w : World) (k : ℕ) (l : List Item) (i : Item) (j : ℕ) → length l ≡ j → carries_at s w k (l ++ i ∷ []) j ≡ carries s w k i
unfolding carries_at
carries_last s w k [] i zero h = refl
carries_last s w k [] i (suc j) h = absurd (omega arith)
carries_last s w k (x ∷ l) i zero h = absurd (omega arith)
carries_last s w k (x ∷ l) i (suc j) h = carries_last s w k l i j (omega arith)

carries_none : (s : Settings) (w : World) (k : ℕ) (l : List Item) (j : ℕ) → length l ≤ j → carries_at s w k l j ≡ refuses w bad_line
unfolding carries_at
carries_none s w k [] j h = refl
carries_none s w k (x ∷ l) zero h = absurd (omega arith)
carries_none s w k (x ∷ l) (suc j) h = carries_none s w k l j (omega arith)

carries_item : (s : Settings) (w : World) (place size : ℕ) (numbers bytes : List ℕ) (k j : ℕ) → j < k
    → carries_at s w place (items_of size numbers bytes k) j ≡ carries s w place (item_at size numbers bytes j)
unfolding items_of
carries_item s w place size numbers bytes zero j h = absurd (omega arith)
carries_item s w place size numbers bytes (suc k) j h = go (dec_lt j k) (carries_item s w place size numbers bytes k j)
  where
    go : Dec (j < k) → (j < k → carries_at s w place (items_of size numbers bytes k) j ≡ carries s w place (item_at size numbers bytes j))
        → carries_at s w place (items_of size numbers bytes k ++ item_at size numbers bytes k ∷ []) j ≡ carries s w place (item_at size numbers bytes j)
    go (yes l) ih =
        carries_append s w place (items_of size numbers bytes k) (item_at size numbers bytes k) j (let e = items_length size numbers bytes k in omega arith) ∙ ih l
    go (no l) ih =
        let e : j ≡ k = omega arith in
        carries_last s w place (items_of size numbers bytes k) (item_at size numbers bytes k) j (items_length size numbers bytes k ∙ sym e)
        ∙ ap (λ (i : ℕ). carries s w place (item_at size numbers bytes i)) (sym e)

module _ (b : Bench) (l : Lent) (at : ℕ) (out : List ℕ) (r : After) (l' : Lent) (out' : List ℕ) where
  -- number 0, and one that is not sent yet
  pub carried_zero : (number : ℕ) → number ≡ 0 → Turned b l at out (refuses (world_in b l) bad_line) r l' out'
      → Turned b l at out (carried b.settings (world_in b l) number) r l' out'
  unfolding carried
  carried_zero zero e t = t
  carried_zero (suc k) e t = absurd (omega arith)

  pub carried_past : (number : ℕ) → b.sent < number → Turned b l at out (refuses (world_in b l) bad_line) r l' out'
      → Turned b l at out (carried b.settings (world_in b l) number) r l' out'
  unfolding carried world_in world_of
  carried_past zero e t = absurd (omega arith)
  carried_past (suc k) e t =
      subst (λ (p : Played). Turned b l at out p r l' out')
      (sym (carries_none b.settings (world_in b l) k (items_of b.settings.size l.numbers l.bytes b.sent) k
      (let q = items_length b.settings.size l.numbers l.bytes b.sent in omega arith)))
      t

  -- one that is sent
  pub carried_item : (number k : ℕ) → (number ≡ 0 → ⊥) → number ≤ b.sent → k ≡ number - 1
      → Turned b l at out (carries b.settings (world_in b l) k (item_at b.settings.size l.numbers l.bytes k)) r l' out'
      → Turned b l at out (carried b.settings (world_in b l) number) r l' out'
  unfolding carried world_in world_of
  carried_item zero k z h e t = absurd (z refl)
  carried_item (suc j) k z h e t =
      let q : k ≡ j = omega arith in
      subst (λ (p : Played). Turned b l at out p r l' out')
      (ap (λ (i : ℕ). carries b.settings (world_in b l) i (item_at b.settings.size l.numbers l.bytes i)) q
      ∙ sym (carries_item b.settings (world_in b l) j b.settings.size l.numbers l.bytes b.sent j (omega arith)))
      t

-- two lists of events that are none together are none each
none_before : (xs ys : List Event) → xs ++ ys ≡ [] → xs ≡ []
none_before [] ys q = refl
none_before (x ∷ xs) ys q = let z = ap length q in absurd (omega arith)

none_behind : (xs ys : List Event) → xs ++ ys ≡ [] → ys ≡ []
none_behind xs ys q = ap (λ (l : List Event). l ++ ys) (sym (none_before xs ys q)) ∙ q

module _ (b : Bench) (l : Lent) (line : List ℕ) (first : ℕ) (out : List ℕ) where
  pub carrying_first : BenchReady b l → CarryFrom line first → Carrying b l line first out first (record { bench = b; used = 0 }) l out
  carrying_first ready c =
      record {
        text = [];
        happened = [];
        ready = ready;
        settings-kept = refl;
        out-long = refl;
        text-is = sym (written_nothing 0 out);
        used-is = refl;
        room = omega arith;
        rest = rest_first line first c;
        world-so = refl;
        printed-so = refl;
        events-so = refl;
        no-event-keeps = λ q. (refl, refl);
      }

  -- one number more
  pub carrying_next : (place : ℕ) (r r' : After) (l' l'' : Lent) (out' out'' : List ℕ) (k : Number) → place ≤ length line → length out ≡ text_length
      → Carrying b l line first out place r l' out' → NumberAt line place k
      → Turned r.bench l' r.used out' (carried r.bench.settings (world_in r.bench l') k.value) r' l'' out''
      → length l''.images ≡ length l'.images → length l''.kept ≡ length l'.kept → length l''.numbers ≡ length l'.numbers
      → length l''.bytes ≡ length l'.bytes → length out'' ≡ length out'
      → Carrying b l line first out (k.end + 1) r' l'' out''
  unfolding carried_all and_then
  carrying_next place r r' l' l'' out' out'' k h long c n t ei ek en eb eo =
      let s = b.settings in
      let p = carried s (world_in r.bench l') k.value in
      let later = numbers_of (words_from line (k.end + 1)) in
      let split = rest_splits line place k h n in
      let same : carried r.bench.settings (world_in r.bench l') k.value ≡ p = ap (λ (x : Settings). carried x (world_in r.bench l') k.value) c.settings-kept in
      let now-at : world_in r'.bench l'' ≡ p.world = t.world_is ∙ ap (λ (x : Played). x.world) same in
      record {
        text = c.text ++ p.printed;
        happened = c.happened ++ p.events;
        ready = record {
          fits = subst Fits (sym t.settings-kept) c.ready.fits;
          few = t.few;
          images-long = ei ∙ c.ready.images-long;
          kept-long = ek ∙ c.ready.kept-long;
          numbers-long = en ∙ c.ready.numbers-long;
          bytes-long = eb ∙ c.ready.bytes-long;
        };
        settings-kept = t.settings-kept ∙ c.settings-kept;
        out-long = eo ∙ c.out-long;
        text-is =
            t.text-is
            ∙ ap (λ (x : Played). printed_into r.used x.printed out') same
            ∙ ap₂ (λ (u : ℕ) (o : List ℕ). printed_into u p.printed o) c.used-is c.text-is
            ∙ ap (λ (u : ℕ). printed_into u p.printed (printed_into 0 c.text out)) (let e : length c.text ≡ 0 + length c.text = omega arith in e)
            ∙ written_both 0 c.text p.printed out (omega arith);
        used-is =
            t.used-is ∙ ap (λ (x : Played). r.used + length x.printed) same ∙ ap (λ (u : ℕ). u + length p.printed) c.used-is
            ∙ sym (length-append c.text p.printed);
        room = (let a = t.short in let d = c.room in let e = n.starts in omega arith);
        rest = rest_next line place k n;
        world-so =
            c.world-so ∙ ap (λ (ks : List ℕ). (carried_all s (world_in r.bench l') ks).world) split
            ∙ ap (λ (w : World). (carried_all s w later).world) (sym now-at);
        printed-so =
            c.printed-so ∙ ap (λ (ks : List ℕ). c.text ++ (carried_all s (world_in r.bench l') ks).printed) split
            ∙ ap (λ (w : World). c.text ++ (p.printed ++ (carried_all s w later).printed)) (sym now-at)
            ∙ sym (append_assoc c.text p.printed _);
        events-so =
            c.events-so ∙ ap (λ (ks : List ℕ). c.happened ++ (carried_all s (world_in r.bench l') ks).events) split
            ∙ ap (λ (w : World). c.happened ++ (p.events ++ (carried_all s w later).events)) (sym now-at)
            ∙ sym (append_assoc c.happened p.events _);
        no-event-keeps = λ q.
            (let before = c.no-event-keeps (none_before c.happened p.events q) in
            let after = t.no-event-keeps (ap (λ (x : Played). x.events) same ∙ none_behind c.happened p.events q) in
            (after.0 ∙ before.0, after.1 ∙ before.1));
      }

  -- no number is left
  pub carrying_done : (place : ℕ) (r : After) (l' : Lent) (out' : List ℕ) → length line < place → length line ≤ longest
      → Carrying b l line first out place r l' out'
      → Lined b l out (carried_all b.settings (world_in b l) (numbers_of (words_from line first))) r l' out'
  unfolding carried_all passes
  carrying_done place r l' out' h short c =
      let s = b.settings in
      let none = rest_none line place h in
      let all : (carried_all s (world_in b l) (numbers_of (words_from line first))).printed ≡ c.text =
      c.printed-so ∙ ap (λ (ks : List ℕ). c.text ++ (carried_all s (world_in r.bench l') ks).printed) none ∙ append-nil c.text
      in
      let events-all : (carried_all s (world_in b l) (numbers_of (words_from line first))).events ≡ c.happened =
      c.events-so ∙ ap (λ (ks : List ℕ). c.happened ++ (carried_all s (world_in r.bench l') ks).events) none ∙ append-nil c.happened
      in
      record {
        world_is = sym (c.world-so ∙ ap (λ (ks : List ℕ). (carried_all s (world_in r.bench l') ks).world) none);
        settings-kept = c.settings-kept;
        few = c.ready.few;
        text-is = c.text-is ∙ ap (λ (x : List ℕ). printed_into 0 x out) (sym all);
        used-is = c.used-is ∙ ap length (sym all);
        within = (let a = c.room in let d = c.rest.high in omega arith);
        no-event-keeps = λ q. c.no-event-keeps (sym events-all ∙ q);
      }

-- what the parts of a carried number ask, of a set that is ready
pub ready_seats : (b : Bench) (l : Lent) (at : ℕ) (out : List ℕ) → BenchReady b l → at + line_room ≤ length out → Seats b 0 l.kept l.numbers l.bytes at out
ready_seats b l at out r h =
    record {
      fits = r.fits;
      few = r.few;
      low = omega arith;
      kept-long = r.kept-long;
      numbers-long = r.numbers-long;
      bytes-long = r.bytes-long;
      room = h;
    }
