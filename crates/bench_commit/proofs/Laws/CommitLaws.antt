-- What a committed answer does: refused, too many messages, or kept, sent and printed.
use mathlib.Core.Path.{◌≡◌, refl, sym, ap, ap₂, subst, ◌∙◌}
use mathlib.Core.Bool.{cond}
use mathlib.Core.List.{List, [], ◌∷◌, ◌++◌, append-nil, append_assoc}
use Prim.Native.Nat.{ℕ, zero, suc, ◌+◌, ◌*◌, ◌≤◌, ◌<◌}
use native.Mathlib.Omega.{arith}
use native.Mathlib.Nat.{mul-le-mul_right}
use lib.Dec.{eqb, leb}
use lib.ListN.{length, set, take, length-append}
use borrow.Author.Tests.{eq-eqb, ne_eqb, le-leb, lt-leb}
use Rattle.settings.specs.declared.Settings.{Settings}
use Rattle.message.specs.Kinds.{modify_kind}
use Rattle.message.specs.declared.Message.{Message}
use Rattle.coord_apply.specs.Answers.{Buffered, Broadcast, Step, refused, went, most_broadcasts, answer_of, blocks_after, stripe_after, coded_after}
use Rattle.coord_apply.specs.Answers.{Answer, answer_in}
use Rattle.coord_apply.specs.declared.Answer as Code
use Rattle.coord_record.specs.declared.Coordinator.{Coordinator}
use Rattle.coord_refusals.proofs.Laws.RefusedLaws.{number_positive}
use Rattle.settings.specs.Refusal.{number_of_refusal}
use Rattle.settings.specs.declared.Refusal.{Refusal}
use Rattle.std.specs.Prelude.{Result, Ok, Err, is_ok}
use Rattle.register.specs.Driver.{driven, listed, with_blocks, Short}
use Rattle.register.proofs.Laws.DriverLaws.{coordinated_is_driven}
use Rattle.register.specs.Runs.{Item, World, Event, Moved, step, coordinated, to_all, broadcasts}
use Rattle.bench_print.specs.Printing.{ended_text, printed_into}
use Rattle.bench_sent.proofs.Laws.SentItemLaws.{items_length, coded_long}
use Rattle.bench_sent.specs.Sent.{items_of}
use Rattle.bench_sent.specs.Workers.{Sends, Coded}
use Rattle.bench_state.specs.Workers.{Fits}
use Rattle.bench_state.specs.State.{world_of, coordinator_kept}
use Rattle.bench_state.specs.Workers.{with_coordinator, kept_with}
use Rattle.bench_state.proofs.Laws.StateLaws.{held_put}
use Rattle.bench_state.specs.declared.Bench.{Bench}
use Rattle.bench_rules.specs.Play.{refuses, happens, acts}
use Rattle.bench_rules.specs.Turning.{Lent, lent, world_in}
use Rattle.bench_rules.specs.Workers.{Turned}
use Rattle.bench_rules.proofs.Laws.TurningLaws.{one_event}
use Rattle.bench_rules.specs.declared.After.{After}
use Rattle.bench_commit.specs.Workers.{answered, sent_after_answer}
use Rattle.bench_commit.specs.Workers.{Round, Seats, Copies, Answers}
use Rattle.bench_limits.specs.Limits.{bench_coordinators, last_message, kept_length, line_room}
use Rattle.settings.specs.Refusal.{bad_line}

-- a refusal has a number
abbrev pub Numbered : Step → Type 0
Numbered (refused number) = number ≡ 0 → ⊥
Numbered (went g) = Unit {0}

pub answered_is_acts : (s : Settings) (w : World) (e : Event) (c : ℕ) (p : Step) (old : List ℕ) → Short s.size p → Numbered p → step s w e ≡ coordinated s w c p
    → answered s w e c (answer_of (w.coordinators c).state p) (blocks_after (w.coordinators c) p) (stripe_after (w.coordinators c) p) (coded_after old p)
    ≡ acts s w e c p
unfolding answered acts happens answer_of stripe_after
answered_is_acts s w e c (refused number) old h n q = rw (ne_eqb number 0 n) refl
answered_is_acts s w e c (went g) old h n q =
    ap (λ (m : Moved s). cond (leb (length m.world.sent) last_message) (record { world = m.world; events = e ∷ []; printed = ended_text c g.seen g.next.stripe }) (refuses w bad_line))
    (sym (coordinated_is_driven s w c (went g) old h) ∙ sym q)

-- no broadcast, one, or two
module _ (s : Settings) (sent count : ℕ) (first second : Message) (blocks stripe coded numbers bytes : List ℕ) where
  -- a message to all bricks, with its blocks
  abbrev all_of : Message → List Item
  all_of msg = to_all s (with_blocks s.size msg blocks stripe coded) s.n

  by_count : (k : ℕ) (numbers' bytes' : List ℕ) → count ≡ k → Round s sent k first second blocks stripe coded numbers bytes numbers' bytes'
      → Round s sent count first second blocks stripe coded numbers bytes numbers' bytes'
  by_count k numbers' bytes' e h = subst (λ (j : ℕ). Round s sent j first second blocks stripe coded numbers bytes numbers' bytes') (sym e) h

  pub round_none : count ≡ 0 → Round s sent count first second blocks stripe coded numbers bytes numbers bytes
  unfolding sent_after_answer broadcasts
  round_none e =
      by_count 0 numbers bytes e (record {
        items =
            ap (items_of s.size numbers bytes) (let z : sent + 0 * s.n ≡ sent = omega arith in z)
            ∙ sym (append-nil (items_of s.size numbers bytes sent));
      })

  module _ (numbers' bytes' : List ℕ) (h : Sends sent s.n s.size first blocks stripe coded numbers bytes numbers' bytes') where
    pub round_one : count ≡ 1 → Round s sent count first second blocks stripe coded numbers bytes numbers' bytes'
    unfolding sent_after_answer broadcasts
    round_one e =
        by_count 1 numbers' bytes' e (record {
          items =
              ap (items_of s.size numbers' bytes') (let z : sent + 1 * s.n ≡ sent + s.n = omega arith in z)
              ∙ h.items s refl
              ∙ ap (λ (l : List Item). items_of s.size numbers bytes sent ++ l) (sym (append-nil (all_of first)));
        })

    pub round_two : (numbers'' bytes'' : List ℕ) → Sends (sent + s.n) s.n s.size second blocks stripe coded numbers' bytes' numbers'' bytes'' → count ≡ 2
        → Round s sent count first second blocks stripe coded numbers bytes numbers'' bytes''
    unfolding sent_after_answer broadcasts
    round_two numbers'' bytes'' k e =
        by_count 2 numbers'' bytes'' e (record {
          items =
              ap (items_of s.size numbers'' bytes'') (let z : sent + 2 * s.n ≡ sent + s.n + s.n = omega arith in z)
              ∙ k.items s refl
              ∙ ap (λ (l : List Item). l ++ all_of second) (h.items s refl)
              ∙ append_assoc (items_of s.size numbers bytes sent) (all_of first) (all_of second)
              ∙ ap (λ (l : List Item). items_of s.size numbers bytes sent ++ (all_of first ++ l)) (sym (append-nil (all_of second)));
        })

-- so many messages fit where those of all broadcasts do
pub sent_fits : (n sent count k : ℕ) → k ≤ count → sent_after_answer n sent count ≤ last_message → sent + k * n ≤ last_message
unfolding sent_after_answer
sent_fits n sent count k l h = let m = mul-le-mul_right n l in omega arith

-- the buffers have the blocks of a message that names none but a block of the stripe
pub lent_blocks : (s : Settings) (msg : Message) (blocks stripe coded : List ℕ) → Fits s → Copies s blocks stripe coded → (msg.kind ≡ modify_kind → msg.block < s.m)
    → Coded s.n s.size msg blocks stripe coded
lent_blocks s msg blocks stripe coded f c low =
    coded_long s.n s.m s.size msg blocks stripe coded (let q = mul-le-mul_right s.size f.range.code.m-high in omega (arith, q, c.blocks-long))
    (omega (arith, c.stripe-long)) (omega (arith, c.coded-long)) low

pub sent_bound : (n count : ℕ) → count ≤ most_broadcasts → count * n ≤ most_broadcasts * n
sent_bound n count h = mul-le-mul_right n h

to_all_length : (s : Settings) (b : Broadcast) (k : ℕ) → length (to_all s b k) ≡ k
unfolding to_all
to_all_length s b zero = refl
to_all_length s b (suc k) = length-append (to_all s b k) _ ∙ (let e = to_all_length s b k in omega arith)

-- what an answer lists goes to n bricks each
listed_length : (s : Settings) (k : ℕ) (first second : Broadcast) → k ≤ most_broadcasts
    → length (broadcasts s (take k (first ∷ second ∷ []))) ≡ k * s.n
unfolding broadcasts
listed_length s zero first second h = omega arith
listed_length s (suc zero) first second h =
    let e = to_all_length s first s.n in
    length-append (to_all s first s.n) [] ∙ (omega arith)
listed_length s (suc (suc zero)) first second h =
    let e = to_all_length s first s.n in
    let f = to_all_length s second s.n in
    let g = length-append (to_all s second s.n) [] in
    length-append (to_all s first s.n) _ ∙ (omega arith)
listed_length s (suc (suc (suc k))) first second h = absurd (omega arith)

-- the number of messages is known before anything is sent
module _ (b : Bench) (l : Lent) (e : Event) (c : ℕ) (a : Answer) (blocks stripe coded : List ℕ) where
  abbrev made : World
  made = (driven b.settings (world_in b l) c a blocks stripe coded).world

  made_sent : a.sent ≤ most_broadcasts → length made.sent ≡ sent_after_answer b.settings.n b.sent a.sent
  unfolding driven listed world_in world_of sent_after_answer
  made_sent h =
      length-append (items_of b.settings.size l.numbers l.bytes b.sent) _
      ∙ ap₂ ◌+◌ (items_length b.settings.size l.numbers l.bytes b.sent)
      (listed_length b.settings a.sent _ _ h)

  -- refused with its number
  pub answered_refused : (at : ℕ) (out out' : List ℕ) (r : After) → (a.refusal ≡ 0 → ⊥)
      → Turned b l at out (refuses (world_in b l) a.refusal) r l out' → Turned b l at out (answered b.settings (world_in b l) e c a blocks stripe coded) r l out'
  unfolding answered
  answered_refused at out out' r n t = rw (ne_eqb a.refusal 0 n) t

  -- too many messages
  pub answered_past : (at sent : ℕ) (out out' : List ℕ) (r : After) → a.sent ≤ most_broadcasts → a.refusal ≡ 0 → sent ≡ sent_after_answer b.settings.n b.sent a.sent → last_message < sent
      → Turned b l at out (refuses (world_in b l) bad_line) r l out' → Turned b l at out (answered b.settings (world_in b l) e c a blocks stripe coded) r l out'
  unfolding answered
  answered_past at sent out out' r most z q h t =
      rw (eq-eqb a.refusal 0 z, lt-leb (length made.sent) last_message (let m = made_sent most in omega arith)) t

  -- kept, sent and printed
  pub answered_kept : (at sent used : ℕ) (out out' kept' numbers' bytes' : List ℕ) → a.sent ≤ most_broadcasts → a.refusal ≡ 0 → sent ≡ sent_after_answer b.settings.n b.sent a.sent →
      sent ≤ last_message
      → Fits b.settings → c < bench_coordinators → length b.coordinators ≡ bench_coordinators → length l.kept ≡ kept_length
      → length blocks ≡ b.settings.n * b.settings.size → length stripe ≡ b.settings.m * b.settings.size
      → Round b.settings b.sent a.sent a.message a.second blocks stripe coded l.numbers l.bytes numbers' bytes'
      → kept' ≡ kept_with c blocks stripe l.kept
      → used ≡ at + length (ended_text c a.seen stripe) → out' ≡ printed_into at (ended_text c a.seen stripe) out → used ≤ at + line_room
      → Turned b l at out (answered b.settings (world_in b l) e c a blocks stripe coded) (record { bench = with_coordinator b c a.next sent; used = used })
      (lent l.images kept' numbers' bytes') out'
  unfolding answered with_coordinator world_in world_of driven listed
  answered_kept at sent used out out' kept' numbers' bytes' most z q few fits low four long eb es round ek eu eo short =
      rw (eq-eqb a.refusal 0 z, le-leb (length made.sent) last_message (let m = made_sent most in omega arith))
      (record {
        world_is = ap₂ make
            (ap (coordinator_kept b.settings (set b.coordinators c a.next)) ek ∙ held_put b.settings fits.small b.coordinators l.kept blocks stripe c a.next low four long eb es)
            (ap (items_of b.settings.size numbers' bytes') q ∙ round.items);
        settings-kept = refl;
        few = few;
        text-is = eo;
        used-is = eu;
        short = short;
        no-event-keeps = λ z. absurd (one_event e z);
      })
    where
      make : (ℕ → Buffered) → List Item → World
      make f items = record { images = (world_in b l).images; up = (world_in b l).up; coordinators = f; sent = items }

module _ (b : Bench) (c : ℕ) (a : Answer) (blocks stripe coded kept numbers bytes : List ℕ) (at : ℕ) (out : List ℕ)
    (seats : Seats b c kept numbers bytes at out) where
  pub answers_refused : (out' : List ℕ) (r : After) → (a.refusal ≡ 0 → ⊥)
      → ((l : Lent) → Turned b l at out (refuses (world_in b l) a.refusal) r l out') → Answers b c a blocks stripe coded kept numbers bytes at out r kept numbers bytes out'
  answers_refused out' r n t =
      record { turned = λ images e. answered_refused b (lent images kept numbers bytes) e c a blocks stripe coded at out out' r n (t (lent images kept numbers bytes)) }

  pub answers_past : (sent : ℕ) (out' : List ℕ) (r : After) → a.sent ≤ most_broadcasts → a.refusal ≡ 0 → sent ≡ sent_after_answer b.settings.n b.sent a.sent → last_message < sent
      → ((l : Lent) → Turned b l at out (refuses (world_in b l) bad_line) r l out') → Answers b c a blocks stripe coded kept numbers bytes at out r kept numbers bytes out'
  answers_past sent out' r most z q h t =
      record { turned = λ images e. answered_past b (lent images kept numbers bytes) e c a blocks stripe coded at sent out out' r most z q h (t (lent images kept numbers bytes)) }

  pub answers_kept : (sent used : ℕ) (bench : Bench) (out' kept' numbers' bytes' : List ℕ) → Copies b.settings blocks stripe coded
      → a.sent ≤ most_broadcasts → a.refusal ≡ 0 → sent ≡ sent_after_answer b.settings.n b.sent a.sent → sent ≤ last_message
      → Round b.settings b.sent a.sent a.message a.second blocks stripe coded numbers bytes numbers' bytes'
      → kept' ≡ kept_with c blocks stripe kept
      → used ≡ at + length (ended_text c a.seen stripe) → out' ≡ printed_into at (ended_text c a.seen stripe) out → used ≤ at + line_room
      → bench ≡ with_coordinator b c a.next sent → length b.coordinators ≡ bench_coordinators
      → Answers b c a blocks stripe coded kept numbers bytes at out (record { bench = bench; used = used }) kept' numbers' bytes' out'
  answers_kept sent used bench out' kept' numbers' bytes' copies most z q few round ek eu eo short eb four =
      record {
        turned = λ images e.
            subst
            (λ (x : Bench). Turned b (lent images kept numbers bytes) at out (answered b.settings (world_in b (lent images kept numbers bytes)) e c a blocks stripe coded)
            (record { bench = x; used = used }) (lent images kept' numbers' bytes') out')
            (sym eb)
            (answered_kept b (lent images kept numbers bytes) e c a blocks stripe coded at sent used out out' kept' numbers' bytes' most z q few seats.fits seats.low four
            seats.kept-long copies.blocks-long copies.stripe-long round ek eu eo short);
      }

-- an answer that is no refusal has the number of none
pub passed_is_ok : (x : Result Code.Answer Refusal) (old : Coordinator) → is_ok x ≡ eqb (answer_in old x).refusal 0
passed_is_ok (Ok a) old = refl
passed_is_ok (Err r) old = sym (ne_eqb (number_of_refusal r) 0 (λ z. let p = number_positive r in omega arith))
