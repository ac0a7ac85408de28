-- Every line, part by part.
use mathlib.Core.Path.{◌≡◌, refl, sym, ap, ap₂, subst, ◌∙◌}
use mathlib.Core.Bool.{Bool, true, false, cond}
use mathlib.Core.List.{List, [], ◌∷◌, ◌++◌, append-nil}
use Prim.Native.Nat.{ℕ, zero, suc, ◌*◌, ◌≤◌, ◌<◌}
use native.Mathlib.Omega.{arith}
use lib.Dec.{leb, ltb}
use lib.ListN.{length, length-append, replicate}
use borrow.Author.Tests.{leb-true, ltb-true}
use Rattle.settings.specs.Refusal.{bad_number, bad_line}
use Rattle.settings.specs.declared.Settings.{Settings}
use Rattle.message.specs.declared.Message.{Message}
use Rattle.message.specs.declared.Reply.{Reply}
use Rattle.brick.specs.Receive.{Outcome}
use Rattle.volume.specs.Rows.{row_outcome}
use Rattle.brick.specs.Receive.{Given}
use Rattle.brick.specs.Receive.{Answered, Silent, Refused}
use Rattle.coord_apply.specs.Answers.{Step, refused, went, Went}
use Rattle.coordinator.specs.Routines.{write_step}
use Rattle.order.specs.Claim.{Ending, Seen}
use Rattle.register.specs.Runs.{plain, Item, message, reply, World, untouched, Event, start_write, start_read, arrives, crashes, goes_down}
use Rattle.register.specs.Runs.{comes_up, Moved, unmoved, coordinated, seen_of, replied_with, received}
use Rattle.register.specs.Runs.{arriving, arriving_at, standing, step}
use Rattle.register.specs.RunLetters.{step_letter, arriving_letter, arriving_letter_at, letter_at}
use Rattle.register.proofs.Laws.DriverLaws.{left_untouched}
use Rattle.register.proofs.Laws.StripeViewLaws.{shown_here, shown_there}
use Rattle.bench_parse.specs.Lines.{Line, set_line, write_line, read_line, carry_line, crash_line, down_line, up_line, no_line}
use Rattle.bench_print.specs.Printing.{ended_text}
use Rattle.bench_rules.specs.Content.{content, counted}
use Rattle.bench_rules.proofs.Laws.ContentLaws.{content_small}
use Rattle.byte_lists.proofs.Laws.LittleLaws.{bytes_pass}
use Rattle.bench_rules.specs.Play.{Played, refuses, passes, happens, acts, at_coordinator, unless_short, writes, starts}
use Rattle.bench_rules.specs.Play.{crashes_at, switches, delivered, reaches, carries, carries_at, carried, carried_all, plays}
use Rattle.bench_order.specs.Report.{whole_line, one_number, each_number, parts_of, plays_part}
use Rattle.bench_order.specs.ScriptTheorem.{starts_on_block}
use Rattle.bench_order.proofs.Laws.ToldLaws.{told}
use Rattle.bench_order.proofs.Laws.WholeStripeLaws.{WholeStripes, does_whole}
use Rattle.bench_order.proofs.Laws.Parts.{FewSent, Ran, Does, refusing, passing, happening, Parts, none, one, both}
use Rattle.bench_order.proofs.Laws.PrintedLaws.{Agrees, printed_is_seen, end_ran, take_agrees, crash_agrees, write_agrees, read_agrees}
use Rattle.bench_limits.specs.Limits.{bench_stripes, bench_stripe, bench_coordinators, last_message}
use Rattle.settings.specs.Times.{coordinator_of}

-- a write whose digits are not counted right never starts
unless_went : (ok : Bool) (st : Step) (g : Went) → unless_short ok st ≡ went g → st ≡ went g
unfolding unless_short
unless_went ok (refused number) g e = e
unless_went true (went v) g e = e
unless_went false (went v) g e = absurd (let z : ◌≡◌ {A = ℕ} 0 1 = cc in omega arith)

module _ (s : Settings) (w : World) (one-stripe : s.stripes ≡ bench_stripes) (whole : WholeStripes w) where
  -- an event that prints what is seen at it
  printing : (e : Event) (c kind : ℕ) (text : List ℕ) → starts_on_block e ≡ false → told s c kind (letter_at s w e) ((step s w e).seen bench_stripe) ≡ text → (FewSent w → FewSent (step s w e).world)
      → ((time : ℕ) (how : Ending (plain s)) → (step s w e).seen bench_stripe ≡ Seen.ended time how ∷ [] → Ran (w.coordinators c).state.op kind time)
      → ((stripe : ℕ) → (stripe ≡ bench_stripe → ⊥) → (step s w e).seen stripe ≡ [])
      → Does s w (happens s w e text)
  printing e c kind text n q f o z = subst (λ (l : List ℕ). Does s w (happens s w e l)) q (happening e c kind n f o z)

  -- an event at a coordinator
  acts_does : (e : Event) (c : ℕ) (st : Step) → starts_on_block e ≡ false
      → ((g : Went) → st ≡ went g → (step s w e ≡ coordinated s w c (went g)) × (letter_at s w e ≡ g.seen.letter) × Agrees (w.coordinators c).state.op g.seen)
      → Does s w (acts s w e c st)
  unfolding acts coordinated FewSent
  acts_does e c (refused number) n f = refusing number
  acts_does e c (went g) n f = go (leb (length (step s w e).world.sent) last_message) refl
    where
      agrees : Agrees (w.coordinators c).state.op g.seen
      agrees = (f g refl).2

      here : (step s w e).seen bench_stripe ≡ seen_of s g.seen g.next
      here = ap (λ (v : Moved s). v.seen bench_stripe) (f g refl).0 ∙ shown_here g.seen.stripe bench_stripe _ (sym agrees.on-stripe)

      go : (b : Bool) → leb (length (step s w e).world.sent) last_message ≡ b
          → Does s w (cond b (happens s w e (ended_text c g.seen g.next.stripe)) (refuses w bad_line))
      go true q =
          printing e c g.seen.kind _ n
          (ap₂ (told s c g.seen.kind) (f g refl).1 here ∙ printed_is_seen s (w.coordinators c).state.op c g.seen g.next agrees)
          (λ h. leb-true _ last_message q)
          (λ time how z. end_ran s (w.coordinators c).state.op g.seen g.next time how agrees (sym here ∙ z))
          (λ k o. ap (λ (v : Moved s). v.seen k) (f g refl).0 ∙ shown_there g.seen.stripe k _ (λ z. o (z ∙ agrees.on-stripe)))
      go false q = refusing bad_line

  at_does : (c : ℕ) (p : Played) → Does s w p → Does s w (at_coordinator w c p)
  unfolding at_coordinator
  at_does c p h = go (ltb c bench_coordinators)
    where
      go : (b : Bool) → Does s w (cond b p (refuses w bad_number))
      go true = h
      go false = refusing bad_number

  writes_does : (c clock : ℕ) (digits : List ℕ) → Does s w (writes s w c clock digits)
  unfolding writes step starts_on_block letter_at step_letter
  writes_does c clock digits =
      at_does c _
      (acts_does (start_write c bench_stripe clock (content s digits)) c _ refl
      (λ g q.
      let e = unless_went (counted s digits) (write_step s.n s.m s.size s.stripes (w.coordinators c) bench_stripe clock (content s digits)) g q in (
        rw (bytes_pass (content s digits) (content_small s digits)) (ap (coordinated s w c) e),
        rw (bytes_pass (content s digits) (content_small s digits)) (ap step_letter e),
        write_agrees s.n s.m s.size s.stripes (w.coordinators c) clock (content s digits) g e,
      )))

  starts_does : (c clock brick : ℕ) → Does s w (starts s w c clock brick)
  unfolding starts step starts_on_block letter_at step_letter
  starts_does c clock brick =
      at_does c _
      (acts_does (start_read c bench_stripe clock brick) c _ refl
      (λ g e. (ap (coordinated s w c) e, ap step_letter e, read_agrees s.n s.m s.size s.stripes (w.coordinators c) clock brick g e)))

  crashes_does : (c : ℕ) → Does s w (crashes_at s w c)
  unfolding crashes_at step starts_on_block letter_at step_letter
  crashes_does c =
      at_does c _
      (acts_does (crashes c untouched) c _ refl
      (λ g e. (ap (coordinated s w c) (left_untouched s _ ∙ e), ap step_letter e, crash_agrees s.n s.m s.size s.stripes one-stripe (w.coordinators c) (whole c) g e)))

  -- nothing is seen, and no message is sent past 127
  abbrev Quiet : Moved s → Type 0
  Quiet m = ((stripe : ℕ) → m.seen stripe ≡ []) × (FewSent w → FewSent m.world)

  either_quiet : (t : Bool) (x y : Moved s) → Quiet x → Quiet y → Quiet (cond t x y)
  either_quiet true x y p q = p
  either_quiet false x y p q = q

  quiet : (e : Event) → starts_on_block e ≡ false → Quiet (step s w e) → Does s w (happens s w e [])
  unfolding told
  quiet e b q =
      printing e 0 0 [] b (ap (told s 0 0 (letter_at s w e)) (q.0 bench_stripe)) q.1
      (λ time how z. absurd (let l : ◌≡◌ {A = ℕ} 0 1 = ap length (sym (q.0 bench_stripe) ∙ z) in omega arith))
      (λ stripe n. q.0 stripe)

  -- a brick goes down or comes up
  standing_quiet : (b : ℕ) (how : Bool) → Quiet (standing s w b how)
  unfolding standing unmoved FewSent
  standing_quiet b how = either_quiet (ltb b s.n) _ _ ((λ stripe. refl), λ h. h) ((λ stripe. refl), λ h. h)

  switches_does : (b : ℕ) (e : Event) → starts_on_block e ≡ false → Quiet (step s w e) → Does s w (switches s w b e)
  unfolding switches
  switches_does b e n q = go (ltb b s.n)
    where
      go : (t : Bool) → Does s w (cond t (happens s w e []) (refuses w bad_number))
      go true = quiet e n q
      go false = refusing bad_number

  -- a message at its brick
  received_quiet : (b : ℕ) (o : Outcome) → ((r : Reply) → o.given ≡ Answered r → length w.sent < last_message) → Quiet (received s w b o)
  unfolding received replied_with FewSent
  received_quiet b o f = ((λ stripe. refl), λ h. go o.given refl h)
    where
      go : (a : Given) → o.given ≡ a → length w.sent ≤ last_message → length (w.sent ++ replied_with a o.out) ≤ last_message
      go (Answered r) q h = rw (length-append w.sent (reply r o.out ∷ [])) (let z = f r q in omega arith)
      go Silent q h = rw (append-nil w.sent) h
      go (Refused number) q h = rw (append-nil w.sent) h

  -- a reply has room, else the message is refused
  delivered_does : (k b : ℕ) (o : Outcome) → step s w (arrives k) ≡ received s w b o → Does s w (delivered s w k o.given)
  unfolding delivered starts_on_block
  delivered_does k b o e = go o.given refl
    where
      quietly : ((r : Reply) → o.given ≡ Answered r → length w.sent < last_message) → Quiet (step s w (arrives k))
      quietly f = rw e (received_quiet b o f)

      answered : (t : Bool) → ltb (length w.sent) last_message ≡ t → Does s w (cond t (happens s w (arrives k) []) (refuses w bad_line))
      answered true h = quiet (arrives k) refl (quietly (λ r q. ltb-true (length w.sent) last_message h))
      answered false h = refusing bad_line

      go : (a : Given) → o.given ≡ a → Does s w (delivered s w k a)
      go (Answered r) q = answered (ltb (length w.sent) last_message) refl
      go Silent q = quiet (arrives k) refl (quietly (λ r p. (let z : ◌≡◌ {A = ℕ} 0 1 = cc in absurd (omega arith))))
      go (Refused number) q = refusing number

  reaches_does : (k b : ℕ) (msg : Message) (block old : List ℕ)
      → step s w (arrives k) ≡ received s w b (row_outcome s b (w.images b) msg block old (replicate s.size 0)) → Does s w (reaches s w k b msg block old)
  unfolding reaches
  reaches_does k b msg block old e = delivered_does k b (row_outcome s b (w.images b) msg block old (replicate s.size 0)) e

  -- an item, carried as item k of all
  carries_does : (k : ℕ) (i : Item) → step s w (arrives k) ≡ arriving s w i → letter_at s w (arrives k) ≡ arriving_letter s w i → Does s w (carries s w k i)
  unfolding carries arriving starts_on_block arriving_letter step_letter
  carries_does k (message b msg block old) e l = go (ltb b s.n) (w.up b) refl
    where
      go : (t u : Bool) → w.up b ≡ u
          → Does s w (cond t (cond u (reaches s w k b msg block old) (passes w)) (refuses w bad_number))
      go true true q = reaches_does k b msg block old (rw q at e)
      go true false q = passing
      go false u q = refusing bad_number
  carries_does k (reply r block) e l =
      at_does (coordinator_of r.time) _
      (acts_does (arrives k) (coordinator_of r.time) _ refl
      (λ g q. (
        e ∙ ap (coordinated s w (coordinator_of r.time)) q,
        l ∙ ap step_letter q,
        take_agrees s.n s.m s.size s.stripes one-stripe (w.coordinators (coordinator_of r.time)) (whole (coordinator_of r.time)) r block (s.n * s.size) g q,
      )))

  carries_at_does : (k : ℕ) (l : List Item) (j : ℕ) → step s w (arrives k) ≡ arriving_at s w l j → letter_at s w (arrives k) ≡ arriving_letter_at s w l j
      → Does s w (carries_at s w k l j)
  unfolding carries_at arriving_at arriving_letter_at
  carries_at_does k [] j e d = refusing bad_line
  carries_at_does k (i ∷ l) zero e d = carries_does k i e d
  carries_at_does k (i ∷ l) (suc j) e d = carries_at_does k l j e d

  carried_does : (k : ℕ) → Does s w (carried s w k)
  unfolding carried step letter_at
  carried_does zero = refusing bad_line
  carried_does (suc k) = carries_at_does k w.sent k refl refl

carried_all_parts : (s : Settings) (w : World) → s.stripes ≡ bench_stripes → WholeStripes w → (ks : List ℕ) → Parts s w (each_number ks) (carried_all s w ks)
unfolding carried_all each_number plays_part
carried_all_parts s w z h [] = none w
carried_all_parts s w z h (k ∷ ks) =
    let d = carried_does s w z h k in
    both w (one_number k ∷ []) (each_number ks) (carried s w k) _ (one w (one_number k) d) (carried_all_parts s (carried s w k).world z (does_whole s w (carried s w k) d h) ks)

-- EVERY LINE IS PLAYED PART BY PART.
pub every_line_by_parts : (s : Settings) (w : World) → s.stripes ≡ bench_stripes → WholeStripes w → (line : Line) → Parts s w (parts_of line) (plays s w line)
unfolding plays step parts_of plays_part starts_on_block
every_line_by_parts s w z h (set_line n m size capacity) = one w (whole_line (set_line n m size capacity)) (refusing bad_line)
every_line_by_parts s w z h (write_line c clock digits) = one w (whole_line (write_line c clock digits)) (writes_does s w z h c clock digits)
every_line_by_parts s w z h (read_line c clock brick) = one w (whole_line (read_line c clock brick)) (starts_does s w z h c clock brick)
every_line_by_parts s w z h (carry_line messages) = carried_all_parts s w z h messages
every_line_by_parts s w z h (crash_line c) = one w (whole_line (crash_line c)) (crashes_does s w z h c)
every_line_by_parts s w z h (down_line b) = one w (whole_line (down_line b)) (switches_does s w z h b (goes_down b) refl (standing_quiet s w z h b false))
every_line_by_parts s w z h (up_line b) = one w (whole_line (up_line b)) (switches_does s w z h b (comes_up b) refl (standing_quiet s w z h b true))
every_line_by_parts s w z h no_line = one w (whole_line no_line) (refusing bad_line)
