-- Each end has its letter, and where nothing ends there is none.
use mathlib.Core.Path.{◌≡◌, refl, sym, ap, subst, ◌∙◌}
use mathlib.Core.Logic.{◌≢◌}
use mathlib.Core.Bool.{Bool, true, false, cond, not, ◌||◌}
use mathlib.Core.List.{List, [], ◌∷◌}
use Prim.Native.Nat.{ℕ, zero, suc, ◌*◌, ◌≤◌}
use native.Mathlib.Decide.{ℕ_discrete}
use native.Mathlib.Omega.{arith}
use lib.Dec.{eqb, ltb}
use Rattle.byte_lists.specs.Each.{some}
use Rattle.byte_lists.specs.Little.{are_bytes}
use Rattle.settings.specs.Ranges.{quorum}
use Rattle.settings.specs.Times.{coordinator_of}
use Rattle.settings.specs.declared.Settings.{Settings}
use Rattle.settings.specs.declared.Clock.{Clock}
use Rattle.settings.specs.Times.{Draw}
use Rattle.message.specs.Flags.{members}
use Rattle.message.specs.Kinds.{read_kind, third_round}
use Rattle.message.specs.Messages.{stores_entry}
use Rattle.message.specs.declared.Reply.{Reply}
use Rattle.coord_record.specs.Records.{idle_kind, on_block, no_bricks, is_reading}
use Rattle.coord_record.specs.declared.Op.{Op}
use Rattle.coord_record.specs.declared.Tally.{Tally}
use Rattle.coord_tally.specs.Counting.{said_no}
use Rattle.coord_letters.specs.Letters.{no_letter, letter_f, letter_h, letter_l, letter_o, letter_g, letter_w, letter_x, read_letter, said_other, abort_letter}
use Rattle.coord_decide.specs.Deciding.{decided}
use Rattle.coord_decide.specs.declared.Decision.{Decision}
use Rattle.coord_decide.specs.declared.Decision.TheVariants.{Abort, Give, Look, Store, Modify, Recover, Finish}
use Rattle.coord_apply.specs.Acts.{acted, ending, sending_first, next_round, modifying, finished_seen, counting, waiting_or, starting}
use Rattle.coord_apply.specs.Answers.{Buffered, Went, Step, refused, went, nothing_seen, ok_seen, read_seen, aborted_seen, cut_seen, letter_of}
use Rattle.coord_apply.specs.declared.Notice.{Notice}
use Rattle.coord_apply.proofs.Laws.ActLaws.{recover_either}
use Rattle.coordinator.specs.Routines.{drawn_then, take_step, crashed, crash_step, write_step, read_step, write_block_step, read_block_step}
use Rattle.coord_laws.proofs.Laws.SoundnessLaws.{passes, same_went, drawn_went}
use Rattle.order.specs.Claim.{ok, bytes, Result, Ending, finished, aborted, cut, Seen, began, ended}
use Rattle.register.specs.RunLetters.{step_letter, arriving_letter, arriving_letter_at, letter_at, goes_with, EveryEndHasItsLetter, NoLetterWithoutAnEnd}
use Rattle.register.specs.Runs.{plain, Item, message, reply, World, Left, Event, start_write, start_read, start_write_block, start_read_block, arrives, crashes}
use Rattle.register.specs.Runs.{goes_down, comes_up, Moved, unmoved, on_stripe, read_given, seen_of, coordinated, received, arriving, arriving_at, standing, left_by, step}
use Rattle.register.proofs.Laws.StripeViewLaws.{shown_here, shown_there}

-- what is seen has the letter of how it ended
record Lettered (e : Notice) : Type 0 where
  n : ℕ
  op : Op
  t : Tally
  letter-is : e.letter ≡ letter_of n op t e.what
  what-low : e.what ≤ cut_seen

-- the letters of a read's answer, and of an abort
read_letters : (op : Op) → eqb (read_letter op) letter_f || eqb (read_letter op) letter_h || eqb (read_letter op) letter_l ≡ true
unfolding read_letter
read_letters op = go (eqb op.phase read_kind) (eqb op.round third_round)
  where
    go : (a b : Bool) → (let l = cond a letter_f (cond b letter_h letter_l) in eqb l letter_f || eqb l letter_h || eqb l letter_l ≡ true)
    go true b = refl
    go false true = refl
    go false false = refl

abort_letters : (n : ℕ) (op : Op) (t : Tally)
    → eqb (abort_letter n op t) letter_o || eqb (abort_letter n op t) letter_g || eqb (abort_letter n op t) letter_w || eqb (abort_letter n op t) letter_x ≡ true
unfolding abort_letter
abort_letters n op t = go (some (said_no t.counted t.granted) n) (stores_entry op.phase) (some (said_other t.counted t.granted t.said) n)
  where
    go : (a b c : Bool)
        → (let l = cond (not a) letter_x (cond b (cond c letter_w letter_g) letter_o) in eqb l letter_o || eqb l letter_g || eqb l letter_w || eqb l letter_x ≡ true)
    go false b c = refl
    go true false c = refl
    go true true false = refl
    go true true true = refl

-- how what was seen ended
unfoldable how_of : (s : Settings) → List (Seen (plain s)) → Ending (plain s)
how_of s [] = cut
how_of s (began time action ∷ l) = cut
how_of s (ended time how ∷ l) = how

-- whether it shows an end
unfoldable ends? : (s : Settings) → List (Seen (plain s)) → ℕ
ends? s [] = 0
ends? s (began time action ∷ l) = 0
ends? s (ended time how ∷ l) = 1

-- a read's answer, the stripe or a block
read_fits : (s : Settings) (op : Op) (letter : ℕ) → letter ≡ read_letter op → (b : Bool) (x y : List ℕ) → goes_with s (finished (cond b (Result.block x) (bytes y))) letter ≡ true
unfolding goes_with
read_fits s op letter e true x y = rw e (read_letters op)
read_fits s op letter e false x y = rw e (read_letters op)

-- a notice, by what it tells
fits_by : (s : Settings) (what kind stripe time block letter : ℕ) (bricks : List ℕ) (k : Buffered) (t : ℕ) (how : Ending (plain s)) (n : ℕ) (op : Op) (y : Tally)
    → letter ≡ letter_of n op y what → what ≤ cut_seen
    → seen_of s (record { what = what; kind = kind; stripe = stripe; time = time; block = block; bricks = bricks; letter = letter }) k ≡ ended t how ∷ []
    → goes_with s how letter ≡ true
unfolding seen_of letter_of ends? how_of
fits_by s zero kind stripe time block letter bricks k t how n op y e l q = absurd (let z = ap (ends? s) q in omega (arith, z))
fits_by s (suc zero) kind stripe time block letter bricks k t how n op y e l q = absurd (let z = ap (ends? s) q in omega (arith, z))
fits_by s (suc (suc zero)) kind stripe time block letter bricks k t how n op y e l q =
    subst (λ (h : Ending (plain s)). goes_with s h letter ≡ true) (ap (how_of s) q) (unfold goes_with in rw e refl)
fits_by s (suc (suc (suc zero))) kind stripe time block letter bricks k t how n op y e l q =
    subst (λ (h : Ending (plain s)). goes_with s h letter ≡ true) (ap (how_of s) q) (unfold read_given in read_fits s op letter e (on_block kind) _ _)
fits_by s (suc (suc (suc (suc zero)))) kind stripe time block letter bricks k t how n op y e l q =
    subst (λ (h : Ending (plain s)). goes_with s h letter ≡ true) (ap (how_of s) q) (unfold goes_with in rw e (abort_letters n op y))
fits_by s (suc (suc (suc (suc (suc zero))))) kind stripe time block letter bricks k t how n op y e l q =
    subst (λ (h : Ending (plain s)). goes_with s h letter ≡ true) (ap (how_of s) q) (unfold goes_with in rw e refl)
fits_by s (suc (suc (suc (suc (suc (suc j)))))) kind stripe time block letter bricks k t how n op y e l q = absurd (omega (arith, l))

shows_by : (s : Settings) (what kind stripe time block letter : ℕ) (bricks : List ℕ) (k : Buffered) (n : ℕ) (op : Op) (y : Tally)
    → letter ≡ letter_of n op y what → what ≤ cut_seen → letter ≢ no_letter
    → (t : ℕ) × (how : Ending (plain s))
    × (seen_of s (record { what = what; kind = kind; stripe = stripe; time = time; block = block; bricks = bricks; letter = letter }) k ≡ ended t how ∷ [])
unfolding seen_of letter_of
shows_by s zero kind stripe time block letter bricks k n op y e l d = absurd (d e)
shows_by s (suc zero) kind stripe time block letter bricks k n op y e l d = absurd (d e)
shows_by s (suc (suc zero)) kind stripe time block letter bricks k n op y e l d = (time, finished ok, refl)
shows_by s (suc (suc (suc zero))) kind stripe time block letter bricks k n op y e l d = (time, _, refl)
shows_by s (suc (suc (suc (suc zero)))) kind stripe time block letter bricks k n op y e l d = (time, aborted, refl)
shows_by s (suc (suc (suc (suc (suc zero))))) kind stripe time block letter bricks k n op y e l d = (time, cut, refl)
shows_by s (suc (suc (suc (suc (suc (suc j)))))) kind stripe time block letter bricks k n op y e l d = absurd (omega (arith, l))

-- WHAT EACH ROUTINE SHOWS
module _ (n m size : ℕ) (h : Buffered) where
  nothing_lettered : Lettered nothing_seen
  unfolding nothing_seen letter_of
  nothing_lettered = record { n = n; op = h.state.op; t = h.state.tally; letter-is = refl; what-low = omega arith }

  ending_lettered : (stripe : List ℕ) (sent : _) (what : ℕ) (bricks : List ℕ) → what ≤ cut_seen → Lettered (ending n h stripe sent what bricks).seen
  unfolding ending
  ending_lettered stripe sent what bricks l = record { n = n; op = h.state.op; t = h.state.tally; letter-is = refl; what-low = l }

  finished_low : (op : Op) → finished_seen op ≤ cut_seen
  unfolding finished_seen
  finished_low op = go (is_reading op.kind)
    where
      go : (b : Bool) → cond b read_seen ok_seen ≤ cut_seen
      go true = omega arith
      go false = omega arith

  acted_lettered : (d : Decision) → Lettered (acted n m size h d).seen
  unfolding acted sending_first next_round modifying
  acted_lettered Abort = ending_lettered _ _ aborted_seen no_bricks (omega arith)
  acted_lettered Give = ending_lettered _ _ read_seen _ (omega arith)
  acted_lettered (Look max) = nothing_lettered
  acted_lettered Store = nothing_lettered
  acted_lettered (Modify time) = nothing_lettered
  acted_lettered (Recover time) =
      recover_either n m size h time (λ (w : Went). Lettered w.seen) nothing_lettered (ending_lettered _ _ aborted_seen no_bricks (omega arith))
  acted_lettered Finish = ending_lettered _ _ (finished_seen h.state.op) _ (finished_low h.state.op)

  waiting_lettered : Lettered (waiting_or n m size h).seen
  unfolding waiting_or
  waiting_lettered = go (ltb (members h.state.tally.counted n) (quorum n m))
    where
      go : (b : Bool) → Lettered (cond b (record { next = h; sent = []; seen = nothing_seen }) (acted n m size h (decided n m h.state.op h.state.tally))).seen
      go true = nothing_lettered
      go false = acted_lettered (decided n m h.state.op h.state.tally)

-- a step whose notice is so
abbrev Shown : Step → Type 0
Shown p = (g : Went) → p ≡ went g → Lettered g.seen

module _ (n m size stripes : ℕ) (h : Buffered) where
  take_shown : (r : Reply) (block : List ℕ) (coded : ℕ) → Shown (take_step n m size stripes h r block coded)
  unfolding take_step
  take_shown r block coded g e =
      subst (λ (w : Went). Lettered w.seen) (same_went _ g (passes _ _ g e).1) (waiting_lettered n m size (counting size h r block))

  crash_shown : Shown (crash_step n m size stripes h)
  unfolding crash_step crashed
  crash_shown g e = subst (λ (w : Went). Lettered w.seen) (same_went _ g (passes _ _ g e).1) (go (eqb h.state.op.kind idle_kind))
    where
      go : (b : Bool) → Lettered (cond b (record { next = h; sent = []; seen = nothing_seen }) (ending n h h.stripe [] cut_seen no_bricks)).seen
      go true = nothing_lettered n m size h
      go false = ending_lettered n m size h h.stripe [] cut_seen no_bricks (omega arith)

  -- a start shows a beginning
  start_lettered : (clock : Clock) (op : Op) (stripe targets : List ℕ) → Lettered (starting h clock op stripe targets).seen
  unfolding starting letter_of
  start_lettered clock op stripe targets = record { n = n; op = op; t = h.state.tally; letter-is = refl; what-low = omega arith }

  drawn_shown : (number : ℕ) (d : Draw) (f : ℕ → Clock → Went) → ((time : ℕ) (clock : Clock) → Lettered (f time clock).seen) → (g : Went)
      → drawn_then d f ≡ went g → Lettered g.seen
  drawn_shown number d f l g e = let w = drawn_went d f g e in subst (λ (v : Went). Lettered v.seen) w.3 (l w.0 w.1)

  write_shown : (number reading : ℕ) (bytes : List ℕ) → Shown (write_step n m size stripes h number reading bytes)
  unfolding write_step
  write_shown number reading content g e = drawn_shown number _ _ (λ t c. start_lettered c _ _ _) g (passes _ _ g e).1

  read_shown : (number reading first : ℕ) → Shown (read_step n m size stripes h number reading first)
  unfolding read_step
  read_shown number reading first g e = drawn_shown number _ _ (λ t c. start_lettered c _ _ _) g (passes _ _ g e).1

  write_block_shown : (number reading block : ℕ) (bytes : List ℕ) → Shown (write_block_step n m size stripes h number reading block bytes)
  unfolding write_block_step
  write_block_shown number reading block content g e = drawn_shown number _ _ (λ t c. start_lettered c _ _ _) g (passes _ _ g e).1

  read_block_shown : (number reading block : ℕ) → Shown (read_block_step n m size stripes h number reading block)
  unfolding read_block_step
  read_block_shown number reading block g e = drawn_shown number _ _ (λ t c. start_lettered c _ _ _) g (passes _ _ g e).1

-- AN EVENT AT A COORDINATOR shows an end on the stripe of its notice, with the notice's letter.
module _ (s : Settings) (w : World) where
  Ends : Moved s → ℕ → Type 0
  Ends m letter =
      ((stripe time : ℕ) (how : Ending (plain s)) → m.seen stripe ≡ ended time how ∷ [] → goes_with s how letter ≡ true)
      × (letter ≢ no_letter → (stripe time : ℕ) × (how : Ending (plain s)) × (m.seen stripe ≡ ended time how ∷ []))

  no_end : {time : ℕ} {how : Ending (plain s)} → [] ≡ ended time how ∷ [] → ◌≡◌ {A = ℕ} 0 1
  unfolding ends?
  no_end q = ap (ends? s) q

  -- nothing is seen
  quiet_ends : (m : Moved s) → ((stripe : ℕ) → m.seen stripe ≡ []) → Ends m no_letter
  unfolding Ends
  quiet_ends m f = ((λ stripe time how q. absurd (let z = no_end (sym (f stripe) ∙ q) in omega (arith, z))), λ d. absurd (d refl))

  coordinated_ends : (c : ℕ) (p : Step) → Shown p → Ends (coordinated s w c p) (step_letter p)
  unfolding coordinated step_letter
  coordinated_ends c (refused number) f = quiet_ends (unmoved s w) (λ stripe. unfold unmoved in refl)
  coordinated_ends c (went g) f = unfold Ends in (fits, shows)
    where
      x : Lettered g.seen
      x = f g refl

      fits : (stripe time : ℕ) (how : Ending (plain s)) → on_stripe g.seen.stripe (seen_of s g.seen g.next) stripe ≡ ended time how ∷ []
          → goes_with s how g.seen.letter ≡ true
      fits stripe time how q = go (ℕ_discrete stripe g.seen.stripe)
        where
          go : Dec (stripe ≡ g.seen.stripe) → goes_with s how g.seen.letter ≡ true
          go (yes e) =
              fits_by s g.seen.what g.seen.kind g.seen.stripe g.seen.time g.seen.block g.seen.letter g.seen.bricks g.next time how
              x.n x.op x.t x.letter-is x.what-low (sym (shown_here g.seen.stripe stripe _ e) ∙ q)
          go (no e) = absurd (let z : ◌≡◌ {A = ℕ} 0 1 = no_end (sym (shown_there g.seen.stripe stripe _ e) ∙ q) in omega (arith, z))

      shows : g.seen.letter ≢ no_letter
          → (stripe time : ℕ) × (how : Ending (plain s)) × (on_stripe g.seen.stripe (seen_of s g.seen g.next) stripe ≡ ended time how ∷ [])
      shows d =
          let y = shows_by s g.seen.what g.seen.kind g.seen.stripe g.seen.time g.seen.block g.seen.letter g.seen.bricks g.next
          x.n x.op x.t x.letter-is x.what-low d in
          (g.seen.stripe, y.0, y.1, shown_here g.seen.stripe g.seen.stripe _ refl ∙ y.2)

  either_ends : (b : Bool) (p : Moved s) (letter : ℕ) → Ends p letter → Ends (cond b p (unmoved s w)) (cond b letter no_letter)
  either_ends true p letter e = e
  either_ends false p letter e = quiet_ends (unmoved s w) (λ stripe. unfold unmoved in refl)

  quiet_either : (b : Bool) (p q : Moved s) → ((stripe : ℕ) → p.seen stripe ≡ []) → ((stripe : ℕ) → q.seen stripe ≡ []) → (stripe : ℕ) → (cond b p q).seen stripe ≡ []
  quiet_either true p q f g = f
  quiet_either false p q f g = g

  -- whatever a crash leaves in the buffers
  left_ends : (c : ℕ) (left : Left) (p : Step) → Shown p → Ends (coordinated s w c (left_by s left p)) (step_letter p)
  unfolding left_by step_letter
  left_ends c left (refused number) f = coordinated_ends c (refused number) (λ g e. f g e)
  left_ends c left (went g) f = coordinated_ends c _ (λ v e. subst (λ (z : Went). Lettered z.seen) (same_went _ v e) (f g refl))

  arriving_ends : (i : Item) → Ends (arriving s w i) (arriving_letter s w i)
  unfolding arriving arriving_letter received unmoved
  arriving_ends (message b msg block old) = quiet_ends _ (quiet_either (w.up b) _ _ (λ stripe. refl) (λ stripe. refl))
  arriving_ends (reply r block) =
      coordinated_ends (coordinator_of r.time) _ (take_shown s.n s.m s.size s.stripes (w.coordinators (coordinator_of r.time)) r block (s.n * s.size))

  arriving_at_ends : (l : List Item) (k : ℕ) → Ends (arriving_at s w l k) (arriving_letter_at s w l k)
  unfolding arriving_at arriving_letter_at
  arriving_at_ends [] k = quiet_ends (unmoved s w) (λ stripe. unfold unmoved in refl)
  arriving_at_ends (i ∷ l) zero = arriving_ends i
  arriving_at_ends (i ∷ l) (suc k) = arriving_at_ends l k

  step_ends : (e : Event) → Ends (step s w e) (letter_at s w e)
  unfolding step letter_at standing unmoved
  step_ends (start_write c stripe reading content) =
      either_ends (are_bytes content) _ _ (coordinated_ends c _ (write_shown s.n s.m s.size s.stripes (w.coordinators c) stripe reading content))
  step_ends (start_read c stripe reading first) =
      coordinated_ends c _ (read_shown s.n s.m s.size s.stripes (w.coordinators c) stripe reading first)
  step_ends (start_write_block c stripe reading block content) =
      either_ends (are_bytes content) _ _ (coordinated_ends c _ (write_block_shown s.n s.m s.size s.stripes (w.coordinators c) stripe reading block content))
  step_ends (start_read_block c stripe reading block) =
      coordinated_ends c _ (read_block_shown s.n s.m s.size s.stripes (w.coordinators c) stripe reading block)
  step_ends (arrives k) = arriving_at_ends w.sent k
  step_ends (crashes c left) = left_ends c left _ (crash_shown s.n s.m s.size s.stripes (w.coordinators c))
  step_ends (goes_down b) = quiet_ends _ (quiet_either (ltb b s.n) _ _ (λ stripe. refl) (λ stripe. refl))
  step_ends (comes_up b) = quiet_ends _ (quiet_either (ltb b s.n) _ _ (λ stripe. refl) (λ stripe. refl))

pub every_end_has_its_letter : EveryEndHasItsLetter
unfolding Ends
every_end_has_its_letter s w e stripe time how q = (step_ends s w e).0 stripe time how q

pub no_letter_without_an_end : NoLetterWithoutAnEnd
unfolding Ends
no_letter_without_an_end s w e d = (step_ends s w e).1 d
