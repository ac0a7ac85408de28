-- A routine of a coordinator called and its answer committed: the event has been played.
use mathlib.Core.Path.{◌≡◌, refl, sym, ap, subst, ◌∙◌}
use mathlib.Core.Bool.{Bool, true, false, cond, not, ◌&&◌}
use mathlib.Core.List.{List}
use Prim.Native.Nat.{ℕ, ◌+◌, ◌*◌, ◌≤◌, ◌<◌}
use native.Mathlib.Omega.{arith}
use lib.Dec.{eqb}
use lib.ListN.{length, get_or, take, drop}
use borrow.Author.Tests.{lt-ltb, le-ltb, eqb-true}
use Rattle.byte_lists.proofs.Laws.BoolLaws.{and_left, and_right}
use Rattle.settings.specs.declared.Settings.{Settings}
use Rattle.byte_lists.specs.Little.{Bytes}
use Rattle.message.specs.declared.Reply.{Reply}
use Rattle.coord_record.specs.declared.Coordinator.{Coordinator}
use Rattle.coord_apply.specs.Acts.{buffered}
use Rattle.coord_apply.specs.Answers.{Buffered, Step, refused, went, answer_of, blocks_after, stripe_after, coded_after, returned}
use Rattle.coord_apply.specs.Answers.{Answer}
use Rattle.coord_apply.proofs.Laws.AnswerLaws.{returned_answer, returned_blocks, returned_stripe, returned_coded}
use Rattle.coordinator.specs.Routines.{take_step, crash_step, write_step, read_step, write_call, read_call, take_call, crash_call}
use Rattle.register.specs.Driver.{Short}
use Rattle.register.proofs.Laws.DriverLaws.{left_untouched, write_short, read_short, crash_short, take_short}
use Rattle.register.specs.Runs.{Item, World, untouched, Event, start_write, start_read, arrives, crashes, reply, step, coordinated, arriving}
use Rattle.bench_sent.proofs.Laws.SentItemLaws.{arrives_item}
use Rattle.bench_sent.specs.Sent.{item_at, is_reply, reply_at, sent_block_at}
use Rattle.bench_sent.proofs.Laws.SentRowLaws.{item_reply}
use Rattle.bench_state.specs.State.{world_of, coordinator_kept, idle_at}
use Rattle.bench_state.specs.declared.Bench.{Bench}
use Rattle.bench_rules.specs.Content.{counted, content}
use Rattle.bench_rules.proofs.Laws.ContentLaws.{content_small}
use Rattle.byte_lists.proofs.Laws.LittleLaws.{bytes_pass}
use Rattle.bench_rules.specs.Play.{Played, acts, refuses, unless_short, at_coordinator, writes, starts, crashes_at, carries}
use Rattle.bench_rules.specs.Turning.{Lent, lent, world_in}
use Rattle.bench_rules.specs.Workers.{Turned}
use Rattle.bench_rules.specs.declared.After.{After}
use Rattle.bench_commit.specs.Workers.{answered}
use Rattle.bench_commit.specs.Workers.{Answers}
use Rattle.bench_commit.proofs.Laws.CommitLaws.{Numbered, answered_is_acts}
use Rattle.bench_commit.proofs.Laws.CommitStepLaws.{write_numbered, write_blocks, write_coded, read_numbered, read_blocks, read_stripe, read_coded, crash_numbered, crash_blocks}
use Rattle.bench_commit.proofs.Laws.CommitStepLaws.{crash_stripe, crash_coded, take_numbered}
use Rattle.bench_commit.specs.Workers.{BenchActed, Plays}
use Rattle.bench_limits.specs.Limits.{bench_stripe, bench_coordinators, stripe_room, kept_room}
use Rattle.settings.specs.Times.{coordinator_of}
use Rattle.settings.specs.Refusal.{bad_line, bad_number}

-- a start that is refused stays so, and one that is not is refused for its digits
short_refuses : (s : Settings) (w : World) (e : Event) (c : ℕ) (st : Coordinator) (q : Step) (a : Answer) (ok : Bool) → a ≡ answer_of st q → Numbered q
    → eqb a.refusal 0 && not ok ≡ true → acts s w e c (unless_short ok q) ≡ refuses w bad_line
unfolding acts unless_short answer_of
short_refuses s w e c st (refused k) a ok ea n h =
    absurd (n (eqb-true k 0 (sym (ap (λ (x : Answer). eqb x.refusal 0) ea) ∙ and_left (eqb a.refusal 0) (not ok) h)))
short_refuses s w e c st (went g) a ok ea n h = go ok (and_right (eqb a.refusal 0) (not ok) h)
  where
    go : (t : Bool) → not t ≡ true → acts s w e c (cond t (went g) (refused bad_line)) ≡ refuses w bad_line
    go true z = let y : ◌≡◌ {A = ℕ} 0 1 = cc in absurd (omega arith)
    go false z = refl

short_same : (st : Coordinator) (q : Step) (a : Answer) (ok : Bool) → a ≡ answer_of st q → eqb a.refusal 0 && not ok ≡ false → unless_short ok q ≡ q
unfolding unless_short answer_of
short_same st (refused k) a ok ea h = refl
short_same st (went g) a ok ea h = go ok (sym (ap (λ (x : Answer). eqb x.refusal 0 && not ok) ea) ∙ h)
  where
    go : (t : Bool) → true && not t ≡ false → cond t (went g) (refused bad_line) ≡ went g
    go true z = refl
    go false z = let y : ◌≡◌ {A = ℕ} 0 1 = cc in absurd (omega arith)

module _ (b : Bench) (c : ℕ) (kept numbers bytes : List ℕ) (at : ℕ) (out : List ℕ) (r : After) (kept' numbers' bytes' out' : List ℕ) where
  -- what coordinator c keeps
  abbrev here : Buffered
  here = coordinator_kept b.settings b.coordinators kept c

  acted_by : (e : Event) (p : Buffered → Step) (a : Answer) (blocks stripe coded old : List ℕ)
      → ((images : List ℕ) → step b.settings (world_in b (lent images kept numbers bytes)) e ≡ coordinated b.settings (world_in b (lent images kept numbers bytes)) c (p here))
      → Short b.settings.size (p here) → Numbered (p here) → a ≡ answer_of here.state (p here) → blocks ≡ blocks_after here (p here) → stripe ≡ stripe_after here (p here)
      → coded ≡ coded_after old (p here) → Answers b c a blocks stripe coded kept numbers bytes at out r kept' numbers' bytes' out'
      → BenchActed b c e p kept numbers bytes at out r kept' numbers' bytes' out'
  unfolding world_in world_of
  acted_by e p a blocks stripe coded old q short numbered ea eb es ec h =
      record {
        turned = λ images.
            (let w = world_in b (lent images kept numbers bytes) in
            subst (λ (x : _). Turned b (lent images kept numbers bytes) at out x r (lent images kept' numbers' bytes') out')
            (ap (λ (x : Answer). answered b.settings w e c x blocks stripe coded) ea
            ∙ ap (λ (x : List ℕ). answered b.settings w e c (answer_of here.state (p here)) x stripe coded) eb
            ∙ ap (λ (x : List ℕ). answered b.settings w e c (answer_of here.state (p here)) (blocks_after here (p here)) x coded) es
            ∙ ap (λ (x : List ℕ). answered b.settings w e c (answer_of here.state (p here)) (blocks_after here (p here)) (stripe_after here (p here)) x) ec
            ∙ answered_is_acts b.settings w e c (p here) old short numbered (q images))
            (h.turned images e));
      }

  -- the copies are what the coordinator keeps
  copied : (old : Coordinator) (blocks stripe : List ℕ) → c < bench_coordinators → old ≡ get_or b.coordinators c (idle_at b.settings c)
      → blocks ≡ take (b.settings.n * b.settings.size) (drop (c * kept_room) kept)
      → stripe ≡ take (b.settings.m * b.settings.size) (drop (c * kept_room + stripe_room) kept) → buffered old blocks stripe ≡ here
  unfolding coordinator_kept buffered
  copied old blocks stripe l e eb es = rw (lt-ltb c bench_coordinators l) cc

  module _ (old : Coordinator) (blocks stripe : List ℕ) (low : c < bench_coordinators) (eo : old ≡ get_or b.coordinators c (idle_at b.settings c))
      (eb : blocks ≡ take (b.settings.n * b.settings.size) (drop (c * kept_room) kept))
      (es : stripe ≡ take (b.settings.m * b.settings.size) (drop (c * kept_room + stripe_room) kept)) where
    same : buffered old blocks stripe ≡ here
    same = copied old blocks stripe low eo eb es

    old_is : old ≡ here.state
    unfolding buffered
    old_is = ap (λ (h : Buffered). h.state) same

    blocks_are : blocks ≡ here.blocks
    unfolding buffered
    blocks_are = ap (λ (h : Buffered). h.blocks) same

    stripe_is : stripe ≡ here.stripe
    unfolding buffered
    stripe_is = ap (λ (h : Buffered). h.stripe) same

    pub acted_read : (clock brick : ℕ) (a : Answer)
        → ((x y z : List ℕ) → returned a x y z ≡ read_call b.settings.n b.settings.m b.settings.size b.settings.stripes old x y z bench_stripe clock brick)
        → Answers b c a blocks stripe blocks kept numbers bytes at out r kept' numbers' bytes' out'
        → BenchActed b c (start_read c bench_stripe clock brick)
        (λ (h : Buffered). read_step b.settings.n b.settings.m b.settings.size b.settings.stripes h bench_stripe clock brick) kept numbers bytes at out r kept' numbers'
        bytes' out'
    unfolding step world_in world_of
    acted_read clock brick a ea h =
        let n = b.settings.n in
        let m = b.settings.m in
        let size = b.settings.size in
        let stripes = b.settings.stripes in
        acted_by (start_read c bench_stripe clock brick) (λ (x : Buffered). read_step n m size stripes x bench_stripe clock brick) a blocks stripe blocks blocks (λ images. refl)
        (read_short n m size stripes here bench_stripe clock brick) (read_numbered n m size stripes here bench_stripe clock brick)
        (returned_answer old blocks stripe blocks _ a blocks stripe blocks (ea blocks stripe blocks) ∙ ap
        (λ (x : Coordinator). answer_of x (read_step n m size stripes (buffered old blocks stripe) bench_stripe clock brick)) old_is ∙ ap
        (λ (x : Buffered). answer_of here.state (read_step n m size stripes x bench_stripe clock brick)) same)
        (blocks_are ∙ sym (read_blocks n m size stripes here bench_stripe clock brick)) (stripe_is ∙ sym (read_stripe n m size stripes here bench_stripe clock brick))
        (sym (read_coded n m size stripes here bench_stripe clock brick blocks)) h

    pub acted_crash : (a : Answer)
        → ((x y z : List ℕ) → returned a x y z ≡ crash_call b.settings.n b.settings.m b.settings.size b.settings.stripes old x y z)
        → Answers b c a blocks stripe blocks kept numbers bytes at out r kept' numbers' bytes' out'
        → BenchActed b c (crashes c untouched)
        (λ (h : Buffered). crash_step b.settings.n b.settings.m b.settings.size b.settings.stripes h) kept numbers bytes at out r kept' numbers' bytes' out'
    unfolding step world_in world_of
    acted_crash a ea h =
        let n = b.settings.n in
        let m = b.settings.m in
        let size = b.settings.size in
        let stripes = b.settings.stripes in
        acted_by (crashes c untouched) (λ (x : Buffered). crash_step n m size stripes x) a blocks stripe blocks blocks
        (λ images. ap (coordinated b.settings (world_in b (lent images kept numbers bytes)) c) (left_untouched b.settings (crash_step n m size stripes here)))
        (crash_short n m size stripes here) (crash_numbered n m size stripes here)
        (returned_answer old blocks stripe blocks _ a blocks stripe blocks (ea blocks stripe blocks) ∙ ap (λ (x : Coordinator). answer_of x (crash_step n m size stripes (buffered old blocks stripe)))
        old_is ∙ ap (λ (x : Buffered). answer_of here.state (crash_step n m size stripes x)) same)
        (blocks_are ∙ sym (crash_blocks n m size stripes here)) (stripe_is ∙ sym (crash_stripe n m size stripes here)) (sym (crash_coded n m size stripes here blocks)) h

    pub acted_write : (clock : ℕ) (content : List ℕ) (small : Bytes content) (a : Answer) (stripe' : List ℕ)
        → ((x z : List ℕ) → returned a x stripe' z ≡ write_call b.settings.n b.settings.m b.settings.size b.settings.stripes old x stripe z bench_stripe clock content)
        → Answers b c a blocks stripe' blocks kept numbers bytes at out r kept' numbers' bytes' out'
        → BenchActed b c (start_write c bench_stripe clock content)
        (λ (h : Buffered). write_step b.settings.n b.settings.m b.settings.size b.settings.stripes h bench_stripe clock content) kept numbers bytes at out r kept'
        numbers' bytes' out'
    unfolding step world_in world_of
    acted_write clock content small a stripe' ea h =
        let n = b.settings.n in
        let m = b.settings.m in
        let size = b.settings.size in
        let stripes = b.settings.stripes in
        acted_by (start_write c bench_stripe clock content) (λ (x : Buffered). write_step n m size stripes x bench_stripe clock content) a blocks stripe' blocks blocks
        (λ images. rw (bytes_pass content small) refl)
        (write_short n m size stripes here bench_stripe clock content) (write_numbered n m size stripes here bench_stripe clock content)
        (returned_answer old blocks stripe blocks _ a blocks stripe' blocks (ea blocks blocks) ∙ ap
        (λ (x : Coordinator). answer_of x (write_step n m size stripes (buffered old blocks stripe) bench_stripe clock content)) old_is ∙ ap
        (λ (x : Buffered). answer_of here.state (write_step n m size stripes x bench_stripe clock content)) same)
        (blocks_are ∙ sym (write_blocks n m size stripes here bench_stripe clock content))
        (returned_stripe old blocks stripe blocks _ a blocks stripe' blocks (ea blocks blocks) ∙ ap (λ (x : Buffered). stripe_after x (write_step n m size stripes x bench_stripe clock content)) same)
        (sym (write_coded n m size stripes here bench_stripe clock content blocks)) h

    -- a write with a wrong count of digits, after the numbers of its start
    pub short_write : (clock : ℕ) (digits cont : List ℕ) (a : Answer) (ok : Bool) (stripe'' : List ℕ) → cont ≡ content b.settings digits → ok ≡ counted b.settings digits
        → ((x z : List ℕ) → returned a x stripe'' z ≡ write_call b.settings.n b.settings.m b.settings.size b.settings.stripes old x stripe z bench_stripe clock cont)
        → eqb a.refusal 0 && not ok ≡ true → ((l : Lent) → Turned b l at out (refuses (world_in b l) bad_line) r l out')
        → BenchActed b c (start_write c bench_stripe clock (content b.settings digits))
        (λ (h : Buffered). unless_short (counted b.settings digits)
        (write_step b.settings.n b.settings.m b.settings.size b.settings.stripes h bench_stripe clock (content b.settings digits)))
        kept numbers bytes at out r kept numbers bytes out'
    unfolding world_in world_of
    short_write clock digits cont a ok stripe'' e eo' ea q t =
        let n = b.settings.n in
        let m = b.settings.m in
        let size = b.settings.size in
        let stripes = b.settings.stripes in
        let step_is =
        returned_answer old blocks stripe blocks _ a blocks stripe'' blocks (ea blocks blocks)
        ∙ ap (λ (x : List ℕ). answer_of old (write_step n m size stripes (buffered old blocks stripe) bench_stripe clock x)) e
        ∙ ap (λ (x : Coordinator). answer_of x (write_step n m size stripes (buffered old blocks stripe) bench_stripe clock (content b.settings digits))) old_is
        ∙ ap (λ (x : Buffered). answer_of here.state (write_step n m size stripes x bench_stripe clock (content b.settings digits))) same
        in
        record {
          turned = λ images.
              subst (λ (x : _). Turned b (lent images kept numbers bytes) at out x r (lent images kept numbers bytes) out')
              (sym
              (short_refuses b.settings (world_in b (lent images kept numbers bytes)) (start_write c bench_stripe clock (content b.settings digits)) c here.state
              (write_step n m size stripes here bench_stripe clock (content b.settings digits)) a (counted b.settings digits) step_is
              (write_numbered n m size stripes here bench_stripe clock (content b.settings digits))
              (ap (λ (x : Bool). eqb a.refusal 0 && not x) (sym eo') ∙ q)))
              (t (lent images kept numbers bytes));
        }

    -- and any other
    pub whole_write : (clock : ℕ) (digits cont : List ℕ) (a : Answer) (ok : Bool) (stripe' : List ℕ) → cont ≡ content b.settings digits → ok ≡ counted b.settings digits
        → ((x z : List ℕ) → returned a x stripe' z ≡ write_call b.settings.n b.settings.m b.settings.size b.settings.stripes old x stripe z bench_stripe clock cont)
        → eqb a.refusal 0 && not ok ≡ false
        → Answers b c a blocks stripe' blocks kept numbers bytes at out r kept' numbers' bytes' out'
        → BenchActed b c (start_write c bench_stripe clock (content b.settings digits))
        (λ (h : Buffered). unless_short (counted b.settings digits)
        (write_step b.settings.n b.settings.m b.settings.size b.settings.stripes h bench_stripe clock (content b.settings digits)))
        kept numbers bytes at out r kept' numbers' bytes' out'
    unfolding world_in world_of
    whole_write clock digits cont a ok stripe' e eo' ea q h =
        let n = b.settings.n in
        let m = b.settings.m in
        let size = b.settings.size in
        let stripes = b.settings.stripes in
        let cs = content b.settings digits in
        let step_is =
        returned_answer old blocks stripe blocks _ a blocks stripe' blocks (ea blocks blocks)
        ∙ ap (λ (y : List ℕ). answer_of old (write_step n m size stripes (buffered old blocks stripe) bench_stripe clock y)) e
        ∙ ap (λ (x : Coordinator). answer_of x (write_step n m size stripes (buffered old blocks stripe) bench_stripe clock cs)) old_is
        ∙ ap (λ (x : Buffered). answer_of here.state (write_step n m size stripes x bench_stripe clock cs)) same
        in
        record {
          turned = λ images.
              subst
              (λ (x : Step).
              Turned b (lent images kept numbers bytes) at out
              (acts b.settings (world_in b (lent images kept numbers bytes)) (start_write c bench_stripe clock cs) c x) r (lent images kept' numbers' bytes') out')
              (sym (short_same here.state (write_step n m size stripes here bench_stripe clock cs) a (counted b.settings digits) step_is
              (ap (λ (x : Bool). eqb a.refusal 0 && not x) (sym eo') ∙ q)))
              ((acted_write clock cs (content_small b.settings digits) a stripe'
              (λ (x z : List ℕ). ea x z ∙ ap (λ (y : List ℕ). write_call n m size stripes old x stripe z bench_stripe clock y) e) h).turned images);
        }

    -- a reply in row k
    pub acted_reply : (k : ℕ) (reply' : Reply) (block : List ℕ) (a : Answer) (coded blocks' stripe' coded' : List ℕ) → k < b.sent
        → item_at b.settings.size numbers bytes k ≡ reply reply' block → c ≡ coordinator_of reply'.time → length coded ≡ b.settings.n * b.settings.size
        → returned a blocks' stripe' coded' ≡ take_call b.settings.n b.settings.m b.settings.size b.settings.stripes old blocks stripe coded reply' block
        → Answers b c a blocks' stripe' coded' kept numbers bytes at out r kept' numbers' bytes' out'
        → BenchActed b c (arrives k)
        (λ (h : Buffered). take_step b.settings.n b.settings.m b.settings.size b.settings.stripes h reply' block (b.settings.n * b.settings.size)) kept numbers bytes at
        out r kept' numbers' bytes' out'
    unfolding step world_in world_of arriving
    acted_reply k reply' block a coded blocks' stripe' coded' l item ec long ea h =
        let n = b.settings.n in
        let m = b.settings.m in
        let size = b.settings.size in
        let stripes = b.settings.stripes in
        let q = ap (λ (j : ℕ). take_step n m size stripes (buffered old blocks stripe) reply' block j) long ∙ ap (λ (x : Buffered). take_step n m size stripes x reply' block (n * size)) same in
        acted_by (arrives k) (λ (x : Buffered). take_step n m size stripes x reply' block (n * size)) a blocks' stripe' coded' coded
        (λ images.
        arrives_item b.settings (world_in b (lent images kept numbers bytes)) size numbers bytes b.sent k l
        ∙ ap (arriving b.settings (world_in b (lent images kept numbers bytes))) item
        ∙ ap (λ (j : ℕ). coordinated b.settings (world_in b (lent images kept numbers bytes)) j
        (take_step n m size stripes (coordinator_kept b.settings b.coordinators kept j) reply' block (n * size))) (sym ec))
        (take_short n m size stripes here reply' block (n * size)) (take_numbered n m size stripes here reply' block (n * size))
        (returned_answer old blocks stripe coded _ a blocks' stripe' coded' ea ∙ ap
        (λ (x : Coordinator). answer_of x (take_step n m size stripes (buffered old blocks stripe) reply' block (length coded))) old_is ∙ ap (answer_of here.state) q)
        (returned_blocks old blocks stripe coded _ a blocks' stripe' coded' ea ∙ ap
        (λ (x : Buffered). blocks_after x (take_step n m size stripes (buffered old blocks stripe) reply' block (length coded))) same ∙ ap (blocks_after here) q)
        (returned_stripe old blocks stripe coded _ a blocks' stripe' coded' ea ∙ ap
        (λ (x : Buffered). stripe_after x (take_step n m size stripes (buffered old blocks stripe) reply' block (length coded))) same ∙ ap (stripe_after here) q)
        (returned_coded old blocks stripe coded _ a blocks' stripe' coded' ea ∙ ap (coded_after coded) q) h

    -- the same, by what the code read from the row
    pub acted_row : (k : ℕ) (reply' : Reply) (cut : List ℕ) (a : Answer) (coded blocks' stripe' coded' : List ℕ) → k < b.sent
        → is_reply numbers k ≡ true → reply' ≡ reply_at numbers k → cut ≡ sent_block_at b.settings.size bytes k
        → c ≡ coordinator_of reply'.time → length coded ≡ b.settings.n * b.settings.size
        → returned a blocks' stripe' coded' ≡ take_call b.settings.n b.settings.m b.settings.size b.settings.stripes old blocks stripe coded reply' cut
        → Answers b c a blocks' stripe' coded' kept numbers bytes at out r kept' numbers' bytes' out'
        → BenchActed b c (arrives k)
        (λ (h : Buffered). take_step b.settings.n b.settings.m b.settings.size b.settings.stripes h reply' (sent_block_at b.settings.size bytes k)
        (b.settings.n * b.settings.size))
        kept numbers bytes at out r kept' numbers' bytes' out'
    acted_row k reply' cut a coded blocks' stripe' coded' l t er e ec long ea h =
        subst
        (λ (x : List ℕ). BenchActed b c (arrives k)
        (λ (h : Buffered). take_step b.settings.n b.settings.m b.settings.size b.settings.stripes h reply' x (b.settings.n * b.settings.size)) kept
        numbers bytes at out r kept' numbers' bytes' out')
        e (acted_reply k reply' cut a coded blocks' stripe' coded' l (item_reply b.settings.size k reply' cut numbers bytes t er e) ec long ea h)

module _ (b : Bench) (c : ℕ) (kept numbers bytes : List ℕ) (at : ℕ) (out : List ℕ) (r : After) where
  -- a coordinator past the bench's
  past_at : (q : World → Played) (out' : List ℕ) → bench_coordinators ≤ c → ((l : Lent) → Turned b l at out (refuses (world_in b l) bad_number) r l out')
      → Plays b (λ (w : World). at_coordinator w c (q w)) kept numbers bytes at out r kept numbers bytes out'
  unfolding at_coordinator
  past_at q out' h t = record { turned = λ images. rw (le-ltb c bench_coordinators h) (t (lent images kept numbers bytes)) }

  here_at : (e : Event) (p : Buffered → Step) (kept' numbers' bytes' out' : List ℕ) → c < bench_coordinators → BenchActed b c e p kept numbers bytes at out r kept' numbers' bytes' out'
      → Plays b (λ (w : World). at_coordinator w c (acts b.settings w e c (p (w.coordinators c)))) kept numbers bytes at out r kept' numbers' bytes' out'
  unfolding at_coordinator
  here_at e p kept' numbers' bytes' out' h a = record { turned = λ images. rw (lt-ltb c bench_coordinators h) (a.turned images) }

  pub read_past : (clock brick : ℕ) (out' : List ℕ) → bench_coordinators ≤ c → ((l : Lent) → Turned b l at out (refuses (world_in b l) bad_number) r l out')
      → Plays b (λ (w : World). starts b.settings w c clock brick) kept numbers bytes at out r kept numbers bytes out'
  unfolding starts
  read_past clock brick out' h t = past_at _ out' h t

  pub read_here : (clock brick : ℕ) (kept' numbers' bytes' out' : List ℕ) → c < bench_coordinators
      → BenchActed b c (start_read c bench_stripe clock brick)
      (λ (h : Buffered). read_step b.settings.n b.settings.m b.settings.size b.settings.stripes h bench_stripe clock brick) kept numbers bytes at out r kept' numbers' bytes' out'
      → Plays b (λ (w : World). starts b.settings w c clock brick) kept numbers bytes at out r kept' numbers' bytes' out'
  unfolding starts
  read_here clock brick kept' numbers' bytes' out' h a = here_at _ _ kept' numbers' bytes' out' h a

  pub crash_past : (out' : List ℕ) → bench_coordinators ≤ c → ((l : Lent) → Turned b l at out (refuses (world_in b l) bad_number) r l out')
      → Plays b (λ (w : World). crashes_at b.settings w c) kept numbers bytes at out r kept numbers bytes out'
  unfolding crashes_at
  crash_past out' h t = past_at _ out' h t

  pub crash_here : (kept' numbers' bytes' out' : List ℕ) → c < bench_coordinators
      → BenchActed b c (crashes c untouched)
      (λ (h : Buffered). crash_step b.settings.n b.settings.m b.settings.size b.settings.stripes h) kept numbers bytes at out r kept' numbers' bytes' out'
      → Plays b (λ (w : World). crashes_at b.settings w c) kept numbers bytes at out r kept' numbers' bytes' out'
  unfolding crashes_at
  crash_here kept' numbers' bytes' out' h a = here_at _ (λ (x : Buffered). crash_step b.settings.n b.settings.m b.settings.size b.settings.stripes x) kept' numbers' bytes' out' h a

  pub write_past : (clock : ℕ) (digits out' : List ℕ) → bench_coordinators ≤ c → ((l : Lent) → Turned b l at out (refuses (world_in b l) bad_number) r l out')
      → Plays b (λ (w : World). writes b.settings w c clock digits) kept numbers bytes at out r kept numbers bytes out'
  unfolding writes
  write_past clock digits out' h t = past_at _ out' h t

  pub write_here : (clock : ℕ) (digits kept' numbers' bytes' out' : List ℕ) → c < bench_coordinators
      → BenchActed b c (start_write c bench_stripe clock (content b.settings digits))
      (λ (h : Buffered). unless_short (counted b.settings digits)
      (write_step b.settings.n b.settings.m b.settings.size b.settings.stripes h bench_stripe clock (content b.settings digits)))
      kept numbers bytes at out r kept' numbers' bytes' out'
      → Plays b (λ (w : World). writes b.settings w c clock digits) kept numbers bytes at out r kept' numbers' bytes' out'
  unfolding writes
  write_here clock digits kept' numbers' bytes' out' h a =
      here_at _ (λ (x : Buffered). unless_short (counted b.settings digits)
      (write_step b.settings.n b.settings.m b.settings.size b.settings.stripes x bench_stripe clock (content b.settings digits)))
      kept' numbers' bytes' out' h a

-- a reply in row k
module _ (b : Bench) (k : ℕ) (kept numbers bytes : List ℕ) (at : ℕ) (out : List ℕ) (r : After) (reply' : Reply)
    (t : is_reply numbers k ≡ true) (er : reply' ≡ reply_at numbers k) where
  item_here : item_at b.settings.size numbers bytes k ≡ reply reply' (sent_block_at b.settings.size bytes k)
  item_here = item_reply b.settings.size k reply' (sent_block_at b.settings.size bytes k) numbers bytes t er refl

  pub reply_past : (out' : List ℕ) → bench_coordinators ≤ coordinator_of reply'.time → ((l : Lent) → Turned b l at out (refuses (world_in b l) bad_number) r l out')
      → Plays b (λ (w : World). carries b.settings w k (item_at b.settings.size numbers bytes k)) kept numbers bytes at out r kept numbers bytes out'
  unfolding carries
  reply_past out' h z =
      subst (λ (i : Item). Plays b (λ (w : World). carries b.settings w k i) kept numbers bytes at out r kept numbers bytes out') (sym item_here)
      (past_at b (coordinator_of reply'.time) kept numbers bytes at out r _ out' h z)

  pub reply_here : (kept' numbers' bytes' out' : List ℕ) → coordinator_of reply'.time < bench_coordinators
      → BenchActed b (coordinator_of reply'.time) (arrives k)
      (λ (h : Buffered). take_step b.settings.n b.settings.m b.settings.size b.settings.stripes h reply' (sent_block_at b.settings.size bytes k) (b.settings.n * b.settings.size))
      kept numbers bytes at out r kept' numbers' bytes' out'
      → Plays b (λ (w : World). carries b.settings w k (item_at b.settings.size numbers bytes k)) kept numbers bytes at out r kept' numbers' bytes' out'
  unfolding carries
  reply_here kept' numbers' bytes' out' h a =
      subst (λ (i : Item). Plays b (λ (w : World). carries b.settings w k i) kept numbers bytes at out r kept' numbers' bytes' out') (sym item_here)
      (here_at b (coordinator_of reply'.time) kept numbers bytes at out r (arrives k)
      (λ (x : Buffered). take_step b.settings.n b.settings.m b.settings.size b.settings.stripes x reply' (sent_block_at b.settings.size bytes k)
      (b.settings.n * b.settings.size)) kept' numbers'
      bytes' out' h a)
