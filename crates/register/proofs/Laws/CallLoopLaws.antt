-- Laws of `specs/CallLoop`.
use mathlib.Core.Path.{◌≡◌, refl, sym, ap, ap₂, subst, ◌∙◌}
use mathlib.Core.Bool.{Bool, true, false, cond}
use mathlib.Core.List.Memᴰ
use mathlib.Core.List.{List, [], ◌++◌}
use Prim.Native.Nat.{ℕ, suc, ◌%◌, ◌*◌, ◌≤◌, ◌<◌}
use native.Mathlib.Nat.{mod-lt}
use native.Mathlib.Omega.{arith}
use lib.Dec.{eqb, ltb}
use lib.ListN.{length, replicate, length-replicate}
use borrow.Author.Tests.{eqb-true, eqb-false}
use Rattle.settings.specs.Ranges.{in_range}
use Rattle.settings.specs.Times.{coordinator_count, last_coordinator, coordinator_of}
use Rattle.settings.specs.declared.Settings.{Settings}
use Rattle.settings.specs.Refusal.{passed}
use Rattle.byte_lists.specs.Little.{Bytes}
use Rattle.byte_lists.proofs.Laws.LittleLaws.{bytes_pass}
use Rattle.message.specs.Kinds.{write_kind, modify_kind}
use Rattle.message.specs.declared.Message.{Message}
use Rattle.message.specs.declared.Reply.{Reply}
use Rattle.brick.specs.Receive.{Outcome, beside, outcome, outcome_with, front_refusal, refused_with, given_number}
use Rattle.brick.specs.Receive.{Given}
use Rattle.brick.proofs.Laws.OutcomeLaws.{Fronted, fronted, front_zero, passes}
use Rattle.brick.proofs.Laws.GivenNumberLaws.{outcome_number}
use Rattle.volume.proofs.Laws.RowLaws.{image_back}
use Rattle.volume.specs.Rows.{row_size, image_at, with_image, in_row, row_refusal, row_outcome}
use Rattle.coord_apply.specs.Acts.{buffered}
use Rattle.coord_apply.specs.Answers.{Buffered, Went, Step, refused, went, returned, returned_by}
use Rattle.coord_apply.specs.Answers.{Answer}
use Rattle.coordinator.specs.Routines.{take_step, crash_step, write_step, read_step, write_block_step, read_block_step}
use Rattle.coord_laws.proofs.Laws.StepRunLaws.{took}
use Rattle.order.specs.Claim.{◌∈◌, Seen}
use Rattle.register.specs.Runs.{plain, Item, message, reply, World, Event, start_write, start_read, start_write_block, start_read_block, arrives}
use Rattle.register.specs.Runs.{crashes, goes_down, comes_up, untouched, lost, Moved, unmoved, joined}
use Rattle.register.specs.Runs.{coordinated, replied_with, received, arriving, arriving_at, standing, step, run, put_at, broadcasts}
use Rattle.register.specs.Driver.{driven, Short, holds, held_block, failed}
use Rattle.register.specs.Lending.{SameAnswer}
use Rattle.register.specs.CallLoop.{BufferLengths, RoutineCalls, LentWith, begin, start_write, start_read, start_write_block, start_read_block, take_reply, crash}
use Rattle.register.specs.CallLoop.{receive, receive_image, brick_goes_down, brick_comes_up, power_fails, WriteEnsures, ReadEnsures, WriteBlockEnsures}
use Rattle.register.specs.CallLoop.{ReadBlockEnsures, TakeEnsures, CrashEnsures, Alike, equal, begun_nothing, Agrees, WhoeverCallsMakesARun, WhoeverCallsHasOneOrder}
use Rattle.register.proofs.Laws.AgreeLaws.{Same, Made, made_has_one_order, made_more, made_still, driven_is}
use Rattle.register.proofs.Laws.BesideLaws.{SentRight, Proper, calls_proper}
use Rattle.register.proofs.Laws.CallStartLaws.{crash_fails, start_made}
use Rattle.register.proofs.Laws.FirstDrawLaws.{write_alike, read_alike, write_block_alike, read_block_alike, take_alike, idle_crash, back_alike}
use Rattle.register.proofs.Laws.DriverLaws.{left_untouched, write_short, read_short, write_block_short, read_block_short, crash_short, take_short}
use Rattle.register.proofs.Laws.LendingLaws.{lent_bytes_make_no_difference, unheld_blocks_make_no_difference, zeros_held}
use Rattle.register.proofs.Laws.RefusedEventLaws.{refused_kept, row_refused_kept, kept_unmoved}
use Rattle.register.proofs.Laws.NeverRefusedLaws.{rows_long}

-- what a brick does not refuse was lent with the lengths that the settings ask for
row_passed : (s : Settings) (b : ℕ) (row : List ℕ) (msg : Message) (block old out : List ℕ)
    → given_number (row_outcome s b row msg block old out).given ≡ passed → Fronted s s.stripes b (length row) msg (beside block old out)
unfolding row_outcome row_refusal refused_with given_number
row_passed s b row msg block old out e = fronted s s.stripes b (length row) msg (beside block old out) number refl (go (eqb number passed) refl e)
  where
    number : ℕ
    number = front_refusal s s.stripes b (length row) msg (beside block old out)

    go : (a : Bool) → eqb number passed ≡ a
        → given_number (cond a (in_row s msg.stripe row (outcome s b (image_at s msg.stripe row) msg block old out)) (refused_with number row out)).given ≡ passed
        → number ≡ passed
    go true q h = eqb-true number passed q
    go false q h = h

-- two functions with other values at one place, alike there and elsewhere
put_agrees : {A : Type 0} {P : ℕ → Type 0} (R : ℕ → A → A → Type 0) (f g : ℕ → A) (k : ℕ) (a b : A) → R k a b → ((j : ℕ) → P j → R j (f j) (g j))
    → (j : ℕ) → P j → R j (put_at f k a j) (put_at g k b j)
unfolding put_at
put_agrees R f g k a b e same j p = go (eqb j k) refl
  where
    go : (t : Bool) → eqb j k ≡ t → R j (cond t a (f j)) (cond t b (g j))
    go true q = subst (λ (i : ℕ). R i a b) (sym (eqb-true j k q)) e
    go false q = same j p

module _ (s : Settings) where
  module _ (w v : World) (a : Agrees s w v) where
    coordinated_same : (c : ℕ) (p : Step) → Same s (coordinated s w c p) (coordinated s v c p)
    unfolding coordinated unmoved
    coordinated_same c (refused number) = record { same_seen = λ k. refl; agrees = a }
    coordinated_same c (went g) =
        record {
          same_seen = λ k. refl;
          agrees = record {
            same-image = a.same-image;
            same_up = a.same_up;
            same-coordinator = put_agrees (Alike s) w.coordinators v.coordinators c g.next g.next (equal refl) a.same-coordinator;
            same_sent = ap (λ (l : List Item). l ++ broadcasts s g.sent) a.same_sent;
          };
        }

    received_same : (b : ℕ) (o o' : Outcome) → o.image ≡ o'.image → replied_with o.given o.out ≡ replied_with o'.given o'.out
        → Same s (received s w b o) (received s v b o')
    unfolding received
    received_same b o o' ei er =
        record {
          same_seen = λ k. refl;
          agrees = record {
            same-image = put_agrees (λ _ (x y : List ℕ). x ≡ y) w.images v.images b o.image o'.image ei a.same-image;
            same_up = a.same_up;
            same-coordinator = a.same-coordinator;
            same_sent = ap₂ (λ (l k : List Item). l ++ k) a.same_sent er;
          };
        }

    standing_same : (b : ℕ) (how : Bool) → Same s (standing s w b how) (standing s v b how)
    unfolding standing unmoved
    standing_same b how = go (ltb b s.n)
      where
        stood : World → Moved s
        stood x = record { world = record { images = x.images; up = put_at x.up b how; coordinators = x.coordinators; sent = x.sent }; seen = λ (k : ℕ). [] }

        go : (t : Bool) → Same s (cond t (stood w) (unmoved s w)) (cond t (stood v) (unmoved s v))
        go true =
            record {
              same_seen = λ k. refl;
              agrees = record {
                same-image = a.same-image;
                same_up = put_agrees (λ _ (x y : Bool). x ≡ y) w.up v.up b how how refl a.same_up;
                same-coordinator = a.same-coordinator;
                same_sent = a.same_sent;
              };
            }
        go false = record { same_seen = λ k. refl; agrees = a }

    failed_same : (c : ℕ) → c ≤ last_coordinator → (blocks stripe : List ℕ) → Same s (failed s w c blocks stripe) (failed s v c blocks stripe)
    unfolding failed
    failed_same c l blocks stripe =
        let x = back_alike s c (w.coordinators c) (v.coordinators c) blocks stripe (a.same-coordinator c l) in
        record {
          same_seen = λ j. ap (λ (f : ℕ → List (Seen (plain s))). f j) x.0;
          agrees = record {
            same-image = a.same-image;
            same_up = a.same_up;
            same-coordinator = put_agrees (Alike s) w.coordinators v.coordinators c _ _ x.1 a.same-coordinator;
            same_sent = a.same_sent;
          };
        }

  -- the place of what was sent
  place_of : (w : World) {i : Item} {l : List Item} → i ∈ l → (k : ℕ) × (arriving_at s w l k ≡ arriving s w i)
  unfolding arriving_at
  place_of w (Memᴰ.head e) = (0, ap (arriving s w) (sym e))
  place_of w (Memᴰ.tail m) = let p = place_of w m in (suc p.0, p.1)

  -- equal answers send equal replies
  held_same : (a b : Outcome) → SameAnswer a b
      → replied_with a.given (held_block s a.given a.out) ≡ replied_with b.given (held_block s b.given b.out)
  unfolding held_block
  held_same a b h =
      ap (replied_with a.given) (go (holds a.given) refl) ∙ ap (λ (g : Given). replied_with g (held_block s g b.out)) h.given_is
    where
      go : (t : Bool) → holds a.given ≡ t → cond t a.out (replicate s.size 0) ≡ cond t b.out (replicate s.size 0)
      go true e = h.block-is e
      go false e = refl

  module _ (range : in_range s ≡ true) (r : Moved s) (made : Made s r) where
    abbrev w : World
    w = r.world

    abbrev v : World
    v = (run s made.0).world

    agree : Agrees s w v
    agree = made.2

    -- a routine of a coordinator is called: refused, it is no event; else some event does the same
    routine_made : (c : ℕ) (p : Step) → Short s.size p → ((g : Went) → p ≡ went g → (e : Event) × (step s v e ≡ coordinated s v c (went g)))
        → (a : Answer) (blocks' stripe' coded coded' : List ℕ) → returned a blocks' stripe' coded' ≡ returned_by (w.coordinators c) coded p
        → Made s (joined s r (driven s w c a blocks' stripe' coded'))
    unfolding coordinated
    routine_made c p short goes a blocks' stripe' coded coded' f = go p refl
      where
        m : Moved s
        m = driven s w c a blocks' stripe' coded'

        is : m ≡ coordinated s w c p
        is = driven_is s w c p a blocks' stripe' coded coded' short f

        go : (q : Step) → p ≡ q → Made s (joined s r m)
        go (refused number) e = made_still s r made m (is ∙ ap (coordinated s w c) e)
        go (went g) e =
            let x = goes g e in
            made_more s r made x.0 m
            (subst (λ (y : Moved s). Same s y (step s v x.0)) (sym (is ∙ ap (coordinated s w c) e))
            (subst (λ (y : Moved s). Same s (coordinated s w c (went g)) y) (sym x.1) (coordinated_same w v agree c (went g))))

    write_made : (c : ℕ) → c ≤ last_coordinator → (number reading : ℕ) (content : List ℕ) → Bytes content
        → (a : Answer) (stripe : List ℕ) → WriteEnsures s (w.coordinators c) a number reading content stripe
        → Made s (joined s r (driven s w c a (w.coordinators c).blocks stripe []))
    unfolding step buffered
    write_made c l number reading content small a stripe f =
        routine_made c (write_step s.n s.m s.size s.stripes (w.coordinators c) number reading content)
        (write_short s.n s.m s.size s.stripes (w.coordinators c) number reading content)
        (λ g e.
        let x = write_alike s c (w.coordinators c) (v.coordinators c) (agree.same-coordinator c l) number reading content g e in
        (start_write c number x.0 content, rw (bytes_pass content small) (ap (coordinated s v c) x.1)))
        a (w.coordinators c).blocks stripe [] [] (f (w.coordinators c).blocks [])

    read_made : (c : ℕ) → c ≤ last_coordinator → (number reading first : ℕ) (a : Answer) → ReadEnsures s (w.coordinators c) a number reading first
        → Made s (joined s r (driven s w c a (w.coordinators c).blocks (w.coordinators c).stripe []))
    unfolding step buffered
    read_made c l number reading first a f =
        routine_made c (read_step s.n s.m s.size s.stripes (w.coordinators c) number reading first)
        (read_short s.n s.m s.size s.stripes (w.coordinators c) number reading first)
        (λ g e.
        let x = read_alike s c (w.coordinators c) (v.coordinators c) (agree.same-coordinator c l) number reading first g e in
        (start_read c number x.0 first, ap (coordinated s v c) x.1))
        a (w.coordinators c).blocks (w.coordinators c).stripe [] [] (f (w.coordinators c).blocks (w.coordinators c).stripe [])

    write_block_made : (c : ℕ) → c ≤ last_coordinator → (number reading block : ℕ) (content : List ℕ) → Bytes content
        → (a : Answer) (stripe : List ℕ) → WriteBlockEnsures s (w.coordinators c) a number reading block content stripe
        → Made s (joined s r (driven s w c a (w.coordinators c).blocks stripe []))
    unfolding step buffered
    write_block_made c l number reading block content small a stripe f =
        routine_made c (write_block_step s.n s.m s.size s.stripes (w.coordinators c) number reading block content)
        (write_block_short s.n s.m s.size s.stripes (w.coordinators c) number reading block content)
        (λ g e.
        let x = write_block_alike s c (w.coordinators c) (v.coordinators c) (agree.same-coordinator c l) number reading block content g e in
        (start_write_block c number x.0 block content, rw (bytes_pass content small) (ap (coordinated s v c) x.1)))
        a (w.coordinators c).blocks stripe [] [] (f (w.coordinators c).blocks [])

    read_block_made : (c : ℕ) → c ≤ last_coordinator → (number reading block : ℕ) (a : Answer) → ReadBlockEnsures s (w.coordinators c) a number reading block
        → Made s (joined s r (driven s w c a (w.coordinators c).blocks (w.coordinators c).stripe []))
    unfolding step buffered
    read_block_made c l number reading block a f =
        routine_made c (read_block_step s.n s.m s.size s.stripes (w.coordinators c) number reading block)
        (read_block_short s.n s.m s.size s.stripes (w.coordinators c) number reading block)
        (λ g e.
        let x = read_block_alike s c (w.coordinators c) (v.coordinators c) (agree.same-coordinator c l) number reading block g e in
        (start_read_block c number x.0 block, ap (coordinated s v c) x.1))
        a (w.coordinators c).blocks (w.coordinators c).stripe [] [] (f (w.coordinators c).blocks (w.coordinators c).stripe [])

    -- a crash: where nothing was begun, it is no event
    crash_made : (c : ℕ) → c ≤ last_coordinator → (a : Answer) → CrashEnsures s (w.coordinators c) a
        → Made s (joined s r (driven s w c a (w.coordinators c).blocks (w.coordinators c).stripe []))
    unfolding step buffered
    crash_made c l a f = go (agree.same-coordinator c l)
      where
        p : Buffered → Step
        p k = crash_step s.n s.m s.size s.stripes k

        short : Short s.size (p (w.coordinators c))
        short = crash_short s.n s.m s.size s.stripes (w.coordinators c)

        back : returned a (w.coordinators c).blocks (w.coordinators c).stripe [] ≡ returned_by (w.coordinators c) [] (p (w.coordinators c))
        back = f (w.coordinators c).blocks (w.coordinators c).stripe []

        go : Alike s c (w.coordinators c) (v.coordinators c) → Made s (joined s r (driven s w c a (w.coordinators c).blocks (w.coordinators c).stripe []))
        go (equal q) =
            routine_made c (p (w.coordinators c)) short
            (λ g e. (crashes c untouched, ap (coordinated s v c) (left_untouched s (p (v.coordinators c)) ∙ ap p (sym q) ∙ e)))
            a (w.coordinators c).blocks (w.coordinators c).stripe [] [] back
        go (begun_nothing last blocks stripe q _) =
            made_still s r made (driven s w c a (w.coordinators c).blocks (w.coordinators c).stripe [])
            (driven_is s w c (p (w.coordinators c)) a (w.coordinators c).blocks (w.coordinators c).stripe [] [] short back ∙ idle_crash s w c last blocks stripe q)

    -- a reply is handed on: with a buffer to send from of the right length, as in the run; with another it is refused
    take_made : (x : Reply) (block : List ℕ) → reply x block ∈ w.sent → (lent : List ℕ) → (x.held ≡ true → lent ≡ block)
        → (coded : List ℕ) (a : Answer) (blocks' stripe' coded' : List ℕ)
        → TakeEnsures s (w.coordinators (coordinator_of x.time)) a x lent coded blocks' stripe' coded'
        → Made s (joined s r (driven s w (coordinator_of x.time) a blocks' stripe' coded'))
    unfolding step arriving buffered
    take_made x block was lent same coded a blocks' stripe' coded' f =
        routine_made c (taking lent (length coded) (w.coordinators c))
        (take_short s.n s.m s.size s.stripes (w.coordinators c) x lent (length coded))
        (λ g e.
        let long = (took s.n s.m s.size s.stripes (w.coordinators c) x lent (length coded) g e).takes.coded-length in (
          place.0,
          place.1
              ∙ ap (coordinated s v c)
              (take_alike s c (w.coordinators c) (v.coordinators c) (agree.same-coordinator c low) x block (s.n * s.size) g
              (ap (λ (long : ℕ). taking block long (w.coordinators c)) (sym long)
              ∙ sym (unheld_blocks_make_no_difference s.n s.m s.size s.stripes (w.coordinators c) x lent block (length coded) same)
              ∙ e)),
        ))
        a blocks' stripe' coded coded' f
      where
        c : ℕ
        c = coordinator_of x.time

        taking : List ℕ → ℕ → Buffered → Step
        taking beside long k = take_step s.n s.m s.size s.stripes k x beside long

        low : c ≤ last_coordinator
        low = let h : x.time % coordinator_count < coordinator_count = mod-lt x.time (omega arith) in omega (arith, h)

        place : (e : Event) × (step s v e ≡ coordinated s v c (taking block (s.n * s.size) (v.coordinators c)))
        place = let p = place_of v (subst (λ (l : List Item). reply x block ∈ l) agree.same_sent was) in (arrives p.0, p.1)

    fails_made : (c : ℕ) → c ≤ last_coordinator → (blocks stripe : List ℕ) → BufferLengths s blocks stripe → Made s (joined s r (failed s w c blocks stripe))
    fails_made c l blocks stripe f =
        made_more s r made (crashes c (lost blocks stripe)) (failed s w c blocks stripe)
        (subst (λ (x : Moved s). Same s (failed s w c blocks stripe) x) (sym (crash_fails s range made.0 c l blocks stripe f)) (failed_same w v agree c l blocks stripe))

    stands_made : (e : Event) (b : ℕ) (how : Bool) → step s v e ≡ standing s v b how → Made s (joined s r (standing s w b how))
    stands_made e b how is =
        made_more s r made e (standing s w b how) (subst (λ (x : Moved s). Same s (standing s w b how) x) (sym is) (standing_same w v agree b how))

    -- a message is handed to its brick: with blocks of the right length, as in the run; with others it is refused
    receive_made : Proper s w.sent → (b : ℕ) (msg : Message) (block old : List ℕ) → message b msg block old ∈ w.sent → w.up b ≡ true
        → (lent lent_old out : List ℕ) → LentWith msg block old lent lent_old → (g : Given) (images' out' : List ℕ)
        → outcome_with g images' out' ≡ row_outcome s b (w.images b) msg lent lent_old out
        → Made s (joined s r (received s w b (outcome_with g images' (held_block s g out'))))
    unfolding step arriving
    receive_made proper b msg block old was up lent lent_old out same g images' out' f =
        go (eqb (length lent) s.size) (eqb (length lent_old) s.size) (eqb (length out) s.size) refl refl refl
      where
        noted : Outcome
        noted = outcome_with g images' (held_block s g out')

        zeros : List ℕ
        zeros = replicate s.size 0

        there : message b msg block old ∈ v.sent
        there = subst (λ (l : List Item). message b msg block old ∈ l) agree.same_sent was

        right-one : SentRight s b msg block old
        right-one = proper b msg block old was

        -- what was sent is as long as what is lent
        as-zeros : (l k : List ℕ) → length l ≡ s.size → k ≡ zeros → length l ≡ length k
        as-zeros l k e z = e ∙ sym (ap (λ (x : List ℕ). length x) z ∙ length-replicate s.size 0)

        block-long : length lent ≡ s.size → (t u : Bool) → eqb msg.kind write_kind ≡ t → eqb msg.kind modify_kind ≡ u → length lent ≡ length block
        block-long el true u e q = ap (λ (l : List ℕ). length l) (same.write (eqb-true msg.kind write_kind e))
        block-long el false true e q = ap (λ (l : List ℕ). length l) (same.modify (eqb-true msg.kind modify_kind q)).0
        block-long el false false e q =
            as-zeros lent block el (right-one.no_block (eqb-false msg.kind write_kind e) (eqb-false msg.kind modify_kind q))

        old-long : length lent_old ≡ s.size → (u : Bool) → eqb msg.kind modify_kind ≡ u → length lent_old ≡ length old
        old-long el true q = ap (λ (l : List ℕ). length l) (same.modify (eqb-true msg.kind modify_kind q)).1
        old-long el false q = as-zeros lent_old old el (right-one.no_old (eqb-false msg.kind modify_kind q))

        wrong : (length lent ≡ s.size → length lent_old ≡ s.size → length out ≡ s.size → ⊥) → Made s (joined s r (received s w b noted))
        wrong n =
            let kept = row_refused_kept s b (w.images b) msg lent lent_old out
            (λ z. let h = row_passed s b (w.images b) msg lent lent_old out z in n h.block-is h.old-is h.out-is) in
            made_still s r made (received s w b noted)
            (kept_unmoved s w b noted
            (record {
              image-is = ap (λ (o : Outcome). o.image) f ∙ kept.image-is;
              no-reply = λ x. ap (λ (o : Outcome). replied_with o.given x) f ∙ kept.no-reply x;
            }))

        right : length lent ≡ s.size → length lent_old ≡ s.size → length out ≡ s.size → Made s (joined s r (received s w b noted))
        right el eold eo =
            let place = place_of v there in
            let o = row_outcome s b (w.images b) msg block old zeros in
            let answer = lent_bytes_make_no_difference s b (w.images b) msg lent block lent_old old out zeros
            (block-long el (eqb msg.kind write_kind) (eqb msg.kind modify_kind) refl refl) (old-long eold (eqb msg.kind modify_kind) refl)
            (eo ∙ sym (length-replicate s.size 0)) same.write same.modify in
            made_more s r made (arrives place.0) (received s w b noted)
            (subst (λ (x : Moved s). Same s (received s w b noted) x)
            (sym
            (place.1
            ∙ ap₂
            (λ (t : Bool) (images : List ℕ). cond t (received s v b (row_outcome s b images msg block old zeros)) (unmoved s v))
            (sym (agree.same_up b right-one.to-brick) ∙ up)
            (sym (agree.same-image b right-one.to-brick))))
            (received_same w v agree b noted o (ap (λ (x : Outcome). x.image) f ∙ answer.image-is)
            (ap (λ (x : Outcome). replied_with x.given (held_block s x.given x.out)) f
            ∙ held_same _ o answer
            ∙ zeros_held s b (w.images b) msg block old)))

        go : (t u x : Bool) → eqb (length lent) s.size ≡ t → eqb (length lent_old) s.size ≡ u → eqb (length out) s.size ≡ x
            → Made s (joined s r (received s w b noted))
        go true true true e q z = right (eqb-true (length lent) s.size e) (eqb-true (length lent_old) s.size q) (eqb-true (length out) s.size z)
        go true true false e q z = wrong (λ _ _ k. eqb-false (length out) s.size z k)
        go true false x e q z = wrong (λ _ k _. eqb-false (length lent_old) s.size q k)
        go false u x e q z = wrong (λ k _ _. eqb-false (length lent) s.size e k)

    -- the same with the image of the message's stripe alone: as with the row, or refused by both
    image_made : Proper s w.sent → (b : ℕ) (msg : Message) (block old : List ℕ) → message b msg block old ∈ w.sent → w.up b ≡ true
        → (lent lent_old out : List ℕ) → LentWith msg block old lent lent_old → (g : Given) (image' out' : List ℕ)
        → outcome_with g image' out' ≡ outcome s b (image_at s msg.stripe (w.images b)) msg lent lent_old out
        → Made s (joined s r (received s w b (outcome_with g (with_image s msg.stripe image' (w.images b)) (held_block s g out'))))
    unfolding row_outcome row_refusal in_row
    image_made proper b msg block old was up lent lent_old out same g image' out' f = go (eqb number passed) refl
      where
        row : List ℕ
        row = w.images b

        number : ℕ
        number = front_refusal s s.stripes b (length row) msg (beside lent lent_old out)

        own : Outcome
        own = outcome s b (image_at s msg.stripe row) msg lent lent_old out

        noted : Outcome
        noted = outcome_with g (with_image s msg.stripe image' row) (held_block s g out')

        low : b < s.n
        low = (proper b msg block old was).to-brick

        long : length row ≡ row_size s
        long = ap (λ (l : List ℕ). length l) (agree.same-image b low) ∙ rows_long s range made.0 b low

        -- what the image takes the row takes too
        both : given_number own.given ≡ passed → number ≡ passed
        both e =
            let image = image_at s msg.stripe row in
            let p = passes s b image msg (beside lent lent_old out) (sym (outcome_number s b image msg lent lent_old out) ∙ e) in
            front_zero s s.stripes b (length row) msg (beside lent lent_old out)
            (record {
              range = p.front.range;
              lent_is = unfold row_size in long;
              block-is = p.front.block-is;
              old-is = p.front.old-is;
              out-is = p.front.out-is;
              brick-low = p.front.brick-low;
              stripe-low = p.front.stripe-low;
              block-low = p.front.block-low;
            })

        go : (t : Bool) → eqb number passed ≡ t → Made s (joined s r (received s w b noted))
        go true e =
            receive_made proper b msg block old was up lent lent_old out same g (with_image s msg.stripe image' row) out'
            (ap (λ (o : Outcome). outcome_with o.given (with_image s msg.stripe o.image row) o.out) f ∙ sym (rw (eqb-true number passed e) refl))
        go false e =
            let kept = refused_kept s b (image_at s msg.stripe row) msg lent lent_old out (λ z. eqb-false number passed e (both z)) in
            made_still s r made (received s w b noted)
            (kept_unmoved s w b noted
            (record {
              image-is =
                  ap (λ (o : Outcome). with_image s msg.stripe o.image row) f
                  ∙ ap (λ (l : List ℕ). with_image s msg.stripe l row) kept.image-is
                  ∙ image_back s msg.stripe row;
              no-reply = λ x. ap (λ (o : Outcome). replied_with o.given x) f ∙ kept.no-reply x;
            }))

  calls_made : in_range s ≡ true → (r : Moved s) → RoutineCalls s r → Made s r
  unfolding step
  calls_made e r (begin fresh h) = start_made s e fresh h
  calls_made e r (start_write q p c l number reading content small a stripe f) =
      write_made e q (calls_made e q p) c l number reading content small a stripe f
  calls_made e r (start_read q p c l number reading first a f) = read_made e q (calls_made e q p) c l number reading first a f
  calls_made e r (start_write_block q p c l number reading block content small a stripe f) =
      write_block_made e q (calls_made e q p) c l number reading block content small a stripe f
  calls_made e r (start_read_block q p c l number reading block a f) = read_block_made e q (calls_made e q p) c l number reading block a f
  calls_made e r (take_reply q p x block was lent h coded a blocks' stripe' coded' f) =
      take_made e q (calls_made e q p) x block was lent h coded a blocks' stripe' coded' f
  calls_made e r (crash q p c l a f) = crash_made e q (calls_made e q p) c l a f
  calls_made e r (receive q p b msg block old was up lent lent_old out h g images' out' f) =
      receive_made e q (calls_made e q p) (calls_proper s q p) b msg block old was up lent lent_old out h g images' out' f
  calls_made e r (receive_image q p b msg block old was up lent lent_old out h g image' out' f) =
      image_made e q (calls_made e q p) (calls_proper s q p) b msg block old was up lent lent_old out h g image' out' f
  calls_made e r (brick_goes_down q p b) = stands_made e q (calls_made e q p) (goes_down b) b false refl
  calls_made e r (brick_comes_up q p b) = stands_made e q (calls_made e q p) (comes_up b) b true refl
  calls_made e r (power_fails q p c l blocks stripe f) = fails_made e q (calls_made e q p) c l blocks stripe f

pub whoever_calls_makes_a_run : WhoeverCallsMakesARun
whoever_calls_makes_a_run s e r p = calls_made s e r p

pub whoever_calls_has_one_order : WhoeverCallsHasOneOrder
whoever_calls_has_one_order s e r p = made_has_one_order s e r (whoever_calls_makes_a_run s e r p)
