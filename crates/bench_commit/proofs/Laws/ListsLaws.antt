-- What the answers of the four routines list: two broadcasts at most, and Modify of none but a block that a stripe has.
use mathlib.Core.Path.{◌≡◌, refl, sym, subst}
use mathlib.Core.Bool.{Bool, true, false, cond}
use mathlib.Core.List.{List, [], ◌∷◌, ◌++◌}
use Prim.Native.Nat.{ℕ, ◌<◌}
use native.Mathlib.Omega.{arith}
use lib.Dec.{ltb}
use lib.ListN.{length}
use Rattle.settings.specs.Ranges.{quorum}
use Rattle.settings.specs.Times.{draw_of}
use Rattle.settings.specs.declared.Clock.{Clock}
use Rattle.message.specs.Flags.{members}
use Rattle.message.specs.Kinds.{read_kind, order_kind, order_block_kind, modify_kind, trim_kind, drop_kind}
use Rattle.message.specs.Messages.{names_block}
use Rattle.message.specs.declared.Reply.{Reply}
use Rattle.coord_record.specs.Records.{reading_kind, writing_kind, on_block}
use Rattle.coord_record.specs.Sound.{op_right}
use Rattle.coord_record.specs.declared.Coordinator.{Coordinator}
use Rattle.coord_record.specs.declared.Op.{Op}
use Rattle.coord_decide.specs.Deciding.{decided}
use Rattle.coord_decide.specs.Decisions.{DecisionSays}
use Rattle.coord_decide.proofs.Laws.SaysLaws.{decided_says}
use Rattle.coord_decide.specs.declared.Decision.{Decision}
use Rattle.coord_decide.specs.declared.Decision.TheVariants.{Abort, Give, Look, Store, Modify, Recover, Finish}
use Rattle.coord_apply.proofs.Laws.ActLaws.{recover_either}
use Rattle.coord_apply.proofs.Laws.FirstLaws.{drops_either, trims_either}
use Rattle.coord_apply.specs.Acts.{buffered, round_message, clear_message, clearing, drops_first, trims_first, sending_first, next_op, next_round, modifying}
use Rattle.coord_apply.specs.Acts.{ending, acted, counting, with_tally, waiting_or, first_op}
use Rattle.coord_apply.specs.Acts.{starting}
use Rattle.coord_apply.specs.Answers.{Buffered, Broadcast, Went, Step, refused, went, nothing_seen, no_message, sent_message, answer_of, returned, returned_by}
use Rattle.coord_apply.specs.Answers.{Answer, answer_in}
use Rattle.coord_apply.specs.declared.Answer as Code
use Rattle.settings.specs.declared.Refusal.{Refusal}
use Rattle.std.specs.Prelude.{Result, Ok, Err, IfOk}
use Rattle.coord_apply.proofs.Laws.AnswerLaws.{returned_answer}
use Rattle.coordinator.specs.Routines.{take_step, write_step, read_step, write_call, read_call, take_call, crash_call}
use Rattle.coord_laws.proofs.Laws.OpCaseLaws.{in_block_order}
use Rattle.coord_laws.proofs.Laws.StepRunLaws.{took}
use Rattle.register.specs.Driver.{Short}
use Rattle.register.proofs.Laws.DriverLaws.{few_returned, write_short, read_short, crash_short, take_short}
use Rattle.bench_commit.specs.Workers.{Lists}
use Rattle.bench_commit.proofs.Laws.CommitStepLaws.{WentSo, so_checked, so_drawn, crash_so}

-- each Modify among these broadcasts is of a block below m
abbrev NamesLow : (m : ℕ) → List Broadcast → Type 0
NamesLow m [] = Unit {0}
NamesLow m (b ∷ l) = (b.message.kind ≡ modify_kind → b.message.block < m) × NamesLow m l

-- the message of broadcast k; where there is none it has no kind
names_at : (m k : ℕ) (l : List Broadcast) → NamesLow m l → (sent_message k l).kind ≡ modify_kind → (sent_message k l).block < m
unfolding sent_message no_message
names_at m k [] h e = absurd (omega arith)
names_at m ℕ.zero (b ∷ l) h e = h.0 e
names_at m (ℕ.suc k) (b ∷ l) h e = names_at m k l h.1 e

-- the messages of the answer of such a step
module _ (m : ℕ) (c : Coordinator) where
  abbrev FirstLow : Answer → Type 0
  FirstLow a = a.message.kind ≡ modify_kind → a.message.block < m

  abbrev SecondLow : Answer → Type 0
  SecondLow a = a.second.kind ≡ modify_kind → a.second.block < m

  first_low : (p : Step) → WentSo (λ (g : Went). NamesLow m g.sent) p → FirstLow (answer_of c p)
  unfolding answer_of no_message
  first_low (refused k) h e = absurd (omega (arith, e))
  first_low (went g) h e = names_at m 0 g.sent h e

  second_low : (p : Step) → WentSo (λ (g : Went). NamesLow m g.sent) p → SecondLow (answer_of c p)
  unfolding answer_of no_message
  second_low (refused k) h e = absurd (omega (arith, e))
  second_low (went g) h e = names_at m 1 g.sent h e

-- a start and a crash send no Modify
start_low : (m : ℕ) (h : Buffered) (clock : Clock) (op : Op) (stripe targets : List ℕ) → (op.phase ≡ modify_kind → ⊥) → NamesLow m (starting h clock op stripe targets).sent
unfolding starting round_message
start_low m h clock op stripe targets n = ((λ e. absurd (n e)), tt)

-- what goes out first, and what follows
ahead_low : (m : ℕ) (a b : List Broadcast) → NamesLow m a → NamesLow m b → NamesLow m (a ++ b)
ahead_low m [] b x y = y
ahead_low m (z ∷ a) b x y = (x.0, ahead_low m a b x.1 y)

-- Trim and Drop are no Modify
clear_low : (m kind time : ℕ) (op : Op) → (kind ≡ modify_kind → ⊥) → NamesLow m (clearing kind op time ∷ [])
unfolding clearing clear_message
clear_low m kind time op n = ((λ e. absurd (n e)), tt)

-- a decision sends it in a block write, whose block is one of m
module _ (n m size : ℕ) (h : Buffered) (right : op_right h.state.op ≡ true) (low : on_block h.state.op.kind ≡ true → h.state.op.first < m) where
  modify_low : h.state.op.phase ≡ order_block_kind → h.state.op.first < m
  unfolding on_block
  modify_low e = low (rw (in_block_order h.state.op right e).kind-is refl)

  acted_low : (d : Decision) → DecisionSays n m h.state.op h.state.tally d → NamesLow m (acted n m size h d).sent
  unfolding acted ending sending_first next_round modifying round_message next_op clearing clear_message names_block DecisionSays
  acted_low Abort s = tt
  acted_low Give s = tt
  acted_low (Look max) s =
      ahead_low m (drops_first h.state.op max) _
      (drops_either h.state.op max (NamesLow m) (λ _. tt) (λ _. clear_low m drop_kind max h.state.op (λ e. omega (arith, e)))) ((λ e. absurd (omega (arith, e))), tt)
  acted_low Store s = ((λ e. absurd (omega (arith, e))), tt)
  acted_low (Modify time) s = ((λ e. modify_low s.phase-is), tt)
  acted_low (Recover time) s = recover_either n m size h time (λ (w : Went). NamesLow m w.sent)
      (ahead_low m (trims_first n m h.state.op h.state.tally time) _
      (trims_either n m h.state.op h.state.tally time (NamesLow m) (λ _. tt) (λ _. clear_low m trim_kind time h.state.op (λ e. omega (arith, e)))) ((λ e. absurd (omega (arith, e))), tt)) tt
  acted_low Finish s = ((λ e. absurd (omega (arith, e))), tt)

  waits_low : NamesLow m (waiting_or n m size h).sent
  unfolding waiting_or
  waits_low = go (ltb (members h.state.tally.counted n) (quorum n m))
    where
      go : (b : Bool)
          → NamesLow m (cond b (record { next = h; sent = []; seen = nothing_seen }) (acted n m size h (decided n m h.state.op h.state.tally))).sent
      go true = tt
      go false = acted_low (decided n m h.state.op h.state.tally) (decided_says n m h.state.op h.state.tally)

take_low : (n m size stripes : ℕ) (h : Buffered) (r : Reply) (block : List ℕ) (coded : ℕ)
    → WentSo (λ (g : Went). NamesLow m g.sent) (take_step n m size stripes h r block coded)
unfolding counting with_tally
take_low n m size stripes h r block coded = go (take_step n m size stripes h r block coded) refl
  where
    go : (p : Step) → take_step n m size stripes h r block coded ≡ p → WentSo (λ (g : Went). NamesLow m g.sent) p
    go (refused k) e = tt
    go (went g) e =
        let t = took n m size stripes h r block coded g e in
        subst (λ (v : Went). NamesLow m v.sent) t.is (waits_low n m size (counting size h r block) t.takes.parts.op-right t.takes.parts.block-low)

-- What a call left is such an answer.
module _ (n m size stripes : ℕ) (c : Coordinator) (blocks stripe coded : List ℕ) (a : Answer) (blocks' stripe' coded' : List ℕ) where
  lists_returned : (p : Step) → Short size p → WentSo (λ (g : Went). NamesLow m g.sent) p
      → returned a blocks' stripe' coded' ≡ returned_by (buffered c blocks stripe) coded p → Lists m a.sent a.message a.second
  lists_returned p h l e =
      let q = sym (returned_answer c blocks stripe coded p a blocks' stripe' coded' e) in
      record {
        few = few_returned c blocks stripe coded p a blocks' stripe' coded' h e;
        first-low = subst (FirstLow m c) q (first_low m c p l);
        second-low = subst (SecondLow m c) q (second_low m c p l);
      }

  pub write_lists : (number reading : ℕ) (bytes : List ℕ)
      → returned a blocks' stripe' coded' ≡ write_call n m size stripes c blocks stripe coded number reading bytes → Lists m a.sent a.message a.second
  unfolding write_step first_op
  write_lists number reading bytes e =
      lists_returned _ (write_short n m size stripes (buffered c blocks stripe) number reading bytes)
      (so_checked _ _ _ (so_drawn _ (draw_of (buffered c blocks stripe).state.clock reading) _ (λ t d. start_low m _ d (first_op writing_kind order_kind number t 0) _ _ (λ q. omega (arith, q))))) e

  pub read_lists : (number reading first : ℕ)
      → returned a blocks' stripe' coded' ≡ read_call n m size stripes c blocks stripe coded number reading first → Lists m a.sent a.message a.second
  unfolding read_step first_op
  read_lists number reading first e =
      lists_returned _ (read_short n m size stripes (buffered c blocks stripe) number reading first)
      (so_checked _ _ _ (so_drawn _ (draw_of (buffered c blocks stripe).state.clock reading) _ (λ t d. start_low m _ d (first_op reading_kind read_kind number t first) _ _ (λ q. omega (arith, q))))) e

  pub crash_lists : returned a blocks' stripe' coded' ≡ crash_call n m size stripes c blocks stripe coded → Lists m a.sent a.message a.second
  unfolding ending
  crash_lists e =
      lists_returned _ (crash_short n m size stripes (buffered c blocks stripe)) (crash_so n m size stripes (buffered c blocks stripe) _ tt tt) e

  pub take_lists : (r : Reply) (block : List ℕ)
      → returned a blocks' stripe' coded' ≡ take_call n m size stripes c blocks stripe coded r block → Lists m a.sent a.message a.second
  take_lists r block e =
      lists_returned _ (take_short n m size stripes (buffered c blocks stripe) r block (length coded))
      (take_low n m size stripes (buffered c blocks stripe) r block (length coded)) e

-- of an answer that is no refusal
pub lists_given : (m : ℕ) (old : Coordinator) (x : Result Code.Answer Refusal) → Lists m (answer_in old x).sent (answer_in old x).message (answer_in old x).second
    → IfOk x (λ (a : Code.Answer). Lists m a.sent a.message a.second)
lists_given m old (Ok a) l = l
lists_given m old (Err r) l = tt
