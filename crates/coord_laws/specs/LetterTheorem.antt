-- Document 02, E5: the letters change nothing else. What a no said, in a reply or kept in a tally, makes no difference to which replies count, to
-- the record otherwise, to what is sent, to the buffers and to how an operation ends. Proved in `proofs/Laws/UnletteredLaws`.
use Rattle.std.specs.Prelude.{◌≡◌, List, ℕ, length, replicate}
use Rattle.settings.specs.Ranges.{max_bricks}
use Rattle.message.specs.Kinds.{no_comparison}
use Rattle.message.specs.Messages.{reply_right}
use Rattle.message.specs.declared.Reply.{Reply}
use Rattle.coord_letters.specs.Letters.{no_letter}
use Rattle.coord_record.specs.Sound.{sound_record}
use Rattle.coord_record.specs.declared.Tally.{Tally}
use Rattle.coord_apply.specs.Acts.{with_tally}
use Rattle.coord_apply.specs.Answers.{Buffered, Went, went}
use Rattle.coord_refusals.specs.Checks.{take_refusal}
use Rattle.coordinator.specs.Routines.{take_step}

-- a tally, a coordinator and a reply without what a no said
unfoldable pub unsaid_tally : Tally → Tally
unsaid_tally t = record { counted = t.counted; granted = t.granted; held = t.held; found = t.found; said = replicate max_bricks no_comparison }

unfoldable pub unsaid : Buffered → Buffered
unsaid h = record { state = with_tally h.state (unsaid_tally h.state.tally); blocks = h.blocks; stripe = h.stripe }

unfoldable pub unsaid_reply : Reply → Reply
unsaid_reply r =
    record {
      kind = r.kind;
      brick = r.brick;
      stripe = r.stripe;
      time = r.time;
      round = r.round;
      yes = r.yes;
      found = r.found;
      held = r.held;
      comparison = no_comparison;
    }

-- what a step gives, without what a no said and without its letter
unfoldable pub unlettered : Went → Went
unlettered w =
    record {
      next = unsaid w.next;
      sent = w.sent;
      seen = record {
        what = w.seen.what;
        kind = w.seen.kind;
        stripe = w.seen.stripe;
        time = w.seen.time;
        block = w.seen.block;
        bricks = w.seen.bricks;
        letter = no_letter;
      };
    }

-- Two coordinators with the replies that reach them, equal but for what the nos said: by refusals 6 and 10, which look at that, both are refused or
-- neither is.
pub record AlikeButForNos (n m size stripes : ℕ) (h h' : Buffered) (r r' : Reply) : Type 0 where
  pub same-coordinator : unsaid h ≡ unsaid h'
  pub same-reply : unsaid_reply r ≡ unsaid_reply r'
  pub alike-sound : sound_record n m size stripes h.state ≡ sound_record n m size stripes h'.state
  pub alike_right : reply_right r ≡ reply_right r'

-- Which replies count does not depend on it: both count, or both are refused, by the same number;
abbrev pub SameRepliesCount : Type 0
SameRepliesCount =
    (n m size stripes : ℕ) (h h' : Buffered) (r r' : Reply) (block : List ℕ) (coded : ℕ) → AlikeButForNos n m size stripes h h' r r'
    → take_refusal n m size stripes h.state r (length block) (length h.blocks) (length h.stripe) coded
    ≡ take_refusal n m size stripes h'.state r' (length block) (length h'.blocks) (length h'.stripe) coded

-- nor does anything that a reply does where it is accepted, but what is kept of a no and the letter.
abbrev pub LettersChangeNothingElse : Type 0
LettersChangeNothingElse =
    (n m size stripes : ℕ) (h h' : Buffered) (r r' : Reply) (block : List ℕ) (coded : ℕ) (w w' : Went)
    → unsaid h ≡ unsaid h' → unsaid_reply r ≡ unsaid_reply r'
    → take_step n m size stripes h r block coded ≡ went w → take_step n m size stripes h' r' block coded ≡ went w'
    → unlettered w ≡ unlettered w'
