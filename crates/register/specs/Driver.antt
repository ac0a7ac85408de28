-- What a driver does with what the routines give: all that stands between calls of the routines and a run.
use Rattle.std.specs.Prelude.{◌≡◌, Bool, false, cond, List, [], ◌∷◌, ◌++◌, ℕ, eqb, take, replicate}
use Rattle.message.specs.Kinds.{write_kind, modify_kind}
use Rattle.message.specs.declared.Message.{Message}
use Rattle.settings.specs.declared.Settings.{Settings}
use Rattle.erasure.specs.Code.{block_of}
use Rattle.brick.specs.Receive.{Given}
use Rattle.brick.specs.Receive.{Answered, Silent, Refused}
use Rattle.coord_record.specs.Records.{idle_kind, geometry_of, idle_with}
use Rattle.coord_record.specs.declared.Coordinator.{Coordinator}
use Rattle.coord_record.specs.declared.Op.{Op}
use Rattle.coord_apply.specs.Answers.{Buffered, Broadcast, Went, Step, refused, went}
use Rattle.coord_apply.specs.Answers.{Answer}
use Rattle.order.specs.Claim.{cut, Seen}
use Rattle.register.specs.Runs.{plain, World, Moved, put_at, on_stripe, seen_of, broadcasts}

-- a message with its blocks: a Write round's stand in the output buffer; Modify's new block is block j of the stripe beside the record, its
-- old block that of the reply blocks
unfoldable pub with_blocks : (size : ℕ) → Message → (blocks stripe coded : List ℕ) → Broadcast
with_blocks size message blocks stripe coded =
    record {
      message = message;
      blocks = cond (eqb message.kind modify_kind) (block_of size stripe message.block) coded;
      old = block_of size blocks message.block;
    }

-- so many of an answer's two messages, in their order
unfoldable pub listed : (size : ℕ) → Answer → (blocks stripe coded : List ℕ) → List Broadcast
listed size a blocks stripe coded =
    take a.sent (with_blocks size a.message blocks stripe coded ∷ with_blocks size a.second blocks stripe coded ∷ [])

-- What a driver does with a coordinator's answer, and the buffers it had lent: it keeps the record, sends each broadcast to all n bricks,
-- and notes what is seen.
unfoldable pub driven : (s : Settings) → World → ℕ → Answer → (blocks stripe coded : List ℕ) → Moved s
driven s w c a blocks stripe coded =
    record {
      world = record {
        images = w.images;
        up = w.up;
        coordinators = put_at w.coordinators c (record { state = a.next; blocks = blocks; stripe = stripe });
        sent = w.sent ++ broadcasts s (listed s.size a blocks stripe coded);
      };
      seen = on_stripe a.seen.stripe (seen_of s a.seen (record { state = a.next; blocks = blocks; stripe = stripe }));
    }

-- what a brick gives holds a block
unfoldable pub holds : Given → Bool
holds (Answered r) = r.held
holds Silent = false
holds (Refused number) = false

-- The block that a driver sends with a brick's reply: the one it holds. Where it holds none nobody looks at what is sent; here, zeros.
unfoldable pub held_block : Settings → Given → List ℕ → List ℕ
held_block s g out = cond (holds g) out (replicate s.size 0)

-- the cut of an operation, if one runs
unfoldable pub cut_of : (s : Settings) → Op → List (Seen (plain s))
cut_of s op = cond (eqb op.kind idle_kind) [] (Seen.ended op.time cut ∷ [])

-- Coordinator c after power failed: of its record the last count alone is left. It goes on from `idle_with` of the settings, its number and
-- this count, with whatever lies in the buffers.
unfoldable pub back_with : Settings → ℕ → Coordinator → (blocks stripe : List ℕ) → Buffered
back_with s c old blocks stripe =
    record {
      state = idle_with (geometry_of s) (record { coordinator = c; last = old.clock.last });
      blocks = blocks;
      stripe = stripe;
    }

-- power fails at coordinator c
unfoldable pub failed : (s : Settings) → World → ℕ → (blocks stripe : List ℕ) → Moved s
failed s w c blocks stripe =
    record {
      world = record {
        images = w.images;
        up = w.up;
        coordinators = put_at w.coordinators c (back_with s c (w.coordinators c).state blocks stripe);
        sent = w.sent;
      };
      seen = on_stripe (w.coordinators c).state.op.stripe (cut_of s (w.coordinators c).state.op);
    }

-- Modify's blocks are those that a step leaves in the buffers: the new one in the stripe, the old one among the reply blocks
pub record InBuffers (size : ℕ) (k : Buffered) (b : Broadcast) : Type 0 where
  pub new_is : b.message.kind ≡ modify_kind → b.blocks ≡ block_of size k.stripe b.message.block
  pub old-is : b.message.kind ≡ modify_kind → b.old ≡ block_of size k.blocks b.message.block

-- two broadcasts at most, of which only the last may be a Write round: the output buffer has room for one
pub data AtMostTwo (size : ℕ) (k : Buffered) : List Broadcast → Type 0 where
  none : AtMostTwo size k []
  one : (b : Broadcast) → InBuffers size k b → AtMostTwo size k (b ∷ [])
  two : (a b : Broadcast) → InBuffers size k a → InBuffers size k b → eqb a.message.kind write_kind ≡ false → AtMostTwo size k (a ∷ b ∷ [])

-- a step that sends no more than an answer and the buffers have room for
pub data Short (size : ℕ) : Step → Type 0 where
  refuses : (number : ℕ) → Short size (refused number)
  sends : (w : Went) → AtMostTwo size w.next w.sent → Short size (went w)
