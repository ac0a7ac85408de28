-- Document 02, E3: "Recovery hands on every block of the chosen time; a disagreement ends it aborted. In a run from a fresh set this is shown
-- never to happen." Proved in `proofs/Laws/AgreementLaws`.
use Rattle.std.specs.Prelude.{◌≡◌, true, List, ℕ, ◌*◌, ◌≤◌, length}
use Rattle.settings.specs.Ranges.{in_range, quorum}
use Rattle.settings.specs.Refusal.{passed}
use Rattle.settings.specs.Times.{coordinator_of}
use Rattle.settings.specs.declared.Settings.{Settings}
use Rattle.message.specs.Flags.{members}
use Rattle.message.specs.declared.Reply.{Reply}
use Rattle.coord_blocks.specs.Blocks.{agreeing}
use Rattle.coord_apply.specs.Acts.{givers_at, storing, counting, waiting_or}
use Rattle.coord_apply.specs.Answers.{Buffered}
use Rattle.coord_decide.specs.Deciding.{decided}
use Rattle.coord_decide.specs.declared.Decision.TheVariants.{Recover}
use Rattle.coord_refusals.specs.Checks.{take_refusal}
use Rattle.order.specs.Claim.{◌∈◌}
use Rattle.register.specs.Runs.{reply, World, Event, run}

-- the coordinator that a reply goes to, with its buffers
abbrev pub addressee : World → Reply → Buffered
addressee w a = w.coordinators (coordinator_of a.time)

-- and with that reply counted
abbrev pub counted_at : Settings → World → Reply → List ℕ → Buffered
counted_at s w a block = counting s.size (addressee w a) a block

-- A reply that was sent is taken by its coordinator as the q-th of its round.
pub record QthReply (s : Settings) (w : World) (a : Reply) (block : List ℕ) : Type 0 where
  pub was-sent : reply a block ∈ w.sent
  pub taken :
      take_refusal s.n s.m s.size s.stripes (addressee w a).state a (length block) (length (addressee w a).blocks)
      (length (addressee w a).stripe) (s.n * s.size)
      ≡ passed
  pub is-qth : quorum s.n s.m ≤ members (counted_at s w a block).state.tally.counted s.n

-- And a recovery at this time is decided.
pub record RecoversBy (s : Settings) (w : World) (a : Reply) (block : List ℕ) (time : ℕ) : Type 0 where
  pub qth : QthReply s w a block
  pub decides : decided s.n s.m (counted_at s w a block).state.op (counted_at s w a block).state.tally ≡ Recover time

-- In a run from fresh all blocks of that time lie on one polynomial, and the operation goes on to its Write round.
abbrev pub NoRecoveryDisagrees : Type 0
NoRecoveryDisagrees =
    (s : Settings) → in_range s ≡ true → (events : List Event) (a : Reply) (block : List ℕ) (time : ℕ) → RecoversBy s (run s events).world a block time
    → let k = counted_at s (run s events).world a block in
    (agreeing s.m s.size (givers_at s.n k time) k.blocks ≡ true)
    × (waiting_or s.n s.m s.size k ≡ storing s.n s.m s.size k time)
