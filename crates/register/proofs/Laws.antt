-- The laws of `register`, for its own proofs and those of the crates above. No contract cites them.

-- Demand 3; what it means for a dealer; nothing that is kept is ever refused; the coordinators are 16; refused events change nothing; when
-- a log has a free entry; what a start shows.
pub mod TheoremProof
pub mod CorollaryLaws
pub mod BlockCorollaryLaws
pub mod NeverRefusedLaws
pub mod SentFitLaws
pub mod AcceptedLaws
pub mod EntryLaws
pub mod AgreementLaws
pub mod SupersededLaws
pub mod MetLaws
pub mod RunLetterLaws
pub mod EndLetterLaws
pub mod CoordinatorEventLaws
pub mod RecoveryLaws
pub mod NamedBrickLaws
pub mod NumberedLaws
pub mod VolumeLaws
pub mod RefusedEventLaws
pub mod FreeEntryLaws
pub mod BeginningLaws
-- What a driver makes of the routines' answers; what may be lent, and what a crash leaves.
pub mod DriverLaws
pub mod IdleRecordLaws
pub mod LendingLaws
-- Whoever calls the routines has made a run: the events so far, coordinators that have begun nothing, what is sent beside messages, the start,
-- the calls.
pub mod AgreeLaws
pub mod FirstDrawLaws
pub mod BesideLaws
pub mod CallStartLaws
pub mod CallLoopLaws
-- All definitions opened, for runs that are computed.
pub mod Opened
-- The invariant (definitions), and what goes on to hold under more facts and more items.
pub mod Invariant
pub mod UpLaws
-- The fresh set.
pub mod FreshRunLaws
-- One message at one brick.
pub mod BrickLogLaws
pub mod ReceiveLaws
pub mod BrickEvent
-- One event at one coordinator: starts, crashes, replies counted, what the q-th decides.
pub mod BegunLaws
pub mod BeganLaws
pub mod TurnLaws
pub mod StripeViewLaws
pub mod BrickViewLaws
pub mod StartEvent
pub mod RoundLaws
pub mod CrashEvent
pub mod CountedLaws
pub mod DecodeLaws
pub mod DecideLaws
pub mod RecoverLaws
pub mod GiveLaws
pub mod ModifyLaws
pub mod DecisionLaws
pub mod ReplyEvent
-- The same on whatever stripe.
pub mod StripeEvent
