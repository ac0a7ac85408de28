-- The set, its runs, and what holds of every run.

-- The set and its runs; demand 3.
pub mod Runs
pub mod Theorem
-- What it means for a dealer; that nothing which is kept is ever refused; what the logs hold; that blocks of one time never disagree; what is
-- superseded; what a letter tells; which bricks a read names; that there are 16 coordinators; that refused events change nothing;
-- when a log has a free entry; what is seen of a start, and that an operation ends once.
pub mod Corollaries
pub mod NeverRefused
pub mod Entries
pub mod Recoveries
pub mod Superseded
pub mod RunLetters
pub mod NamedBricks
pub mod Numbered
pub mod Volumes
pub mod RefusedEvents
pub mod FreeEntries
pub mod Beginnings
-- What a driver does with what the routines give; what may be lent; whoever calls the routines has made a run.
pub mod Driver
pub mod Lending
pub mod CallLoop
