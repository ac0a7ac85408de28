-- Every valid history of a quorum-replicated stripe has one order (strict linearizability).

-- The claim, which knows nothing of quorums, promises or stores; and the theorem.
pub mod Claim
pub mod HistoryTheorem
-- Histories: facts, places in a history, quorums, which histories are valid.
pub mod Facts
pub mod Places
pub mod Quorums
pub mod Valid
-- What one order means for those who read and write.
pub mod OrderUse
-- What the claim rules out; histories written out, and their orders.
pub mod ClaimExample
pub mod BenchExample
pub mod RolledForward
