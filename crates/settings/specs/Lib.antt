-- Refusal: the numbers of the refusals, document 01's and those of requests. Ranges: the settings and the quorum. QuorumTheorem: two quorums share
-- m bricks. Times: times and clocks. Draws: the times of one clock. Count: sets of bricks, counted.
pub mod Count
pub mod Draws
pub mod QuorumTheorem
pub mod Ranges
pub mod Refusal
pub mod Times
