-- Deciding: which reply counts, and what the q-th decides. Decisions: what each decision says of its round.
pub mod Deciding
pub mod Decisions
