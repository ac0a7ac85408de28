-- Kinds: the messages by number. Flags: sets of bricks. Messages: what a message and a reply may hold.
pub mod Flags
pub mod Kinds
pub mod Messages
