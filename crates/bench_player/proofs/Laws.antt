-- A line by what it says, what a call is refused with, and the bytes of a line that are enough.
pub mod HeldLaws
pub mod PlayerRefusalLaws
pub mod PlayerTurnLaws
