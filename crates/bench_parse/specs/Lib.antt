-- How a line of the bench reads: document 01's lines, and what the code's answers stand for.
pub mod Commands
pub mod Lines
pub mod Workers
