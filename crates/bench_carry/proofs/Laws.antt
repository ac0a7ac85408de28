-- A carried number, and the numbers of a line.
pub mod CarryLaws
