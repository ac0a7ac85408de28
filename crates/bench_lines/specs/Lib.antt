-- The statement: cutting chunk after chunk gives the lines of the input.
pub mod CuttingTheorem
-- What it speaks of: the lines of an input; what one call cuts off, and calls one after the other.
pub mod Cutting
pub mod Workers
