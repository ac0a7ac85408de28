-- Bytes: the field. Values: what is computed. Polynomials: what is proved of it. Workers: what the inner functions give.
pub mod Bytes
pub mod Polynomials
pub mod Values
pub mod Workers
