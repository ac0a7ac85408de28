-- Product: the field. Tables: what the two tables hold. LogSums: how a sum of logarithms is held. TableTheorems: what is proved of them.
pub mod Product
pub mod Tables
pub mod LogSums
pub mod TableTheorems
