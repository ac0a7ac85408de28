-- Comparisons: the three comparisons of a brick's answer, and which of them said no first.
pub mod Comparisons
