-- Counting: what the counted replies of a round say, brick by brick, and rows of bricks. FirstTheorem: the first m of a set, and that it is one.
pub mod Counting
pub mod FirstTheorem
