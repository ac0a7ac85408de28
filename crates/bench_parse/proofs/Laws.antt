-- How a line reads: words, numbers, hex digits, the ways through a line; what callers use; lines computed.
pub mod CallerLaws
pub mod Examples
pub mod HexLaws
pub mod ReadLineLaws
pub mod NumeralLaws
pub mod WordLaws
