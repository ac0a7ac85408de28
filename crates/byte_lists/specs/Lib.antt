-- Bytes and lists: little-endian numbers, lists made and put together, a rule for each place.
pub mod Little
pub mod Each
pub mod Lists
