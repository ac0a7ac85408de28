-- ClientPlaces: where a client block lies. PlaceTheorem: one to one. Rows: a brick's images, one a stripe, in one row.
-- RowTheorem: a message leaves the other images alone.
pub mod ClientPlaces
pub mod PlaceTheorem
pub mod Rows
pub mod RowTheorem
