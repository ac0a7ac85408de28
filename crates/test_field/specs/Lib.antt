-- What the boundary's functions give.
pub mod FieldBoundary
