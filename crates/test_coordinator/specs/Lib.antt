-- CoordinatorBoundary: the record and the answer as rows of numbers and bytes, and the six routines on them.
pub mod CoordinatorBoundary
