-- BrickBoundary: the brick's routines at a boundary of numbers and slices.
pub mod BrickBoundary
