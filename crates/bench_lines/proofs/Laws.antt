-- One byte of a chunk after the other; and calls one after the other give the lines (CuttingTheorem).
pub mod CutLaws
pub mod CuttingLaws
