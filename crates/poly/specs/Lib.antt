-- Field: what a field is. Polynomial: polynomials over one, and Lagrange's interpolation. `proofs/Laws/InterpolationLaws` has the theorems.
pub mod Field
pub mod Polynomial
