-- Checks: the checks of each routine, in their order. IdleTheorem: what `idle_with` is handed out of range, the routines refuse.
pub mod Checks
pub mod IdleTheorem
