-- The laws of `bench_switch`, for its own proof.
pub mod SwitchLaws
