-- What the inner workers state; `bench_rules/Play.carries` says what a carried message does.
pub mod Workers
