-- What the loop over a line's numbers keeps; `bench_rules/Play.carried_all` says what the line does.
pub mod Workers
