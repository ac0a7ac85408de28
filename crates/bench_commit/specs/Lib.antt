-- Workers: what the answer of a coordinator's routine does on the bench, and what inner workers ask and give.
pub mod Workers
