-- Answers: what one event gives, and the answer and buffers of a call. Acts: what a decision does. Workers: what inner workers ask and give.
pub mod Acts
pub mod Answers
pub mod Workers
