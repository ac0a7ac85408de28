-- Routines: one step of each routine, and what a call of it leaves. Workers: what inner workers ask and give.
pub mod Routines
pub mod Workers
