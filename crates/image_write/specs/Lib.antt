-- Changing a saved brick in place. Saving: a fresh image, and the changes of an abstract brick. Workers: what the inner workers ask and give.
pub mod Saving
pub mod Workers
