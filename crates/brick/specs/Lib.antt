-- Receive: one message at one brick, with the image and the refusals. AgainTheorem: the image that it leaves opens.
pub mod AgainTheorem
pub mod Receive
