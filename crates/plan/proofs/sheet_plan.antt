-- Laws that belong to no one function.
pub mod Parts
pub mod Making
pub mod Steps
pub mod Turns
pub mod Bodies
