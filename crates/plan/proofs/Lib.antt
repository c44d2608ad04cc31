-- Laws that belong to no one function.
pub mod Reading
pub mod Swaps
pub mod Rebuilding
pub mod Entries
pub mod Whole
pub mod Turns
