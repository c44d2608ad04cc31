-- Laws that belong to no one function.
pub mod Checks
pub mod Whole
