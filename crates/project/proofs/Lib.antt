-- Laws that belong to no one function.
pub mod Records
pub mod Shape
pub mod Codes
