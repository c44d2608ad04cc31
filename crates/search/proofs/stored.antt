-- Laws that belong to no one function.
pub mod Storing
pub mod Populations
