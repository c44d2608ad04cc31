-- Laws that belong to no one function.
pub mod Firsts
pub mod Passes
pub mod Pushing
pub mod Rounds
