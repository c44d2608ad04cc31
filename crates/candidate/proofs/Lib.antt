-- Laws that belong to no one function.
pub mod Codes
pub mod Lists
pub mod Ends
pub mod FirstFit
pub mod Makings
pub mod Start
pub mod Standing
pub mod Placement
pub mod Reinsertion
pub mod Alike
