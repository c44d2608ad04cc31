pub mod Searches
pub mod Sizes
