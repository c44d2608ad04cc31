-- shuffle
pub mod Shuffle
