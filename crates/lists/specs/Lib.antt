pub mod Base
pub mod Elements
pub mod Language
pub mod Parts
pub mod Padded
