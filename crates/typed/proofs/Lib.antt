pub mod File
pub mod Texts
