pub mod Sentences
pub mod Memory
pub mod Stars
pub mod Plans
pub mod Endings
