pub mod Trees
pub mod Cuts
