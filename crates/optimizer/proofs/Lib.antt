pub mod Numbers
pub mod Ends
pub mod FromFile
