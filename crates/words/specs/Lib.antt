-- copying
pub mod Inserted
-- append
pub mod Appending
pub mod Numerals
pub mod Ascii
