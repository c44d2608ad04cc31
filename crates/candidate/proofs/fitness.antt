pub mod Shares
pub mod Sheets
pub mod Bounds
