pub mod Steps
pub mod Sheets
