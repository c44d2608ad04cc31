pub mod Outcomes
pub mod Guides
pub mod Sheets
pub mod Unique
