-- Laws that belong to no one function.
pub mod Sheets
pub mod Shifted
pub mod Apart
pub mod Compacting
pub mod Pushes
pub mod Picks
pub mod Crossed
pub mod Outcomes
