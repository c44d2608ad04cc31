pub mod Apart
pub mod Scan
pub mod Rounds
pub mod Touching
