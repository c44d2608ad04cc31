-- split
pub mod Remainders
pub mod Bounds
-- merging
pub mod Merging
-- best_place
pub mod Places
-- sheet
pub mod Insertions
