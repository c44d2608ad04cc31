-- search
pub mod Improved
pub mod Regions
-- stored
pub mod Slots
pub mod Populations
-- seeds
pub mod Numbers
pub mod Seeds
-- survival
pub mod NoRank
pub mod Ranks
