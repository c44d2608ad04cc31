-- candidate
pub mod Entries
pub mod Moves
pub mod Stands
pub mod Alike
-- fitness
pub mod Areas
-- scores
pub mod Scores
-- placing
pub mod Bins
pub mod Fitting
pub mod Placing
pub mod Rebuilding
-- evaluation
pub mod OnSheets
pub mod Keys
-- variation
pub mod Compact
pub mod Donated
pub mod Children
