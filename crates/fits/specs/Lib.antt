-- fits
pub mod FitList
pub mod ByWays
-- patterns
pub mod Orientation
-- choice
pub mod Numbers
