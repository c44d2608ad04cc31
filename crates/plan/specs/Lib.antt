-- plan
pub mod Sheets
-- plan_words
pub mod Heads
-- sheet_plan
pub mod Replaying
