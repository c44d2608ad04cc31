-- typed
pub mod Project
-- line
pub mod Words
pub mod Lines
pub mod Messages
