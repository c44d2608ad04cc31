-- Laws that belong to no one function.
pub mod Walks
pub mod OnBoards
pub mod BestIndex
pub mod Sheets
pub mod KeyNumbers
pub mod Validity
pub mod Scored
