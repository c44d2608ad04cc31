-- Laws that belong to no one function.
pub mod OnBoard
pub mod Tries
pub mod Rebuilt
pub mod NextCut
pub mod InOrder
pub mod Opening
pub mod Remaking
pub mod Rebuilding
