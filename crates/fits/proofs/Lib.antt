pub mod Orientations
