pub mod Saws
