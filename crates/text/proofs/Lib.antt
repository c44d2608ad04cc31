mod Texts
mod Longest
mod Whole
