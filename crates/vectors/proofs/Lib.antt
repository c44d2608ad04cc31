pub mod Corpus
