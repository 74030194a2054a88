pub mod Pieces
pub mod Data
pub mod Answers
pub mod Whole
