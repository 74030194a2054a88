pub mod Cells
pub mod Entries
pub mod Answers
pub mod Written
pub mod Examples
