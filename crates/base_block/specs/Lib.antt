pub mod Checksum
pub mod Block
pub mod Answers
pub mod Columns
pub mod Sheets
