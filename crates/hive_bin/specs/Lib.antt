pub mod Walk
pub mod Totals
pub mod Answers
pub mod Steps
