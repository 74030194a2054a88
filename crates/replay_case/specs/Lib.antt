pub mod Case
pub mod Sums
