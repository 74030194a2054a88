pub mod Deleted
pub mod Scan
pub mod Whole
