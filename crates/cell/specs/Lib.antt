pub mod Cells
pub mod Exactly
