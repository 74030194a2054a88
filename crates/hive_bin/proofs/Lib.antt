-- What several proofs use, and the proofs of the crates above cite.
pub mod Signs
pub mod Rows
pub mod Sums
pub mod Pieces
pub mod Steps
pub mod Stepping
pub mod Image
pub mod Totals
pub mod Papers
pub mod Examples
