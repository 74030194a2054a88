-- What several proofs use, and the proofs of the crates above cite.
pub mod Cells
pub mod Papers
pub mod Exactly
