-- What several proofs use, and the proofs of the crates above cite.
pub mod Checksums
pub mod Xor
pub mod Columns
pub mod Sheets
pub mod Parts
pub mod Papers
pub mod Examples
