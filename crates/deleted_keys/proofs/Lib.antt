-- What several proofs use.
pub mod Keys
pub mod Scans
pub mod Answers
pub mod Whole
pub mod Papers
pub mod Examples
