-- What several proofs use, and the proofs of the crates above cite.
pub mod Little
pub mod Signed
pub mod Parts
pub mod Tests
pub mod Papers
pub mod Every
pub mod Plain
pub mod Buffers
