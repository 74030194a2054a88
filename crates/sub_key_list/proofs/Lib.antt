-- What several proofs use, and the proofs of the crates above cite.
pub mod Cases
pub mod Leaves
pub mod Papers
pub mod SizeWord
pub mod Strict
pub mod Profiles
pub mod ListKinds
