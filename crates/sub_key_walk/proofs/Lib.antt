-- What several proofs use, demand 3 (`Demand`), and document 01's examples (`Examples`).
pub mod Walks
pub mod Uses
pub mod Fills
pub mod Papers
pub mod Answers
pub mod Judged
pub mod Traces
pub mod Refusals
pub mod Profiles
pub mod Exactly
pub mod Demand
pub mod Dropped
pub mod Examples
pub mod Pieces
pub mod Entries
pub mod Most
