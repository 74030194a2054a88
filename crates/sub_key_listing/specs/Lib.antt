pub mod Listing
pub mod Answers
pub mod Steps
pub mod Demands
pub mod Examples
pub mod Uses
