pub mod Place
pub mod Answers
pub mod Demands
pub mod Examples
