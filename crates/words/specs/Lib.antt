pub mod Words
pub mod Refusals
pub mod Paper
pub mod Parts
pub mod Buffers
