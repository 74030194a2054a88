pub mod Bytes
pub mod Feeding
pub mod Left
pub mod Reached
pub mod Arrives
pub mod Examples
