pub mod Texts
pub mod Lookups
pub mod Papers
pub mod Examples
pub mod Places
