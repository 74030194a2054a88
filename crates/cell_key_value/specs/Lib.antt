pub mod Value
pub mod Text
pub mod Lookup
