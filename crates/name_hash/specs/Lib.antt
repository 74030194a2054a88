pub mod Characters
pub mod Hash
pub mod Case
