pub mod Table
pub mod Rule
pub mod Laws
pub mod Papers
pub mod Examples
pub mod Case
