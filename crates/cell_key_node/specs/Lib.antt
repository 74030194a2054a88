pub mod Records
pub mod Checks
pub mod Key
pub mod ValueList
