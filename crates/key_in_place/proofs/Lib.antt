pub mod Place
pub mod Behind
pub mod Never
pub mod Same
pub mod Demands
pub mod Papers
pub mod Examples
