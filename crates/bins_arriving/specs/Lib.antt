pub mod Arriving
pub mod Arrival
