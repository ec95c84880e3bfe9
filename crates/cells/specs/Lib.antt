pub mod Spot
pub mod Symbol
