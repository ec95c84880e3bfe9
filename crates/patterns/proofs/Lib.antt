pub mod Rates
pub mod Modes
