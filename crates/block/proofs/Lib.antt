pub mod Passed
pub mod Scrambling
