pub mod Solve
pub mod Steps
