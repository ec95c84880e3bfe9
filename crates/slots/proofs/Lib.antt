pub mod Twice
pub mod Recurrence
pub mod Seed
