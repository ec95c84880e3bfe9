pub mod Counting
pub mod Numbers
pub mod Sums
pub mod Positions
pub mod Agreement
pub mod Answers
pub mod Placeless
