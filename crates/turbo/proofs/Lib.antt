pub mod Streams
pub mod Modes
pub mod Accepted
pub mod Within
pub mod Filling
pub mod Coding
pub mod Weighing
pub mod OneAnswer
