pub mod Streams
pub mod Within
pub mod Coded
pub mod Blocks
