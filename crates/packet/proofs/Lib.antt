pub mod Bits
pub mod Number
pub mod Folds
pub mod Register
pub mod Distance
