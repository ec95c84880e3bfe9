pub mod Reading
pub mod Demands
pub mod Right
