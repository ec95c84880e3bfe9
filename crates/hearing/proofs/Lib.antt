pub mod Reading
pub mod Heard
