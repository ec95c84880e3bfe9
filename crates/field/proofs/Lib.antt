mod Entries
pub mod Laws
mod Words
