pub mod Nan
