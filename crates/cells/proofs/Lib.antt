pub mod Inverse
pub mod Signs
pub mod Within
pub mod Fits
