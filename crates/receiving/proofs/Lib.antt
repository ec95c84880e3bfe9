pub mod Judgement
pub mod Numbers
pub mod States
pub mod Fed
pub mod Putting
