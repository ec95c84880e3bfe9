pub mod Count
pub mod Odd
pub mod OneToOne
pub mod Interleaving
