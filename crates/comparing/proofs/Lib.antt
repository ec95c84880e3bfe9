pub mod Lengths
pub mod Filling
pub mod Passing
pub mod Going
pub mod SideBySide
pub mod Edges
