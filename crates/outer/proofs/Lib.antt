pub mod Lagrange
pub mod Ones
pub mod Poly
pub mod Roots
pub mod Solve
pub mod Answers
