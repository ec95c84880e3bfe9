pub mod Packets
pub mod Sent
pub mod Grid
pub mod Cells
