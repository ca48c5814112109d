pub mod Cells
pub mod Windows
