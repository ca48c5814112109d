pub mod Moves
pub mod Whole
pub mod Beginning
pub mod Steps
pub mod Copying
pub mod Scans
pub mod Preferring
pub mod Picking
