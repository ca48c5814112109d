pub mod Replayed
pub mod Recomputes
