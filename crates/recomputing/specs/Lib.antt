pub mod Walk
pub mod Recomputed
pub mod Walks
pub mod Laws
