pub mod Linear
pub mod Trims
pub mod Laws
pub mod Ends
