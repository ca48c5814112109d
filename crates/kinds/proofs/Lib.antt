pub mod Validity
pub mod Passing
