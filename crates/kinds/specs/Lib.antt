pub mod Demands
pub mod Laws
pub mod Listed
pub mod Problems
pub mod Passes
pub mod Shrunk
pub mod Sofar
pub mod Theorems
