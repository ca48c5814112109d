pub mod Pile
pub mod Tops
pub mod Calls
pub mod Bases
