pub mod States
pub mod Calls
pub mod Words
pub mod Opening
