pub mod Claims
pub mod Marks
pub mod Holds
pub mod Cases
