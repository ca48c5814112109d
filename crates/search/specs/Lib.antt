pub mod Choosing
pub mod Remaining
pub mod Sessions
pub mod Runs
pub mod Lawful
