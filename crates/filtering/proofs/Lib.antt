pub mod Listing
pub mod Queues
pub mod Rounds
