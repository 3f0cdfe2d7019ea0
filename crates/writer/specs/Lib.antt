pub mod Places
pub mod Writing
pub mod Listing
pub mod Summaries
