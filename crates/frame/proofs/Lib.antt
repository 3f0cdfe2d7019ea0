pub mod Numerals
pub mod Heads
pub mod Lsps
pub mod EntryLists
pub mod Summaries
pub mod Trips
pub mod Answering
pub mod Decoding
