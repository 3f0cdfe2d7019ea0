pub mod Kinds
pub mod Messages
pub mod Reading
pub mod Trip
pub mod Meaning
