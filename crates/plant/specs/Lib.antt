pub mod Air
pub mod Calls
