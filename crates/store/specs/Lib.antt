pub mod Lists
pub mod Calls
pub mod Search
pub mod Kept
pub mod Asking
