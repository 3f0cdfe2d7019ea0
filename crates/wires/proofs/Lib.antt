pub mod Inboxes
pub mod Spread
