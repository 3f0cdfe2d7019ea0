pub mod Lines
pub mod Blocked
pub mod Examples
pub mod Drained
