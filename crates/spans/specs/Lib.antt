pub mod Pairs
pub mod Fades
pub mod Joined
pub mod Faded
