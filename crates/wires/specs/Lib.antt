pub mod Held
pub mod Wires
pub mod Alone
