pub mod Octets
pub mod Ranges
pub mod Checks
pub mod Fields
pub mod Worked
pub mod Texts
