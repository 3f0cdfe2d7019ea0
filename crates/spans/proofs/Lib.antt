pub mod Fading
pub mod Circuits
