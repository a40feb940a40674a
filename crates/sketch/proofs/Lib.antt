pub mod Noises
pub mod Turns
