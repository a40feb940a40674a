pub mod Asked
pub mod Noise
