pub mod Tapes
pub mod Examples
pub mod Narrow
