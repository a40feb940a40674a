pub mod Finishers
pub mod Kinds
pub mod Examples
pub mod Nearness
