pub mod Model
pub mod Runs
pub mod Law
pub mod Examples
