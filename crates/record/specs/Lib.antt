pub mod Little
pub mod Kinds
pub mod Numbered
pub mod Counted
pub mod Reads
pub mod Seen
pub mod Writes
