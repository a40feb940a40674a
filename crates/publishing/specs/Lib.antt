pub mod Publishing
pub mod Whole
pub mod Replies
pub mod Written
pub mod Starts
pub mod Examples
pub mod Cases
