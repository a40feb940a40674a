pub mod Answers
pub mod Lanes
pub mod Limits
pub mod Phases
pub mod View
pub mod Examples
