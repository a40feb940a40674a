pub mod Adding
pub mod Events
