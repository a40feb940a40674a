pub mod Events
pub mod Works
