pub mod Changes
pub mod Over
pub mod Stepping
pub mod Tellings
