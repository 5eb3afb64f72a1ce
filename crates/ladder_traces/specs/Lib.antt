pub mod Exact
pub mod Soundings
