pub mod Listed
pub mod Slid
pub mod Exact
pub mod Progress
pub mod Whole
