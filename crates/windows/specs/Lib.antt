pub mod Fixed
pub mod Refusals
pub mod Windows
