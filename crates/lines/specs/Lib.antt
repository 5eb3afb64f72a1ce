pub mod Ends
pub mod Lines
pub mod Kept
