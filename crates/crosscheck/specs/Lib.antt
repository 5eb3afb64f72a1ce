pub mod Gaps
pub mod Right
