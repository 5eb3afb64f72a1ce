pub mod ShortKeys
pub mod Adding
pub mod Judging
