pub mod Due
pub mod Whole
