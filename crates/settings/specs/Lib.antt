pub mod Chosen
pub mod Refusals
