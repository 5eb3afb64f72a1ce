pub mod Cuts
pub mod Keeps
