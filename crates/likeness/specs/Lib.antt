pub mod Agree
pub mod Counts
pub mod Laws
