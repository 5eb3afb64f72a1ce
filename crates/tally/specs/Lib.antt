pub mod Cases
pub mod Laws
pub mod Slots
pub mod Steps
