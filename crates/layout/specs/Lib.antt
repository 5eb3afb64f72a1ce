pub mod Blocks
pub mod Cases
pub mod Covers
pub mod Inside
pub mod Laws
pub mod Slots
