pub mod Backwards
pub mod Counting
pub mod Exact
pub mod Moves
pub mod Rounds
