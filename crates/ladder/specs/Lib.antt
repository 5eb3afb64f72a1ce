pub mod Cases
pub mod Exact
pub mod Inside
pub mod Ladders
pub mod Sketches
pub mod Sums
pub mod Tables
pub mod Truth
