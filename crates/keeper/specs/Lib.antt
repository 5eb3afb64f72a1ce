pub mod Figures
pub mod Listing
pub mod Refusals
pub mod Rules
pub mod Tables
