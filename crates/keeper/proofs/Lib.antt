pub mod Admits
pub mod Listings
pub mod Truths
