pub mod ApartEntries
pub mod Hundredths
