pub mod Printed
pub mod Soundings
