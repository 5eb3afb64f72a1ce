pub mod Counters
pub mod Printed
pub mod Progress
pub mod Report
pub mod Stream
