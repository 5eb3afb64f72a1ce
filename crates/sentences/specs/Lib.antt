pub mod Bytes
pub mod Fields
pub mod Format
pub mod Reader
pub mod Refusals
pub mod Shape
