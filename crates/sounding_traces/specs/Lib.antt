pub mod Model
pub mod Traces
