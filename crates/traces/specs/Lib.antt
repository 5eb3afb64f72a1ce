pub mod Account
pub mod Determined
pub mod Model
pub mod Sequences
pub mod Stages
pub mod Steps
pub mod Traces
