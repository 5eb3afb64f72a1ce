pub mod Cases
pub mod Refusals
pub mod Rules
pub mod Verdicts
