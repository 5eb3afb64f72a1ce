pub mod Kinds
pub mod Printed
