pub mod Latest
pub mod States
pub mod WithTables
