pub mod InTables
mod Moves
