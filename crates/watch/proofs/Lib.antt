mod Pieces
mod Reports
mod Streams
