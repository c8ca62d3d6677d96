pub mod IdTable
pub mod Columns
pub mod Rounds
pub mod Midway
pub mod Compression
pub mod Events
