pub mod Words
pub mod Constants
pub mod Sha256
pub mod FourthBlock
pub mod Rolling
pub mod Vectors
