-- What several proofs cite.
pub mod Digits
pub mod Rounds
pub mod Zeros
pub mod Rolling
pub mod Schedule
pub mod Bytes
pub mod Blocks
pub mod Padding
pub mod Event
