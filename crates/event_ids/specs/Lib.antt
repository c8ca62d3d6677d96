pub mod Lanes
pub mod Ids
