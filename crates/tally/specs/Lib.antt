pub mod Tallies
pub mod TallyLaws
