pub mod Effects
pub mod Verdicts
pub mod Numbers
