pub mod Reports
pub mod HeldEntries
pub mod OpenedBytes
pub mod Shown
