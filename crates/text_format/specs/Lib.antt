pub mod Text
pub mod Steps
pub mod TextLaws
pub mod Sizes
pub mod RowLaws
pub mod Examples
