pub mod FirstEvent
pub mod Long
pub mod Started
