pub mod Found
pub mod Lines
pub mod Sound
pub mod Numbers
pub mod PlaceLaws
