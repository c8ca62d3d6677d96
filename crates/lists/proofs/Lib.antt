pub mod Bytes
pub mod Tests
pub mod Sorting
pub mod Once
pub mod Counting
pub mod FromFn
