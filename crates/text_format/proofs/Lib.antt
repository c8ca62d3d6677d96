pub mod Numbers
pub mod TextWritten
