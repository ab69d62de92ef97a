pub mod Checked
pub mod Words
pub mod Unwritten
pub mod Flushed
