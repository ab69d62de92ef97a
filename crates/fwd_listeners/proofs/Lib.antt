pub mod Leaving
pub mod Reading
mod Examples
