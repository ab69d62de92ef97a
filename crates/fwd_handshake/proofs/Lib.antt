pub mod DrawLemmas
pub mod Agreeing
pub mod Answered
mod Examples
pub mod Written
