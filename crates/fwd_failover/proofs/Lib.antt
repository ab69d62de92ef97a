mod Examples
pub mod Rounds
pub mod Numbers
pub mod Kept
pub mod Orders
pub mod Histories
pub mod Turns
pub mod Firsts
