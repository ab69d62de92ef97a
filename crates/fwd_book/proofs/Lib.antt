mod Examples
pub mod Facts
pub mod Found
pub mod Noting
pub mod Linking
pub mod Chaining
pub mod Standing
pub mod Seats
pub mod Keeping
pub mod Stepping
pub mod Following
pub mod Right
pub mod Sound
pub mod Whose
pub mod Dues
pub mod Gathering
