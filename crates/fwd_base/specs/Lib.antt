-- To be believed, both: the public calls and the law speak of them.
pub mod Waits
pub mod Tallies
