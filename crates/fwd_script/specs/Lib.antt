-- To be believed, all but Stops: the public calls and laws speak of them.
-- Stops only describes how the code ends a replay at a line.
pub mod Words
pub mod Lines
pub mod Texts
pub mod Script
pub mod Reads
pub mod Writes
pub mod Replay
pub mod Stops
pub mod Statuses
pub mod Configs
pub mod Checks
pub mod Program
