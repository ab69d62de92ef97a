-- To be believed: lists of events that name nothing in common (Merging), and what a session and a
-- source do that hear each other's bytes (Meeting). No file here only describes the code.
pub mod Merging
pub mod Meeting
