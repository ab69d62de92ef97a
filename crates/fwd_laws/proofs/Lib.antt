-- Sane is of what each event keeps, Merged of two lists that name nothing in common, Parting of lists
-- that have the same events at each part, and Meetings of two sides of a handshake.
pub mod Sane
pub mod Merged
pub mod Parting
pub mod Meetings
