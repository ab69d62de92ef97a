-- To be believed, all seven: the public calls and laws speak of them, or of what stands on them.
-- No file here only describes the code.
pub mod Agreements
pub mod Digests
pub mod Draws
pub mod Messages
pub mod Readings
pub mod Shown
pub mod Verdicts
