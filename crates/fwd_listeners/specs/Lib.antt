-- To be believed: Asked, which lines ask the relay to stop, and within how long; Answers, the lines
-- that it answers; and Endings, why a run ended, by what it left. No file here only describes the
-- code.
pub mod Answers
pub mod Asked
pub mod Endings
