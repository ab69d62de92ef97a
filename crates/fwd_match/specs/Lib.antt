-- To be believed: Patterns, Verdicts and Faults. The public calls speak of them.
-- Marks, Asterisks and Steps only describe how the code reads a pattern and matches with it.
pub mod Patterns
pub mod Verdicts
pub mod Faults
pub mod Marks
pub mod Asterisks
pub mod Steps
