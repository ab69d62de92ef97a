-- To be believed: RunEnds, which says how a run ends, and what each end exits with; Shown, how
-- bytes of a peer stand in the journal; Subjects, what lines are about; Limits, how many lines of
-- one subject a second has room for; and Limited, which limit a line counts at, and what is told of
-- those that are left out. No file here only describes the code.
pub mod RunEnds
pub mod Shown
pub mod Subjects
pub mod Limits
pub mod Limited
