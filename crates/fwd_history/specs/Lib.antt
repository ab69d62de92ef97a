-- What a reader must believe of a history. Histories: what it is of several components, and what
-- one of them knows of it. Notes: what an entry asks of the log that keeps it, in that log's words.
pub mod Histories
pub mod Notes
