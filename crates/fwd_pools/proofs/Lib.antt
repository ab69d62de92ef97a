-- Rows is of the pages that a run has left.
pub mod Rows
