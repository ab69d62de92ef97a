-- To be believed: Draining, what is seen of a relay that was asked to stop; Leaving, what becomes
-- of its sources then; Visits, what is known of a source behind a visit, and what becomes of it;
-- Keeping, which sources are kept; Refusals, for how long memory counts as short; and Ids, that no
-- id is given twice.
pub mod Draining
pub mod Leaving
pub mod Visits
pub mod Keeping
pub mod Ids
pub mod Refusals
-- Of the crate below, for those above: Ends, which says how the counts at a run's end fit together.
pub use Rattle.fwd_reader.specs.Ends
