-- Staying is of one event, which leaves each part that it does not name; Since is of a history. The
-- others are of what a run tells. Histories keeps all that ever came in a run, which its state is
-- the live part of. Marks says that what became of requests matters to nothing else. Receiving is of
-- whose receipt one is, and Delivering is the law on them. Entering is the law on requests of which
-- nobody needs to be told.
pub mod Staying
pub mod Since
pub mod Histories
pub mod Marks
pub mod Receiving
pub mod Growing
pub mod Delivering
pub mod Entering
pub mod Acting
pub mod Keeping
pub mod Fixed
pub mod Carrying
pub mod Adding
pub mod Beginning
pub mod Starting
