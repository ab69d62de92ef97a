-- To be read in this order. Agree, Onward, Lists, Inserting and Places are of outcomes, and of
-- lists. Chunks is of the chunks of a worker and of its session; Settling, Settled and Reached say
-- what holds of each history that a run reaches; Follows that the live part follows it, at each
-- event and over a run; Chronicle what the events so far did, and Deliver that whoever is told was
-- delivered. The rest stand by themselves: WayBack, Telling and Marks on what is told, Standing on
-- sessions that have begun, Windows on how many chunks a worker has and what it gives back,
-- Refusals on what is refused, Orders on events that may come in either order, and Examples with
-- the relay at work.
pub mod Agree
pub mod Onward
pub mod Lists
pub mod Inserting
pub mod Places
pub mod Chunks
pub mod Settling
pub mod Settled
pub mod Reached
pub mod Follows
pub mod Chronicle
pub mod Deliver
pub mod WayBack
pub mod Telling
pub mod Waiting
pub mod Marks
pub mod Standing
pub mod Windows
pub mod Refusals
pub mod Orders
mod Examples
