-- Events that name nothing in common may come in either order: what an event changes, what it comes
-- to beside a change that it does not name, that it changes only what it names, and the law.
pub mod Changes
pub mod Besides
pub mod Effects
pub mod Commuting
