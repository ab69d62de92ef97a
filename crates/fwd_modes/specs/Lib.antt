-- To be believed, all but Moved, Fronts and ShortOptions: the public calls and laws speak of them,
-- or of what stands on them.
-- Moved, Fronts and ShortOptions only describe what the code has in hand while it reads a request.
pub mod Kinds
pub mod Times
pub mod Entries
pub mod Options
pub mod Requests
pub mod Frames
pub mod Acks
pub mod Readings
pub mod Moved
pub mod Fronts
pub mod ShortOptions
-- Of the crates below, for those above.
pub use Rattle.fwd_msgpack.specs.Heads
pub use Rattle.fwd_msgpack.specs.Scans
