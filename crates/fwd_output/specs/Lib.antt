-- What a reader must believe of an output. Coupling: what ties its chunks to its requests.
-- OutputEvents: its own events, and the histories that they reach. HandedBack: the chunks that
-- workers have, and what goes back. Seats: who may raise a counter. Tickets: what was admitted, and
-- which receipts are right for it. Turns: what one turn under the lock does. ChunkStarts: when the
-- chunks were begun that are not settled. Elsewhere: where a chunk goes that was lost. Looks: what a
-- worker sees, and how it takes a chunk by that. Paged: what an output's page knows of it.
-- PagedSources: the same of a source, whose requests enter outputs.
pub mod Coupling
pub mod OutputEvents
pub mod HandedBack
pub mod Seats
pub mod Tickets
pub mod Turns
pub mod ChunkStarts
pub mod Elsewhere
pub mod Looks
pub mod Paged
pub mod PagedSources
-- Of the crates below, for those above.
pub use Rattle.fwd_failover.specs.Doubts
pub use Rattle.fwd_model.specs.declared.event.EndKind
pub use Rattle.fwd_model.specs.Live
pub use Rattle.fwd_model.specs.Outputs
pub use Rattle.fwd_model.specs.Step
