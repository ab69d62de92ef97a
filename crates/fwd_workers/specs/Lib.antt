-- What a reader must believe of workers. Served: what one turn of a session asks of its link and
-- does with its bytes, and what a session's life is. Endings: why a session ends. Working: what a
-- worker does. Denials: why a server does not let the relay in, as it says. Choosing: which server
-- and which chunk a worker chooses. Doubting: what it remembers of losses. Placed: what its page in
-- the run's history knows of it.
pub mod Served
pub mod Endings
pub mod Working
pub mod Denials
pub mod Choosing
pub mod Doubting
pub mod Placed
-- Of the crates below, for those above.
pub use Rattle.fwd_output.specs.Seats
pub use Rattle.fwd_output.specs.Tickets
pub use Rattle.fwd_output.specs.Turns
pub use Rattle.fwd_output.specs.ChunkStarts
pub use Rattle.fwd_output.specs.Elsewhere
pub use Rattle.fwd_environment.specs.Links
